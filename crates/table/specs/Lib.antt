-- A table file read.
-- A reader believes these:
pub mod Reading
pub mod Read
pub mod ReadFor
pub mod Replies
pub mod Judging
pub mod Places
-- What follows:
pub mod ReadingLaws
pub mod RoundTrip
pub mod BlockRight
pub mod JobsRight
pub mod FileRight
pub mod Decide
pub mod SomeReading
pub mod ReadLaws
pub mod TableBytes
pub mod PlaceLaws
pub mod ReadForLaws
pub mod PastLaws
pub mod RowLaws
pub mod ListingLaws
pub mod LeewayLaws
