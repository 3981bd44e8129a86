-- Rows by an order of places.
-- A reader believes this:
pub mod Filing
-- What follows:
pub mod PlaceLaws
pub mod FilingLaws
pub mod TellingLaws
