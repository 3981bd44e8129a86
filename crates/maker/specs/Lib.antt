-- The maker.
-- A reader believes this:
pub mod Making
-- What follows:
pub mod MakingLaws
pub mod OneAnswer
