-- The three demands of the calls, a field a sentence with the user's words above it, and that they hold. Open `Promises` first.
-- A reader believes these, which have no proof in them:
pub mod Promises
pub mod Numbered
pub mod Demand1
pub mod Demand2
pub mod Night
pub mod Demand3
pub mod Engine
-- What follows: that they hold.
pub mod MadeLaws
pub mod TakenLaws
pub mod Demand2Laws
pub mod EngineLaws
pub mod Starred
