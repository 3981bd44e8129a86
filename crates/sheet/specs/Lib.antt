-- Sheets of jobs with known arrivals.
-- A reader believes these:
pub mod Model
pub mod Table
pub mod Form
pub mod Arrays
pub mod Wordy
pub mod ModelTests
-- What follows:
pub mod ModelTestsRight
pub mod Demand3
pub mod Starred
