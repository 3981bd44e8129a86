-- The step of a desk.
-- A reader believes this:
pub mod Stepping
pub mod Desks
-- What follows:
pub mod Moving
pub mod Stages
pub mod StepLaws
pub mod MoveLaws
pub mod FirstBlock
pub mod StageLaws
