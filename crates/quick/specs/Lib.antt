-- A row without reading the whole file.
-- A reader believes this:
pub mod Quick
-- What follows:
pub mod QuickLaws
