-- The text of a sheet.
-- A reader believes this:
pub mod SheetText
-- What the code's parts read:
pub mod Padded
pub mod Fields
-- What follows:
pub mod PaddedLaws
pub mod FieldLaws
pub mod RunLaws
pub mod GroupLaws
pub mod ReadLaws
pub mod Example
