-- The bytes of a table file.
-- A reader believes these:
pub mod Sizes
pub mod Bytes
pub mod File
pub mod Tab
pub mod Fields
pub mod Rows
-- What follows:
pub mod Starred
pub mod BytesLaws
pub mod CheckLaws
pub mod TabLaws
pub mod BlockLaws
pub mod SlotLaws
pub mod FileLaws
