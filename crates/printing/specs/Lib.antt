-- What the printing program prints.
-- A reader believes this:
pub mod Prints
-- What the code's parts print:
pub mod RowLines
-- What follows:
pub mod RowLinesLaws
pub mod MadeLaws
pub mod OneText
