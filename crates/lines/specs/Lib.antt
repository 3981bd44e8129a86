-- Numbers and lines as text.
-- A reader believes these:
pub mod Digits
pub mod Words
pub mod Lines
pub mod Printed
pub mod Pages
-- What the code's parts print:
pub mod Parts
-- What follows:
pub mod DigitsLaws
pub mod LineLaws
pub mod PrintedLaws
pub mod PagesLaws
