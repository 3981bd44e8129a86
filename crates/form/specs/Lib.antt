-- The form of rows and of blocks, as the code tests it.
pub mod RowTest
pub mod BlockTest
-- What follows:
pub mod DigitLaws
pub mod TestLaws
pub mod PassLaws
pub mod RowRight
pub mod RowAnswers
pub mod Loops
