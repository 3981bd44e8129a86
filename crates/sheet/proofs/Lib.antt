-- What follows from the definitions of specs/.
pub mod WordLaws
pub mod ArraysLaws
pub mod Obeys
pub mod OrderLaws
pub mod LateLaws
pub mod RowsLaws
pub mod Sentences
pub mod ArrivalsFirst
pub mod Demand3Laws
pub mod StarredLaws
