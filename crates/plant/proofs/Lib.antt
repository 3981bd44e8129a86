-- What follows from the definitions of specs/.
pub mod SafeLaws
pub mod TableLaws
pub mod MarkLaws
pub mod Falling
pub mod TidyLaws
pub mod JobLaws
pub mod Once
pub mod Explore
pub mod MaskLaws
pub mod AllowedLaws
