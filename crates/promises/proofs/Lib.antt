-- What follows from the definitions of specs/.
pub mod NightLaws
pub mod Demand1Laws
pub mod Demand3Laws
pub mod PromisesLaws
pub mod Idle
