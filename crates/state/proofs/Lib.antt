-- What the proofs of more than one function, or long ones, lean on.
pub mod Packing
