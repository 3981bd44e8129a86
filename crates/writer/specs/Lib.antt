-- A block written piece by piece, from the front on.
pub mod WriteLaws
