-- Sheets, states, events and bytes of starts as numbers.
-- A reader believes these:
pub mod Refusals
pub mod Statuses
pub mod EventByte
pub mod Bits
pub mod Clocks
pub mod Lent
pub mod Lowest
-- What follows:
pub mod EventLaws
pub mod BitLaws
pub mod KnownLaws
pub mod WordBack
pub mod Tell
pub mod LowestLaws
pub mod LentLaws
