-- What a function that prints leaves behind: bytes put at a place where there is room, the place behind them, the rest as before.
use Rattle.std.specs.Prelude.{ℕ, ◌+◌, ◌≤◌, ◌≡◌, List, length}
use Rattle.std.proofs.Math.Seq.{paste}

pub record Printed (before : List ℕ) (at : ℕ) (bytes : List ℕ) (next : ℕ) (after : List ℕ) : Type 0 where
  pub room : at + length bytes ≤ length before
  pub behind : next ≡ at + length bytes
  pub stands : after ≡ paste before at bytes (length bytes)
