-- One turn more of a loop that says something of each place passed, from a place on. Assumes nothing.
use Rattle.std.specs.Prelude.{ℕ, ◌+◌, ◌≤◌, ◌<◌, ◌≡◌}
use Rattle.std.proofs.Common.{arith, subst}
use Rattle.std.proofs.Math.Decide.{dec_lt}

pub between_more : {P : ℕ → Type 0} (a i : ℕ) → ((k : ℕ) → a ≤ k → k < i → P k) → P i → (k : ℕ) → a ≤ k → k < i + 1 → P k
between_more {P} a i f p k h l = go (dec_lt k i)
  where
    go : Dec (k < i) → P k
    go (yes q) = f k h q
    go (no n) = let e : i ≡ k = omega arith in subst P e p
