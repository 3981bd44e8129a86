-- The numbers 1, .., n: a test of each and of some, and the greatest that a function gives them.
use Rattle.std.specs.Prelude.{ℕ, zero, suc, ◌≤◌, max, Bool, true, false, ◌&&◌, ◌||◌}

abbrev pub In : ℕ → ℕ → Type 0
In n i = (1 ≤ i) × (i ≤ n)

-- the test of `p` at 1, .., n: does it hold of each, does it hold of one
abbrev pub every : ℕ → (ℕ → Bool) → Bool
every zero p = true
every (suc n) p = p (suc n) && every n p

abbrev pub some : ℕ → (ℕ → Bool) → Bool
some zero p = false
some (suc n) p = p (suc n) || some n p

abbrev pub greatest : ℕ → (ℕ → ℕ) → ℕ
greatest zero f = 0
greatest (suc n) f = max (f (suc n)) (greatest n f)
