-- How many things there are of which something holds.
use Rattle.std.specs.Prelude.{ℕ, ◌≡◌, ◌↔◌, length}
use mathlib.Core.List.{List, [], ◌∷◌, Memᴰ}

-- no two of a list are the same
abbrev pub Distinct : {A : Type 0} → List A → Type 0
Distinct [] = Unit {0}
Distinct (q ∷ l) = (¬ (Memᴰ q l)) × Distinct l

-- there are `n` things of which `P` holds
pub record Number {A : Type 0} (P : A → Type 0) (n : ℕ) : Type 0 where
  pub list : List A
  pub each : (q : A) → P q ↔ Memᴰ q list
  pub once : Distinct list
  pub many : length list ≡ n
