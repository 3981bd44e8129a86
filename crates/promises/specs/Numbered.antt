-- The number of a reply (01, "Calls, numbers and order"), for any call: its refusals in their order, each "given exactly when".
use Rattle.std.specs.Prelude.{ℕ, ◌≡◌, ◌↔◌, List, [], ◌∷◌}

pub record Refusal : Type 1 where
  pub number : ℕ
  pub when : Type 0

-- where no refusal before it is given, each is given exactly when its reason holds; where none is, the number is 0
abbrev pub Numbered : List Refusal → ℕ → Type 0
Numbered [] number = number ≡ 0
Numbered (refusal ∷ order) number = ((number ≡ refusal.number) ↔ refusal.when) × (¬ refusal.when → Numbered order number)
