-- Numbers in decimal digits, each digit a byte, the most significant first (01, "The printing program").
use Rattle.std.specs.Prelude.{ℕ, zero, suc, ◌+◌, ◌-◌, ◌*◌, ◌/◌, ◌%◌, ◌≤◌, ◌<◌, ◌≡◌, true, false, List, [], ◌∷◌, ◌++◌, length, get_or, ltb}

-- the byte of a number below ten
abbrev pub digit : ℕ → ℕ
digit d = 48 + d

abbrev pub Digit : ℕ → Type 0
Digit b = (digit 0 ≤ b) × (b ≤ digit 9)

-- the number of the digits `s` behind those of `v`
unfoldable pub value_on : ℕ → List ℕ → ℕ
value_on v [] = v
value_on v (b ∷ s) = value_on (10 * v + (b - digit 0)) s

abbrev pub value : List ℕ → ℕ
value s = value_on 0 s

-- "numbers have no leading zeros": `s` are the digits of `n` (`DigitsLaws`: exactly `decimal n` are)
pub record Numeral (n : ℕ) (s : List ℕ) : Type 0 where
  pub some : 1 ≤ length s
  pub digits : (i : ℕ) → i < length s → Digit (get_or s i 0)
  pub led : 1 < length s → digit 1 ≤ get_or s 0 0
  pub worth : value s ≡ n

-- the last k digits of a number: its last digit stands behind those of its tenth, if that is not 0
unfoldable pub last_digits : ℕ → ℕ → List ℕ
last_digits zero n = []
last_digits (suc k) n = elim (ltb n 10) [ true ↦ digit n ∷ [] | false ↦ last_digits k (n / 10) ++ (digit (n % 10) ∷ []) ]

-- all of them, for a number has no more digits than one and its value
abbrev pub decimal : ℕ → List ℕ
decimal n = last_digits (suc n) n
