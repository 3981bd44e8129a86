-- How the code reads a sheet: number after number, each with the byte behind it. `FieldLaws` and `ReadLaws` say that this is `SheetText`.
use Rattle.std.specs.Prelude.{ℕ, suc, ◌%◌, ◌^◌, ◌≤◌, ◌<◌, ◌≡◌, cond, List, [], ◌∷◌, ◌++◌, map, length, get_or, take, drop, Option, Some, None, eqb}
use Rattle.lines.specs.Digits.{Digit, value}
use Rattle.lines.specs.Lines.{space, line_end}
use Rattle.text.specs.SheetText.{Number, most_numbers}
use Rattle.text.specs.declared.read.Field.{Field}

-- One number ----------------------------------------------------------------------------------------------------------

-- so many digits passed at the front of `s`, and their value
pub record Passed (s : List ℕ) (k v : ℕ) : Type 0 where
  pub few : k ≤ 3
  pub within : k ≤ length s
  pub digits : (i : ℕ) → i < k → Digit (get_or s i 0)
  pub worth : v ≡ value (take k s)
  pub small : v < 10 ^ k

-- the first bytes of `s` are a number with the byte `e` behind it
pub record Fronted (e : ℕ) (s : List ℕ) (k v : ℕ) : Type 0 where
  pub within : k < length s
  pub number : Number (take k s)
  pub ends : s ≡ take k s ++ (e ∷ drop (suc k) s)
  pub worth : v ≡ value (take k s)

-- what was found there: a number, or that there is none
abbrev pub FoundTo : ℕ → List ℕ → Option Field → Type 0
FoundTo e s (Some f) = Fronted e s f.digits f.value
FoundTo e s None = (number rest : List ℕ) → Number number → ¬ (s ≡ number ++ (e ∷ rest))

-- Number after number -------------------------------------------------------------------------------------------------

-- the byte behind the number at place `k`, counted from 0: each fourth ends its line
abbrev pub ending : ℕ → ℕ
ending k = cond (eqb (k % 4) 3) line_end space

-- the numbers from place `k` on, each with the byte behind it
unfoldable pub run : ℕ → List (List ℕ) → List ℕ
run k [] = []
run k (s ∷ l) = s ++ (ending k ∷ run (suc k) l)

abbrev pub Numbers : List (List ℕ) → Type 0
Numbers [] = Unit {0}
Numbers (s ∷ l) = Number s × Numbers l

-- what the code holds after `count` numbers, with the `rest` of a text before it
pub record SoFar (text numbers : List ℕ) (count : ℕ) (rest : List ℕ) : Type 0 where
  pub read : List (List ℕ)
  pub each : Numbers read
  pub many : length read ≡ count
  pub few : count ≤ most_numbers
  pub front : text ≡ run 0 read ++ rest
  pub room : length numbers ≡ most_numbers
  pub held : take count numbers ≡ map value read
