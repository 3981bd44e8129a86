-- What the printing program reads (01, "The printing program"): a sheet as text.
use Rattle.std.specs.Prelude.{ℕ, ◌*◌, ◌≤◌, ◌<◌, ◌≡◌, Option, Some, None, length, get_or}
use mathlib.Core.List.{List, [], ◌∷◌, map, Memᴰ}
use Rattle.blocks.specs.Sizes.{most_jobs}
use Rattle.blocks.specs.File.{joined}
use Rattle.lines.specs.Digits.{Digit, value}
use Rattle.lines.specs.Lines.{line}

-- "numbers of one to three digits"
pub record Number (s : List ℕ) : Type 0 where
  pub some : 1 ≤ length s
  pub few : length s ≤ 3
  pub digits : (i : ℕ) → i < length s → Digit (get_or s i 0)

-- "four numbers": the digits of a job's four
pub record Four : Type 0 where
  pub arrives : List ℕ
  pub fewest : List ℕ
  pub most : List ℕ
  pub due : List ℕ

abbrev pub fields : Four → List (List ℕ)
fields f = f.arrives ∷ f.fewest ∷ f.most ∷ f.due ∷ []

-- the text is the lines of the jobs with these numbers, job after job
pub record Spells (text numbers : List ℕ) : Type 0 where
  pub lines : List Four
  -- "1 to 8 lines"
  pub some : 1 ≤ length lines
  pub few : length lines ≤ most_jobs
  -- "four numbers of one to three digits, one space between, each line ended by byte 10"
  pub each : (f : Four) → Memᴰ f lines → (s : List ℕ) → Memᴰ s (fields f) → Number s
  pub spelled : text ≡ joined (map (λ f. line (fields f)) lines)
  pub values : numbers ≡ joined (map (λ f. map value (fields f)) lines)

-- the numbers of so many jobs
abbrev pub most_numbers : ℕ
most_numbers = 4 * most_jobs

-- the numbers that a text spells, or none: "Anything else is refusal 1."
abbrev pub Reads : List ℕ → Option (List ℕ) → Type 0
Reads text (Some numbers) = Spells text numbers
Reads text None = (numbers : List ℕ) → ¬ (Spells text numbers)
