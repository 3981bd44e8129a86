-- What the printing program prints (01, "The printing program"): the header, a line per row, the refusal.
use Rattle.std.specs.Prelude.{ℕ, zero, suc, ◌-◌, ◌/◌, ◌%◌, ◌^◌, cond, List, [], ◌∷◌, ◌++◌, map, length, take, eqb}
use Rattle.sheet.specs.Model.{State, state_of}
use Rattle.sheet.specs.Table.{Entry}
use Rattle.blocks.specs.File.{joined}
use Rattle.lines.specs.Words.{bytes}
use Rattle.lines.specs.Digits.{digit, decimal}

-- Lines ---------------------------------------------------------------------------------------------------------------

abbrev pub space : ℕ
space = 32

abbrev pub line_end : ℕ
line_end = 10

-- "Fields stand one space apart .. and each line is ended by byte 10."
unfoldable pub line : List (List ℕ) → List ℕ
line [] = line_end ∷ []
line (f ∷ []) = f ++ (line_end ∷ [])
line (f ∷ g ∷ l) = f ++ (space ∷ line (g ∷ l))

-- Fields of a row -----------------------------------------------------------------------------------------------------

-- "the n statuses run together with job 1 first"
abbrev pub statuses_text : ℕ → State → List ℕ
statuses_text n q = map digit (take n q.statuses)

-- job k, if the byte of starts has it
abbrev pub job_text : ℕ → ℕ → List ℕ
job_text starts k = cond (eqb (starts / 2 ^ (k - 1) % 2) 1) (digit k ∷ []) []

-- "allowed job numbers (1 to n, ascending) without spaces"
unfoldable pub jobs_text : ℕ → ℕ → List ℕ
jobs_text zero starts = []
jobs_text (suc k) starts = jobs_text k starts ++ job_text starts (suc k)

-- "or `-` where there are none"
abbrev pub or_dash : List ℕ → List ℕ
or_dash [] = bytes "-"
or_dash (c ∷ l) = c ∷ l

-- "`none`, `open` or `held` for code 0, 1, 2"
abbrev pub tick_word : ℕ → List ℕ
tick_word zero = bytes "none"
tick_word (suc zero) = bytes "open"
tick_word (suc (suc _)) = bytes "held"

-- The lines -----------------------------------------------------------------------------------------------------------

-- "one header (`jobs`, their number n, `states`, the number of rows)"
abbrev pub header_line : ℕ → ℕ → List ℕ
header_line n rows = line (bytes "jobs" ∷ decimal n ∷ bytes "states" ∷ decimal rows ∷ [])

-- "now, elapsed, the n statuses .., allowed job numbers .., and `none`, `open` or `held`"
abbrev pub row_line : ℕ → Entry → List ℕ
row_line n e =
    line
    (decimal (state_of e.word).now
    ∷ decimal (state_of e.word).elapsed
    ∷ statuses_text n (state_of e.word)
    ∷ or_dash (jobs_text n e.starts)
    ∷ tick_word e.tick
    ∷ [])

-- "then a line per row in file order"
abbrev pub listing_text : ℕ → List Entry → List ℕ
listing_text n rows = header_line n (length rows) ++ joined (map (row_line n) rows)

-- "A refusal prints `refused`, number, detail."
abbrev pub refusal_text : ℕ → ℕ → List ℕ
refusal_text number detail = line (bytes "refused" ∷ decimal number ∷ decimal detail ∷ [])

-- no line is longer: 3 + 1 + 3 + 1 + 8 + 1 + 8 + 1 + 4 + 1 bytes of a row
abbrev pub line_bytes : ℕ
line_bytes = 31
