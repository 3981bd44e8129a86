-- 01's example: the input `0 1 1 1`, and what is printed for it. Assumes nothing.
use Rattle.std.specs.Prelude.{ℕ, ◌<◌, ◌≡◌, refl, List, [], ◌∷◌, ◌++◌}
use Rattle.std.proofs.Common.{arith}
use Rattle.sheet.specs.Table.{Entry}
use Rattle.sheet.specs.Model.{digits}
use Rattle.blocks.specs.File.{joined}
use Rattle.lines.specs.Words.{bytes}
use Rattle.lines.specs.Digits.{digit, value_on, last_digits}
use Rattle.lines.specs.Lines.{line, jobs_text, listing_text}
use Rattle.text.specs.SheetText.{Number, Spells}
use Rattle.text.specs.Fields.{run}
use Rattle.text.specs.GroupLaws.{run_spells}

one_digit : (d : ℕ) → d < 10 → Number (digit d ∷ [])
one_digit d h = record { some = omega arith; few = omega arith; digits = λ i l. let e : i ≡ 0 = omega arith in rw e (omega arith) }

pub input : Spells (bytes "0 1 1 1\n") (0 ∷ 1 ∷ 1 ∷ 1 ∷ [])
unfolding value_on run
input =
    let zero = one_digit 0 (omega arith) in
    let one = one_digit 1 (omega arith) in
    run_spells (bytes "0 1 1 1\n") (bytes "0" ∷ bytes "1" ∷ bytes "1" ∷ bytes "1" ∷ []) 1 refl refl (omega arith) (omega arith)
    (zero, (one, (one, (one, tt))))

abbrev row : ℕ → ℕ → ℕ → Entry
row word starts tick = record { word = word; starts = starts; tick = tick }

-- the rows of S1 (01, "Sheets worked by hand", 1)
abbrev rows : List Entry
rows = row 0 0 0 ∷ row 1 1 2 ∷ row 2 0 1 ∷ row 3 0 1 ∷ row 16842754 0 0 ∷ []

pub output :
    listing_text 1 rows
    ≡ bytes "jobs 1 states 5\n"
    ++ bytes "0 0 0 - none\n"
    ++ bytes "0 0 1 1 held\n"
    ++ bytes "0 0 2 - open\n"
    ++ bytes "0 0 3 - open\n"
    ++ bytes "1 1 2 - none\n"
unfolding line last_digits jobs_text digits joined
output = refl
