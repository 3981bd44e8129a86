-- A table's rows printed one after the other. Assumes nothing.
use Rattle.std.specs.Prelude.{ℕ, ◌+◌, ◌≤◌, ◌<◌, ◌≡◌, refl, List, [], ◌∷◌, ◌++◌, map, length, take}
use Rattle.std.proofs.Common.{arith, add-one, sym, append_assoc, append-nil, take-suc, take_all}
use Rattle.std.proofs.lemmas.List.{map-append}
use Rattle.sheet.specs.Model.{Sheet}
use Rattle.sheet.specs.Table.{Entry, at, no_entry}
use Rattle.blocks.specs.Sizes.{most_jobs}
use Rattle.blocks.specs.File.{joined}
use Rattle.table.specs.Reading.{Says, good}
use Rattle.lines.specs.Lines.{row_line, listing_text, header_line}
use Rattle.printing.specs.RowLines.{lines_of}

-- one line more
joined_more : (l : List (List ℕ)) (s : List ℕ) → joined (l ++ (s ∷ [])) ≡ joined l ++ s
unfolding joined
joined_more [] s = append-nil s
joined_more (t ∷ l) s = rw (joined_more l s) (sym (append_assoc t (joined l) s))

pub lines_none : (n : ℕ) (rows : List Entry) → lines_of n rows 0 ≡ []
unfolding joined
lines_none n rows = refl

pub lines_more : (n : ℕ) (rows : List Entry) (i : ℕ) → i < length rows → lines_of n rows (i + 1) ≡ lines_of n rows i ++ row_line n (at rows i)
lines_more n rows i h =
    rw (add-one i, take-suc rows i no_entry h, map-append (row_line n) (take i rows) (at rows i ∷ [])) (joined_more (map (row_line n) (take i rows)) (row_line n (at rows i)))

module _ {file : List ℕ} {σ : Sheet} {rows : List Entry} (s : Says file (good σ rows)) where
  pub jobs_few : length σ ≤ most_jobs
  jobs_few = s.1.sheet.few_jobs

-- header and rows are the listing
pub lines_listing : (σ : Sheet) (rows : List Entry) (n count : ℕ) → n ≡ length σ → count ≡ length rows → header_line n count ++ lines_of n rows (length rows) ≡ listing_text (length σ) rows
lines_listing σ rows n count e d = rw (e, d, take_all (length rows) rows (omega arith)) refl
