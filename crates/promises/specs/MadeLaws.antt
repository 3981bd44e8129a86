-- What make answers and leaves, by the number of its reply. Assumes nothing.
use Rattle.std.specs.Prelude.{ℕ, ◌≤◌, ◌≡◌, List, [], ◌∷◌, length, take, drop}
use Rattle.std.proofs.Common.{arith, ap, ◌∙◌, take_at}
use mathlib.Core.List.Memᴰ
use Rattle.plant.specs.Plant.{Live, Safe, at_start}
use Rattle.plant.specs.Number.{Number}
use Rattle.plant.specs.Lists.{at_most}
use Rattle.plant.proofs.SafeLaws.{safe_live}
use Rattle.plant.proofs.TableLaws.{row_safe}
use Rattle.sheet.specs.Model.{Sheet, Good, initial, plant}
use Rattle.sheet.specs.Table.{Entry, Rows}
use Rattle.sheet.proofs.RowsLaws.{rows_good, rows_number}
use Rattle.blocks.specs.File.{bytes_of}
use Rattle.blocks.specs.FileLaws.{length_bytes}
use Rattle.table.specs.Reading.{Table, good}
use Rattle.table.specs.Read.{reading}
use Rattle.table.specs.TableBytes.{read_back}
use Rattle.places.specs.Places.{most_live}
use Rattle.state.specs.Lent.{lent}
use Rattle.maker.specs.Making.{size_of, Answered, too_many, impossible, too_long, done, Made, bad_length, bad_job, no_room, answered}
use Rattle.maker.specs.declared.MakeReply.{MakeReply}

pub number_of : {r s : MakeReply} → r ≡ s → r.number ≡ s.number
number_of e = ap (λ (x : MakeReply). x.number) e

module _ (σ : Sheet) (sheet : Good σ) where
  -- there are no more rows than live states
  few_rows : (n : ℕ) → Number (Live (plant σ)) n → (rows : List Entry) → Rows σ rows → length rows ≤ n
  few_rows n lives rows r =
      let m = rows_number σ sheet rows r in
      omega (arith, m.many, lives.many, at_most m.list lives.list m.once (λ q k. (lives.each q).0 (safe_live (plant σ) (row_safe (plant σ) ((m.each q).1 k)))))

  some_row : Safe (plant σ) initial → (rows : List Entry) → Rows σ rows → 1 ≤ length rows
  some_row safe [] r = absurd (Memᴰ.not-nil (r.every initial (at_start safe)).1)
  some_row safe (e ∷ rows) r = omega arith

  -- the rows of a table that was made are jobs and rows that a file can hold
  pub made_table : (n : ℕ) → Number (Live (plant σ)) n → n ≤ most_live → Safe (plant σ) initial → (rows : List Entry) → Rows σ rows → Table σ rows
  made_table n lives few safe rows r = record {
    sheet = sheet;
    form = rows_good σ sheet safe rows r;
    some = some_row safe rows r;
    few = omega (arith, few, few_rows n lives rows r);
  }

-- what a reply of 0 leaves at the front of the output, for any use of it
pub record Done (numbers file : List ℕ) : Type 0 where
  pub sheet : Good (lent numbers)
  pub safe : Safe (plant (lent numbers)) initial
  pub rows : List Entry
  pub right : Rows (lent numbers) rows
  pub table : Table (lent numbers) rows
  pub written : file ≡ bytes_of (lent numbers) rows

pub is_done : {numbers work₀ work out₀ out : List ℕ} {r : MakeReply} → Made numbers work₀ work out₀ out r → r.number ≡ 0 → Done numbers (take r.length out)
is_done (bad_length _ e _ _) z = absurd (omega (arith, number_of e))
is_done (bad_job _ _ e _ _) z = absurd (omega (arith, number_of e))
is_done (no_room _ _ _ e _ _) z = absurd (omega (arith, number_of e))
is_done {numbers} {out₀ = out₀} {out} {r} (answered s g h a c) z = go a
  where
    σ : Sheet
    σ = lent numbers

    go : Answered σ out₀ out r → Done numbers (take r.length out)
    go (too_many n a h e o) = absurd (omega (arith, number_of e))
    go (impossible n a h u e o) = absurd (omega (arith, number_of e))
    go (too_long n a h u rows t l e o) = absurd (omega (arith, number_of e))
    go (done n a h u rows t l e o) = record {
      sheet = g;
      safe = u;
      rows = rows;
      right = t;
      table = made_table σ g n a h u rows t;
      written =
          ap (λ (m : ℕ). take m out) (ap (λ (x : MakeReply). x.length) e)
          ∙ (ap (take (size_of rows)) o
          ∙ take_at (bytes_of σ rows) (drop (size_of rows) out₀) (size_of rows) (length_bytes σ rows (omega (arith, g.few_jobs))));
    }

-- and it is read back as it was made
pub done_read : {numbers file : List ℕ} (d : Done numbers file) → reading file ≡ good (lent numbers) d.rows
done_read d = ap reading d.written ∙ read_back d.table
