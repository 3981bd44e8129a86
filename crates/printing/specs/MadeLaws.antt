-- What make answered is what is printed. Assumes nothing.
use Rattle.std.specs.Prelude.{ℕ, suc, ◌*◌, ◌≤◌, ◌≡◌, refl, ◌≢◌, length, take, drop}
use Rattle.std.proofs.Common.{arith, sym, ap, subst, ◌∙◌, length-append, take_at}
use mathlib.Core.List.Memᴰ
use mathlib.Core.List.{List, [], ◌∷◌, Memᴰ}
use Rattle.std.proofs.lemmas.List.{length-map}
use Rattle.plant.specs.Plant.{Live, Safe, at_start}
use Rattle.plant.specs.Number.{Number}
use Rattle.plant.specs.Lists.{at_most}
use Rattle.plant.proofs.SafeLaws.{safe_live}
use Rattle.plant.proofs.TableLaws.{row_safe}
use Rattle.sheet.specs.Model.{Sheet, Good, initial, plant}
use Rattle.sheet.specs.Table.{Entry, Rows}
use Rattle.sheet.proofs.RowsLaws.{rows_good, rows_number}
use Rattle.blocks.specs.Sizes.{block_bytes, most_blocks, most_rows}
use Rattle.blocks.specs.File.{bytes_of}
use Rattle.blocks.specs.FileLaws.{length_bytes}
use Rattle.places.specs.Places.{most_live, work_words}
use Rattle.state.specs.Lent.{lent}
use Rattle.state.specs.Refusals.{refusal_number}
use Rattle.state.specs.declared.refusal.Refusal.{Refusal}
use Rattle.state.specs.declared.refusal.Refusal.TheVariants.{NoSheet, BadJob, ShortWork, TooManyStates, Impossible, ShortOutput, BadBlock, NoRow, NoJob, NotPossible, NotAllowed, Started}
use Rattle.maker.specs.Making.{SheetLength, size_of, Made, Answered}
use Rattle.maker.specs.Making as making
use Rattle.maker.specs.declared.MakeReply.{MakeReply}
use Rattle.table.specs.Reading.{Table, Says, good}
use Rattle.table.specs.RoundTrip.{table_says}
use Rattle.lines.specs.Lines.{listing_text, refusal_text}
use Rattle.text.specs.SheetText.{Spells}
use Rattle.text.specs.GroupLaws.{flat, flat_length, flat_values}
use Rattle.lines.specs.Digits.{value}
use Rattle.printing.specs.Prints.{SheetText, bad_job, too_many, impossible, listed}

-- The numbers read ----------------------------------------------------------------------------------------------------

-- a text spells a sheet's numbers
pub spelled_length : (text numbers : List ℕ) → Spells text numbers → SheetLength numbers
spelled_length text numbers p =
    let n : length numbers ≡ length (flat p.lines) = ap length (p.values ∙ flat_values p.lines) ∙ length-map (flat p.lines) value in
    let l = flat_length p.lines in
    record { whole = omega (arith, n); some = omega (arith, n, p.some); few = omega (arith, n, p.few) }

-- What make answered --------------------------------------------------------------------------------------------------

module _ (σ : Sheet) (g : Good σ) (n : ℕ) (a : Number (Live (plant σ)) n) (h : n ≤ most_live) (s : Safe (plant σ) initial) (rows : List Entry) (x : Rows σ rows) where
  -- rows are live states, so there are no more of them
  rows_fit : length rows ≤ most_rows
  rows_fit =
      let b = rows_number σ g rows x in
      let l = at_most b.list a.list b.once (λ q k. (a.each q).0 (safe_live (plant σ) (row_safe (plant σ) ((b.each q).1 k)))) in
      omega (arith, l, a.many, b.many)

  pub file_fits : size_of rows ≤ block_bytes * most_blocks
  file_fits = omega (arith, rows_fit)

  pub table_of : Table σ rows
  table_of = record { sheet = g; form = rows_good σ g s rows x; some = some rows (x.every initial (at_start s)).1; few = rows_fit }
    where
      some : (l : List Entry) {e : Entry} → Memᴰ e l → 1 ≤ length l
      some [] k = absurd (Memᴰ.not-nil k)
      some (e ∷ l) k = omega arith

-- the file at the front says the rows, and their listing is what is printed
pub record Listed (numbers file : List ℕ) (r : MakeReply) : Type 0 where
  pub rows : List Entry
  pub within : r.length ≤ length file
  pub says : Says (take r.length file) (good (lent numbers) rows)
  pub text : SheetText numbers (listing_text (length (lent numbers)) rows)

module _
    {numbers work₀ work file₀ file : List ℕ} {r : MakeReply} (m : Made numbers work₀ work file₀ file r)
    (s : SheetLength numbers) (room : work_words ≤ length work₀) (size : length file₀ ≡ block_bytes * most_blocks) where
  pub made_refused : r.number ≢ 0 → SheetText numbers (refusal_text r.number r.detail)
  made_refused n = go m
    where
      by : (number detail : ℕ) → r ≡ making.refused number detail → refusal_text r.number r.detail ≡ refusal_text number detail
      by number detail e = λ i. refusal_text (e i).number (e i).detail

      told : Good (lent numbers) → Answered (lent numbers) file₀ file r → SheetText numbers (refusal_text r.number r.detail)
      told g (making.too_many n a h e o) = too_many g n a h (by 4 0 e)
      told g (making.impossible n a h u e o) = impossible g n a h u (by 5 0 e)
      told g (making.too_long k a h u rows x l e o) = absurd (omega (arith, size, file_fits (lent numbers) g k a h u rows x))
      told g (making.done k a h u rows x l e o) = absurd (n (λ i. (e i).number))

      go : Made numbers work₀ work file₀ file r → SheetText numbers (refusal_text r.number r.detail)
      go (making.bad_length b e w o) = absurd (b s)
      go (making.bad_job b j e w o) = bad_job j (by 2 _ e)
      go (making.no_room b g h e w o) = absurd (omega arith)
      go (making.answered b g h a c) = told g a

  pub made_listed : r.number ≡ 0 → Listed numbers file r
  made_listed z = go m
    where
      other : {number detail : ℕ} → r ≡ making.refused (suc number) detail → ⊥
      other e = let h = ap (λ (x : MakeReply). x.number) e in omega (arith, h, z)

      told : Good (lent numbers) → Answered (lent numbers) file₀ file r → Listed numbers file r
      told g (making.too_many n a h e o) = absurd (other e)
      told g (making.impossible n a h u e o) = absurd (other e)
      told g (making.too_long n a h u rows x l e o) = absurd (other e)
      told g (making.done n a h u rows x l e o) =
          let t = table_of (lent numbers) g n a h u rows x in
          let b = length_bytes (lent numbers) rows (omega (arith, g.few_jobs)) in
          let k : r.length ≡ size_of rows = ap (λ (y : MakeReply). y.length) e in
          let f : take r.length file ≡ bytes_of (lent numbers) rows = rw (k, o) (take_at (bytes_of (lent numbers) rows) (drop (size_of rows) file₀) (size_of rows) b) in
          record {
            rows = rows;
            within = omega (arith, k, ap length o, length-append (bytes_of (lent numbers) rows) (drop (size_of rows) file₀), b);
            says = subst (λ (y : List ℕ). Says y (good (lent numbers) rows)) (sym f) (table_says (lent numbers) rows t);
            text = listed g n a h u rows x refl;
          }

      go : Made numbers work₀ work file₀ file r → Listed numbers file r
      go (making.bad_length b e w o) = absurd (other e)
      go (making.bad_job b j e w o) = absurd (other e)
      go (making.no_room b g h e w o) = absurd (other e)
      go (making.answered b g h a c) = told g a

-- no refusal has the number of success
pub refusal_some : (e : Refusal) → refusal_number e ≢ 0
refusal_some NoSheet h = omega arith
refusal_some (BadJob i) h = omega arith
refusal_some ShortWork h = omega arith
refusal_some TooManyStates h = omega arith
refusal_some Impossible h = omega arith
refusal_some (ShortOutput n) h = omega arith
refusal_some (BadBlock b) h = omega arith
refusal_some NoRow h = omega arith
refusal_some NoJob h = omega arith
refusal_some NotPossible h = omega arith
refusal_some NotAllowed h = omega arith
refusal_some Started h = omega arith
