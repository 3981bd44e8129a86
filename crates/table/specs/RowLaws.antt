-- What row replies, from the place where a word is found. Assumes nothing.
use Rattle.std.specs.Prelude.{ℕ, zero, suc, ◌<◌, ◌≡◌, refl, ◌≢◌, List, [], ◌∷◌, length, Some}
use Rattle.std.proofs.Common.{arith, sym, ap, ◌∙◌, eq-eqb, ne_eqb}
use Rattle.sheet.specs.Model.{Sheet}
use Rattle.blocks.specs.Fields.{row_from}
use Rattle.table.specs.Reading.{Sized, Reads}
use Rattle.sheet.specs.Table.{Entry, at, Ascending}
use Rattle.table.specs.Places.{place, Finds}
use Rattle.table.specs.PlaceLaws.{climb, row_lies}
use Rattle.table.specs.Replies.{refused, told, lookup}

lookup_at : (w : ℕ) (rows : List Entry) (i : ℕ) → i < length rows → ((j : ℕ) → j < i → (at rows j).word ≢ w) → (at rows i).word ≡ w → lookup w rows ≡ told (at rows i)
unfolding lookup
lookup_at w [] i h f e = absurd (omega arith)
lookup_at w (r ∷ rows) zero h f e = rw (eq-eqb r.word w e) refl
lookup_at w (r ∷ rows) (suc i) h f e = rw (ne_eqb r.word w (f 0 (omega arith))) (lookup_at w rows i (omega arith) (λ j l. f (suc j) (omega arith)) e)

pub lookup_none : (w : ℕ) (rows : List Entry) → ((j : ℕ) → j < length rows → (at rows j).word ≢ w) → lookup w rows ≡ refused 8 0
unfolding lookup
lookup_none w [] f = refl
lookup_none w (r ∷ rows) f = rw (ne_eqb r.word w (f 0 (omega arith))) (lookup_none w rows (λ j l. f (suc j) (omega arith)))

-- a row found is the row of its word
pub lookup_is : (rows : List Entry) (w i : ℕ) → Ascending rows → Finds rows w (Some i) → lookup w rows ≡ told (at rows i)
lookup_is rows w i a f = lookup_at w rows i f.0 before f.1
  where
    before : (j : ℕ) → j < i → (at rows j).word ≢ w
    before j h e = omega (arith, climb (λ m. (at rows m).word) (length rows) a j i h f.0, f.1)

-- the same where it stands in a file
pub lookup_found : {file : List ℕ} {k : ℕ} {σ : Sheet} {rows : List Entry} → Sized file → Reads file k σ rows → (w i : ℕ) → Finds rows w (Some i) → told (row_from file (place i)) ≡ lookup w rows
lookup_found {rows = rows} sized r w i f = ap told (row_lies sized r i f.0) ∙ sym (lookup_is rows w i r.form.ascending f)
