-- One reply to every question, and on a file of good form the full row call's. Assumes nothing.
use Rattle.std.specs.Prelude.{ℕ, suc, ◌-◌, ◌≤◌, ◌<◌, ◌≡◌, ◌≢◌, ◌⊎◌, cond, List, [], ◌∷◌, length, eqb}
use Rattle.std.proofs.Common.{arith, sym, ap, subst, ◌∙◌, inl, inr}
use Rattle.std.proofs.Math.Decide.{dec_lt}
use Rattle.sheet.specs.Model.{Sheet}
use Rattle.sheet.specs.Table.{Entry, at}
use Rattle.table.specs.Reading.{total, Sized, Reads, Reading, good, bad, Says}
use Rattle.table.specs.ReadingLaws.{same_jobs, same_rows, good_below}
use Rattle.table.specs.Read.{reading}
use Rattle.table.specs.ReadLaws.{reading_says}
use Rattle.table.specs.PlaceLaws.{climb, row_lies}
use Rattle.table.specs.Replies.{told, lookup, row_reply}
use Rattle.table.specs.RowLaws.{lookup_none}
use Rattle.table.specs.declared.row.RowReply.{RowReply}
use Rattle.table.specs.ReadFor.{last_word, GoesPast, ReadFor}
use Rattle.quick.specs.Quick.{Quick}

-- LAW: two replies to one question are equal
module _ (file : List ℕ) (w : ℕ) where
  -- a block that ends the reading is not gone past
  no_further : (k : ℕ) (σ : Sheet) (rows : List Entry) → Sized file → Reads file k σ rows → suc k < total file → (suc k ≡ total file) ⊎ ((1 ≤ k) × (w ≤ last_word rows)) → ¬ (GoesPast file w k)
  no_further k σ rows sized r h (inl e) g = omega arith
  no_further k σ rows sized r h (inr s) g =
      let l : last_word rows < w = subst (λ (x : List Entry). last_word x < w) (sym (same_rows sized r g.2)) (g.3 s.0) in
      omega (arith, s.1)

  never : (b : ℕ) (σ : Sheet) (rows : List Entry) → ReadFor file w (good σ rows) → ReadFor file w (bad b) → ⊥
  never b σ rows s (inl v) = v.0 s.1
  never b σ rows s (inr v) = go (dec_lt s.0 b)
    where
      go : Dec (s.0 < b) → ⊥
      go (yes h) = no_further s.0 σ rows s.1 s.3 (omega (arith, v.1)) s.4 (v.2 s.0 h)
      go (no h) = v.3 (good_below b s.0 (omega arith) (σ, rows, s.3))

  two_bad : (a b : ℕ) → ReadFor file w (bad a) → ReadFor file w (bad b) → a ≡ b
  two_bad a b (inl v) (inl u) = omega arith
  two_bad a b (inl v) (inr u) = absurd (v.0 u.0)
  two_bad a b (inr v) (inl u) = absurd (u.0 v.0)
  two_bad a b (inr v) (inr u) = go (dec_lt a b) (dec_lt b a)
    where
      go : Dec (a < b) → Dec (b < a) → a ≡ b
      go (yes h) q = let g = u.2 a h in absurd (v.3 (g.0, g.1, g.2))
      go (no p) (yes h) = let g = v.2 b h in absurd (u.3 (g.0, g.1, g.2))
      go (no p) (no q) = omega arith

  two_good : (σ σ' : Sheet) (rows rows' : List Entry) → ReadFor file w (good σ rows) → ReadFor file w (good σ' rows') → good σ rows ≡ good σ' rows'
  two_good σ σ' rows rows' s t = go (dec_lt s.0 t.0) (dec_lt t.0 s.0)
    where
      go : Dec (s.0 < t.0) → Dec (t.0 < s.0) → good σ rows ≡ good σ' rows'
      go (yes h) q = absurd (no_further s.0 σ rows s.1 s.3 (omega (arith, t.3.here)) s.4 (t.2 s.0 h))
      go (no p) (yes h) = absurd (no_further t.0 σ' rows' t.1 t.3 (omega (arith, s.3.here)) t.4 (s.2 t.0 h))
      go (no p) (no q) =
          let e : t.0 ≡ s.0 = omega arith in
          let r = subst (λ (m : ℕ). Reads file m σ' rows') e t.3 in
          let j = same_jobs s.1 s.3 r in
          let l = same_rows s.1 s.3 r in
          λ i. good (j i) (l i)

  read_one : (x y : Reading) → ReadFor file w x → ReadFor file w y → x ≡ y
  read_one (bad a) (bad b) s t = ap bad (two_bad a b s t)
  read_one (bad a) (good σ rows) s t = absurd (never a σ rows t s)
  read_one (good σ rows) (bad b) s t = absurd (never b σ rows s t)
  read_one (good σ rows) (good σ' rows') s t = two_good σ σ' rows rows' s t

  pub quick_one : (r r' : RowReply) → Quick file w r → Quick file w r' → r ≡ r'
  quick_one r r' q q' = q.2 ∙ (ap (row_reply w) (read_one q.0 q'.0 q.1 q'.1) ∙ sym q'.2)

-- a word is found in the front of a list as in the whole, if no row behind has it
lookup_front : (w : ℕ) (front rows : List Entry) → length front ≤ length rows → ((i : ℕ) → i < length front → at front i ≡ at rows i)
    → ((i : ℕ) → length front ≤ i → i < length rows → (at rows i).word ≢ w) → lookup w front ≡ lookup w rows
unfolding lookup
lookup_front w [] rows h same behind = sym (lookup_none w rows (λ j l. behind j (omega arith) l))
lookup_front w (x ∷ front) [] h same behind = absurd (omega arith)
lookup_front w (x ∷ front) (y ∷ rows) h same behind =
    let e : x ≡ y = same 0 (omega arith) in
    let rest = lookup_front w front rows (omega arith) (λ i l. same (suc i) (omega arith)) (λ i l m. behind (suc i) (omega arith) (omega arith)) in
    ap (λ (r : RowReply). cond (eqb x.word w) (told x) r) rest ∙ ap (λ (z : Entry). cond (eqb z.word w) (told z) (lookup w rows)) e

module _ {file : List ℕ} {σ : Sheet} {rows : List Entry} (s : Says file (good σ rows)) (w : ℕ) where
  module _ {k : ℕ} {σ' : Sheet} {front : List Entry} (r : Reads file k σ' front) where
    all_read : suc k ≡ total file → lookup w front ≡ lookup w rows
    all_read e =
        let d : k ≡ total file - 1 = omega arith in
        ap (lookup w) (same_rows s.0 (subst (λ (m : ℕ). Reads file m σ' front) d r) s.1)

    module _ (h : suc k < total file) where
      fewer : length front ≤ length rows
      fewer = omega (arith, r.few, s.1.some)

      same : (i : ℕ) → i < length front → at front i ≡ at rows i
      same i l = sym (row_lies s.0 r i l) ∙ row_lies s.0 s.1 i (omega (arith, fewer))

      behind : 1 ≤ k → w ≤ last_word front → (i : ℕ) → length front ≤ i → i < length rows → (at rows i).word ≢ w
      behind z l i a b e =
          let n : 1 ≤ length front = omega (arith, r.some) in
          let d : last_word front ≡ (at rows (length front - 1)).word = ap (λ (x : Entry). x.word) (same (length front - 1) (omega arith)) in
          let c = climb (λ m. (at rows m).word) (length rows) s.1.form.ascending (length front - 1) i (omega arith) b in
          omega arith

    in_front : (suc k ≡ total file) ⊎ ((1 ≤ k) × (w ≤ last_word front)) → lookup w front ≡ lookup w rows
    in_front (inl e) = all_read e
    in_front (inr z) = go (dec_lt (suc k) (total file))
      where
        go : Dec (suc k < total file) → lookup w front ≡ lookup w rows
        go (yes h) = lookup_front w front rows (fewer h) (same h) (behind h z.0 z.1)
        go (no n) = all_read (omega (arith, r.here))

  as_row : (x : Reading) → ReadFor file w x → row_reply w x ≡ lookup w rows
  as_row (bad b) (inl v) = absurd (v.0 s.0)
  as_row (bad b) (inr v) = absurd (v.3 (good_below b (total file - 1) (omega (arith, v.1)) (σ, rows, s.1)))
  as_row (good σ' front) v = in_front v.3 v.4

-- LAW: "For every file of good form the reply equals the full row call's."
pub quick_is_row : (file : List ℕ) (w : ℕ) (r : RowReply) (σ : Sheet) (rows : List Entry) → reading file ≡ good σ rows → Quick file w r → r ≡ row_reply w (reading file)
quick_is_row file w r σ rows e q = q.2 ∙ (as_row (reading_says file σ rows e) w q.0 q.1 ∙ sym (ap (row_reply w) e))
