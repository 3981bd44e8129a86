-- What a file reads as: found again in its slots, one only, and block after block. Assumes nothing.
use Rattle.std.specs.Prelude.{ℕ, zero, suc, ◌+◌, ◌-◌, ◌*◌, ◌/◌, ◌%◌, ◌≤◌, ◌<◌, ◌≡◌, refl, List, [], ◌∷◌, length, get_or, take, drop}
use Rattle.std.proofs.Common.{arith, sym, ap, subst, ◌∙◌, inl, inr, length-take, length-drop, ext_get_or, get_or-take, get_or-drop, take-take}
use Rattle.std.proofs.Math.Decide.{dec_lt}
use Rattle.sheet.specs.Model.{Sheet, no_job}
use Rattle.sheet.specs.Table.{Entry, at, no_entry}
use Rattle.sheet.specs.Form.{GoodRows}
use Rattle.blocks.specs.Sizes.{block_bytes, body_bytes, header_bytes, block_slots, slot_bytes}
use Rattle.blocks.specs.Bytes.{u16_at, u32_at}
use Rattle.blocks.specs.File.{job_slot, row_slot, block_for}
use Rattle.blocks.specs.Fields.{Framed, slot_at, job_from, row_from}
use Rattle.blocks.specs.BlockLaws.{framed}
use Rattle.blocks.specs.SlotLaws.{job_found, row_found}
use Rattle.table.specs.Reading.{total, block_at, Sized, Reads, GoodTo, Reading, good, bad, Says}

-- a byte of a block, where it lies in the file
pub at_block : (file : List ℕ) (b p : ℕ) → p < block_bytes → get_or (block_at file b) p 0 ≡ get_or file (block_bytes * b + p) 0
at_block file b p h = get_or-take block_bytes (drop (block_bytes * b) file) p 0 h ∙ get_or-drop (block_bytes * b) file p 0

pub byte_at : (file : List ℕ) (b p j : ℕ) → p + j < block_bytes → get_or (block_at file b) (p + j) 0 ≡ get_or file (block_bytes * b + p + j) 0
byte_at file b p j h = let e : block_bytes * b + (p + j) ≡ block_bytes * b + p + j = omega arith in at_block file b (p + j) h ∙ ap (λ (m : ℕ). get_or file m 0) e

pub row_at : (file : List ℕ) (b p : ℕ) → p + 8 ≤ block_bytes → row_from (block_at file b) p ≡ row_from file (block_bytes * b + p)
row_at file b p h =
    let w : u32_at (block_at file b) p ≡ u32_at file (block_bytes * b + p) =
    rw (at_block file b p (omega arith), byte_at file b p 1 (omega arith), byte_at file b p 2 (omega arith), byte_at file b p 3 (omega arith)) refl in
    let s = byte_at file b p 4 (omega arith) in
    let t = byte_at file b p 5 (omega arith) in
    λ i. record { word = w i; starts = s i; tick = t i }

-- a number of block 0
pub in_first : (file : List ℕ) (p : ℕ) → p + 1 < block_bytes → u16_at (block_at file 0) p ≡ u16_at file p
in_first file p h = rw (byte p (omega arith), byte (p + 1) h) refl
  where
    byte : (p : ℕ) → p < block_bytes → get_or (block_at file 0) p 0 ≡ get_or file p 0
    byte p h = let e : block_bytes * 0 + p ≡ p = omega arith in at_block file 0 p h ∙ ap (λ (m : ℕ). get_or file m 0) e

-- the rows of a block
abbrev pub part : ℕ → List Entry → List Entry
part b rows = take block_slots (drop (block_slots * b) rows)

pub length_part : (b : ℕ) (rows : List Entry) → length (part b rows) ≤ block_slots
length_part b rows = omega (arith, length-take block_slots (drop (block_slots * b) rows))

pub room : (b : ℕ) (rows : List Entry) → header_bytes + slot_bytes * length (part b rows) ≤ body_bytes
room b rows = omega (arith, length_part b rows)

pub at_part : (b : ℕ) (rows : List Entry) (s : ℕ) → s < block_slots → at (part b rows) s ≡ at rows (block_slots * b + s)
at_part b rows s h = get_or-take block_slots (drop (block_slots * b) rows) s no_entry h ∙ get_or-drop (block_slots * b) rows s no_entry

-- a stretch of a list's front
pub stretch : {A : Type 0} (a m c : ℕ) (l : List A) → a + m ≤ c → take m (drop a (take c l)) ≡ take m (drop a l)
stretch zero m c l h = take-take m c l (omega arith)
stretch (suc a) m zero l h = absurd (omega arith)
stretch (suc a) m (suc c) [] h = refl
stretch (suc a) m (suc c) (x ∷ l) h = stretch a m c l (omega arith)

module _ {file : List ℕ} {k : ℕ} {σ : Sheet} {rows : List Entry} (sized : Sized file) (r : Reads file k σ rows) where
  pub jobs_framed : Framed slot_bytes (length σ) (length σ) 0 (total file) (block_at file 0)
  jobs_framed = framed slot_bytes job_slot (λ x. refl) (length σ) 0 (total file) σ (omega (arith, r.sheet.few_jobs)) (block_at file 0) (r.blocks 0 (omega arith))

  pub jobs_count : length σ ≡ get_or (block_at file 0) 3 0
  jobs_count = sym jobs_framed.slots

  pub job_there : (s : ℕ) → s < length σ → job_from (block_at file 0) (slot_at s) ≡ get_or σ s no_job
  job_there s h = job_found (length σ) 0 (total file) (block_at file 0) σ (omega (arith, r.sheet.few_jobs)) (r.blocks 0 (omega arith)) s h

  pub rows_count : (b : ℕ) → suc b ≤ k → length (part b rows) ≡ get_or (block_at file (suc b)) 3 0
  rows_count b h = sym (framed slot_bytes row_slot (λ x. refl) (length σ) (suc b) (total file) (part b rows) (room b rows) (block_at file (suc b)) (r.blocks (suc b) h)).slots

  -- a row, in its block
  pub row_there : (b s : ℕ) → s < block_slots → block_slots * b + s < length rows → row_from (block_at file (suc b)) (slot_at s) ≡ at rows (block_slots * b + s)
  row_there b s h l =
      let q : s < length (part b rows) = omega (arith, length-take block_slots (drop (block_slots * b) rows), length-drop (block_slots * b) rows) in
      row_found (length σ) (suc b) (total file) (block_at file (suc b)) (part b rows) (length_part b rows) (r.blocks (suc b) (omega (arith, r.few))) s q
      ∙ at_part b rows s h

-- LAW: a file's blocks 0 to k say one thing only
module _ {file : List ℕ} {k : ℕ} {σ σ' : Sheet} {rows rows' : List Entry} (sized : Sized file) (r : Reads file k σ rows) (r' : Reads file k σ' rows') where
  pub same_jobs : σ ≡ σ'
  same_jobs =
      let l : length σ ≡ length σ' = jobs_count sized r ∙ sym (jobs_count sized r') in
      ext_get_or no_job σ σ' l (λ s h. sym (job_there sized r s h) ∙ job_there sized r' s (omega arith))

  same_count : length rows ≡ length rows'
  same_count = go k refl
    where
      go : (m : ℕ) → m ≡ k → length rows ≡ length rows'
      go zero e = omega (arith, r.few, r'.few)
      go (suc b) e =
          let c = rows_count sized r b (omega arith) ∙ sym (rows_count sized r' b (omega arith)) in
          omega (
            arith,
            length-take block_slots (drop (block_slots * b) rows),
            length-take block_slots (drop (block_slots * b) rows'),
            length-drop
                (block_slots * b) rows,
            length-drop (block_slots * b) rows',
            r.few,
            r'.few,
            r.some,
            r'.some,
          )

  pub same_rows : rows ≡ rows'
  same_rows =
      ext_get_or no_entry rows rows' same_count
      (λ i h. let e : block_slots * (i / block_slots) + i % block_slots ≡ i = omega arith in
      rw (← e) (sym (row_there sized r (i / block_slots) (i % block_slots) (omega arith) (omega arith)) ∙ row_there sized r' (i / block_slots)
      (i % block_slots) (omega arith) (omega (arith, same_count))))

-- the rows in front of good rows are good
pub rows_front : {σ : Sheet} {rows : List Entry} (m : ℕ) → GoodRows σ rows → GoodRows σ (take m rows)
rows_front {σ} {rows} m g = record {
  each = λ i h. let l : (i < m) × (i < length rows) = omega (arith, length-take m rows) in rw (front i l.0) (g.each i l.1);
  ascending = λ i h. let l : (suc i < m) × (suc i < length rows) = omega (arith, length-take m rows) in rw (front i (omega arith), front (suc i) l.0) (g.ascending i l.1);
  first = go m;
}
  where
    front : (i : ℕ) → i < m → at (take m rows) i ≡ at rows i
    front i h = get_or-take m rows i no_entry h

    go : (m : ℕ) → (at (take m rows) 0).word ≡ 0
    go zero = refl
    go (suc m) = rw (get_or-take (suc m) rows 0 no_entry (omega arith)) g.first

-- one block less
pub reads_down : {file : List ℕ} {k : ℕ} {σ : Sheet} {rows : List Entry} → Reads file (suc k) σ rows → Reads file k σ (take (block_slots * k) rows)
reads_down {file} {k} {σ} {rows} r =
    let l : length (take (block_slots * k) rows) ≡ block_slots * k = omega (arith, length-take (block_slots * k) rows, r.some) in
    record {
      here = omega (arith, r.here);
      sheet = r.sheet;
      form = rows_front (block_slots * k) r.form;
      some = omega arith;
      few = omega arith;
      full = λ _. l;
      blocks = blocks;
    }
  where
    blocks : (b : ℕ) → b ≤ k → block_at file b ≡ block_for (total file) σ (take (block_slots * k) rows) b
    blocks zero h = r.blocks 0 (omega arith)
    blocks (suc b) h = rw (stretch (block_slots * b) block_slots (block_slots * k) rows (omega arith)) (r.blocks (suc b) (omega arith))

pub good_down : {file : List ℕ} (k : ℕ) → GoodTo file (suc k) → GoodTo file k
good_down k g = (g.0, take (block_slots * k) g.1, reads_down g.2)

pub good_below : {file : List ℕ} (b k : ℕ) → b ≤ k → GoodTo file k → GoodTo file b
good_below {file} b zero h g = subst (GoodTo file) (sym_zero b h) g
  where
    sym_zero : (b : ℕ) → b ≤ 0 → 0 ≡ b
    sym_zero b h = omega arith
good_below {file} b (suc k) h g = go (dec_lt b (suc k)) (good_below b k)
  where
    go : Dec (b < suc k) → (b ≤ k → GoodTo file k → GoodTo file b) → GoodTo file b
    go (yes l) f = f (omega arith) (good_down k g)
    go (no n) f = let e : suc k ≡ b = omega arith in subst (GoodTo file) e g

-- LAW: two readings of one file are equal
pub says_one : (file : List ℕ) (x y : Reading) → Says file x → Says file y → x ≡ y
says_one file x y = go x y
  where
    never : (b : ℕ) (σ : Sheet) (rows : List Entry) {C : Type 0} → Says file (good σ rows) → Says file (bad b) → C
    never b σ rows s (inl w) = absurd (w.0 s.0)
    never b σ rows s (inr w) = absurd (w.3 (good_below b (total file - 1) (omega (arith, w.1)) (σ, rows, s.1)))

    two_bad : (a b : ℕ) → Says file (bad a) → Says file (bad b) → a ≡ b
    two_bad a b (inl v) (inl w) = omega arith
    two_bad a b (inl v) (inr w) = absurd (v.0 w.0)
    two_bad a b (inr v) (inl w) = absurd (w.0 v.0)
    two_bad a b (inr v) (inr w) = cmp (dec_lt a b) (dec_lt b a)
      where
        cmp : Dec (a < b) → Dec (b < a) → a ≡ b
        cmp (yes h) q = absurd (v.3 (w.2 a h))
        cmp (no p) (yes h) = absurd (w.3 (v.2 b h))
        cmp (no p) (no q) = omega arith

    go : (x y : Reading) → Says file x → Says file y → x ≡ y
    go (bad a) (bad b) s t = ap bad (two_bad a b s t)
    go (bad a) (good σ rows) s t = never a σ rows t s
    go (good σ rows) (bad b) s t = never b σ rows s t
    go (good σ rows) (good σ' rows') s t = let e = same_jobs s.0 s.1 t.1 in let d = same_rows s.0 s.1 t.1 in λ i. good (e i) (d i)
