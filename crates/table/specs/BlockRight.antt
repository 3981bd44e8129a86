-- A block that passes the tests goes on with the reading, and one that goes on passes. Assumes nothing.
use Rattle.std.specs.Prelude.{ℕ, zero, suc, ◌+◌, ◌-◌, ◌*◌, ◌≤◌, ◌<◌, ◌≡◌, refl, List, ◌++◌, map, length, get_or, take, drop}
use Rattle.std.proofs.Common.{arith, sym, ap, subst, ◌∙◌, length-take, length-drop, length-append, take_at, drop_at, take_all, get_or-append-add}
use Rattle.std.proofs.Math.Decide.{dec_lt}
use Rattle.std.proofs.Math.ListN.{get_or-append, get_or-eq_default}
use Rattle.sheet.specs.Model.{Sheet}
use Rattle.sheet.specs.Table.{Entry, at, no_entry}
use Rattle.sheet.specs.Form.{GoodEntry, GoodRows}
use Rattle.blocks.specs.Sizes.{block_bytes, block_slots, slot_bytes}
use Rattle.blocks.specs.Bytes.{u32_at, EachByte}
use Rattle.blocks.specs.BytesLaws.{Stands}
use Rattle.blocks.specs.File.{row_slot, block_of, block_for}
use Rattle.blocks.specs.Fields.{slot_at, row_from}
use Rattle.blocks.specs.Tab.{tab}
use Rattle.blocks.specs.TabLaws.{length_tab, get_or_tab}
use Rattle.blocks.specs.BlockLaws.{slot_of, framed}
use Rattle.blocks.specs.SlotLaws.{rows_made}
use Rattle.form.specs.BlockTest.{RowsBlock}
use Rattle.table.specs.Reading.{total, block_at, Sized, Reads, GoodTo}
use Rattle.table.specs.ReadingLaws.{at_block, row_at, part, length_part, room, stretch, rows_count, row_there, same_jobs, reads_down}

-- the last word of the block before, where it lies
abbrev pub before : List ℕ → ℕ → ℕ
before file b = u32_at file (block_bytes * (b - 1) + slot_at (block_slots - 1))

-- the bytes of a block are bytes
pub small_block : (file : List ℕ) → EachByte file → (b : ℕ) → EachByte (block_at file b)
small_block file small b i = go (dec_lt i block_bytes)
  where
    go : Dec (i < block_bytes) → get_or (block_at file b) i 0 < 256
    go (yes h) = rw (at_block file b i h) (small (block_bytes * b + i))
    go (no h) = rw (get_or-eq_default (block_at file b) 0 {n = i} (omega (arith, length-take block_bytes (drop (block_bytes * b) file)))) (omega arith)

last_word : {file : List ℕ} {m : ℕ} {σ : Sheet} {rows : List Entry} → Sized file → Reads file m σ rows
    → (k : ℕ) → 1 ≤ k → block_slots * k ≤ length rows → before file (suc k) ≡ (at rows (block_slots * k - 1)).word
last_word {file} {m} {σ} {rows} sized r k h l =
    let e : block_slots * (k - 1) + 61 ≡ block_slots * k - 1 = omega arith in
    let d : suc (k - 1) ≡ k = omega arith in
    let p : suc k - 1 ≡ k = omega arith in
    let q : row_from (block_at file k) (slot_at 61) ≡ at rows (block_slots * k - 1) = rw (e, d) at (row_there sized r (k - 1) 61 (omega arith) (omega arith)) in
    rw p (ap (λ (x : Entry). x.word) (sym (row_at file k (slot_at 61) (omega arith)) ∙ q))

-- the last block of a reading passes
module _ {file : List ℕ} {k : ℕ} {σ : Sheet} {rows : List Entry} (sized : Sized file) (r : Reads file (suc k) σ rows) where
  abbrev own : ℕ
  own = get_or (block_at file (suc k)) 3 0

  size : own ≡ length (part k rows)
  size = sym (rows_count sized r k (omega arith))

  own_rows : length (part k rows) ≡ length rows - block_slots * k
  own_rows = omega (arith, length-take block_slots (drop (block_slots * k) rows), length-drop (block_slots * k) rows, r.few)

  there : (s : ℕ) → s < own → row_from (block_at file (suc k)) (slot_at s) ≡ at rows (block_slots * k + s)
  there s h = row_there sized r k s (omega (arith, size, length_part k rows)) (omega (arith, size, own_rows))

  pub passes : RowsBlock σ (total file) (suc k) (before file (suc k)) (block_at file (suc k))
  passes = record {
    count = record {
      some = omega (arith, size, own_rows, r.some);
      few = omega (arith, size, length_part k rows);
      full = λ h. omega (arith, size, own_rows, r.full h);
    };
    frame = rw size (framed slot_bytes row_slot (λ x. refl) (length σ) (suc k) (total file) (part k rows) (room k rows) (block_at file (suc k)) (r.blocks (suc k) (omega arith)));
    slots = λ s h. record {
      zero_two = (byte s h 6 (omega arith), byte s h 7 (omega arith));
      form = rw (there s h) (r.form.each (block_slots * k + s) (omega (arith, size, own_rows)));
      above = λ z. above s z h;
    };
    follows = record { first = λ e. first (omega arith); after = λ h. after (omega arith) };
  }
    where
      byte : (s : ℕ) → s < own → Stands (block_at file (suc k)) (slot_at s) (row_slot (at (part k rows) s))
      byte s h =
          slot_of slot_bytes row_slot (λ x. refl) (length σ) (suc k) (total file) (part k rows) (room k rows) (block_at file (suc k))
          (r.blocks (suc k) (omega arith)) no_entry s (omega (arith, size))

      start : u32_at (block_at file (suc k)) (slot_at 0) ≡ (at rows (block_slots * k)).word
      start = let e : block_slots * k + 0 ≡ block_slots * k = omega arith in ap (λ (x : Entry). x.word) (rw e at (there 0 (omega (arith, size, own_rows, r.some))))

      word_there : (s : ℕ) → s < own → u32_at (block_at file (suc k)) (slot_at s) ≡ (at rows (block_slots * k + s)).word
      word_there s h = ap (λ (x : Entry). x.word) (there s h)

      above : (s : ℕ) → 1 ≤ s → s < own → u32_at (block_at file (suc k)) (slot_at (s - 1)) < u32_at (block_at file (suc k)) (slot_at s)
      above s z h =
          let e : suc (block_slots * k + (s - 1)) ≡ block_slots * k + s = omega arith in
          rw (word_there (s - 1) (omega arith), word_there s h) (rw e at (r.form.ascending (block_slots * k + (s - 1)) (omega (arith, size, own_rows))))

      first : k ≡ 0 → u32_at (block_at file (suc k)) (slot_at 0) ≡ 0
      first e = let z : block_slots * k ≡ 0 = omega arith in start ∙ rw z r.form.first

      after : 0 < k → before file (suc k) < u32_at (block_at file (suc k)) (slot_at 0)
      after h =
          let e : suc (block_slots * k - 1) ≡ block_slots * k = omega arith in
          rw (last_word sized r k h (omega (arith, r.some)), start) (rw e at (r.form.ascending (block_slots * k - 1) (omega (arith, r.some))))

module _ {file : List ℕ} {k : ℕ} {σ : Sheet} {rows : List Entry} (sized : Sized file) (r : Reads file k σ rows) (here : suc k < total file) where
  count : length rows ≡ block_slots * k
  count = r.full here

  module _ (small : EachByte file) (t : RowsBlock σ (total file) (suc k) (before file (suc k)) (block_at file (suc k))) where
    abbrev block : List ℕ
    block = block_at file (suc k)

    abbrev used : ℕ
    used = get_or block 3 0

    abbrev more : List Entry
    more = tab used (λ s. row_from block (slot_at s))

    length_more : length more ≡ used
    length_more = length_tab used (λ s. row_from block (slot_at s))

    at_more : (s : ℕ) → s < used → at more s ≡ row_from block (slot_at s)
    at_more s h = get_or_tab used (λ m. row_from block (slot_at m)) no_entry s h

    block_is : block ≡ block_of (length σ) (suc k) (total file) (map row_slot more)
    block_is = rows_made (length σ) (suc k) (total file) block used t.count.few (small_block file small (suc k)) t.frame (λ s h. (t.slots s h).zero_two)

    length_all : length (rows ++ more) ≡ block_slots * k + used
    length_all = length-append rows more ∙ omega (arith, count, length_more)

    front : (i : ℕ) → i < block_slots * k → at (rows ++ more) i ≡ at rows i
    front i h = get_or-append rows more no_entry i (omega (arith, count))

    back : (s : ℕ) → s < used → at (rows ++ more) (block_slots * k + s) ≡ row_from block (slot_at s)
    back s h = subst (λ (m : ℕ). at (rows ++ more) (m + s) ≡ at more s) count (get_or-append-add rows more s no_entry) ∙ at_more s h

    -- a place of all rows: in front, or in this block
    module _ (P : ℕ → Type 0) (f : (i : ℕ) → i < block_slots * k → P i) (g : (s : ℕ) → s < used → P (block_slots * k + s)) where
      place : (i : ℕ) → i < length (rows ++ more) → P i
      place i h = go (dec_lt i (block_slots * k))
        where
          go : Dec (i < block_slots * k) → P i
          go (yes l) = f i l
          go (no l) = let e : block_slots * k + (i - block_slots * k) ≡ i = omega arith in subst P e (g (i - block_slots * k) (omega (arith, length_all)))

    -- from the row before a row of this block
    climbs : (s : ℕ) → s < used → 0 < block_slots * k + s → (at (rows ++ more) (block_slots * k + s - 1)).word < (at (rows ++ more) (block_slots * k + s)).word
    climbs zero h z =
        let e : block_slots * k + 0 ≡ block_slots * k = omega arith in
        let a : at (rows ++ more) (block_slots * k) ≡ row_from block (slot_at 0) = rw e at (back 0 h) in
        rw (e, front (block_slots * k - 1) (omega arith), a) (rw (last_word sized r k (omega arith) (omega (arith, count))) at (t.follows.after (omega arith)))
    climbs (suc s) h z =
        let e : block_slots * k + suc s - 1 ≡ block_slots * k + s = omega arith in
        let p : suc s - 1 ≡ s = omega arith in
        rw (e, back s (omega arith), back (suc s) h) (rw p at ((t.slots (suc s) h).above (omega arith)))

    form : GoodRows σ (rows ++ more)
    form = record {
      each = place (λ (i : ℕ). GoodEntry σ (at (rows ++ more) i))
          (λ i h. rw (front i h) (r.form.each i (omega (arith, count))))
          (λ s h. rw (back s h) (t.slots s h).form);
      ascending = λ i h. up i (dec_lt (suc i) (block_slots * k)) h;
      first = first (dec_lt 0 k);
    }
      where
        up : (i : ℕ) → Dec (suc i < block_slots * k) → suc i < length (rows ++ more) → (at (rows ++ more) i).word < (at (rows ++ more) (suc i)).word
        up i (yes l) h = rw (front i (omega arith), front (suc i) l) (r.form.ascending i (omega (arith, count)))
        up i (no l) h =
            let e : block_slots * k + (suc i - block_slots * k) ≡ suc i = omega arith in
            let d : suc i - 1 ≡ i = omega arith in
            rw (e, d) at (climbs (suc i - block_slots * k) (omega (arith, length_all)) (omega arith))

        first : Dec (0 < k) → (at (rows ++ more) 0).word ≡ 0
        first (yes l) = rw (front 0 (omega arith)) r.form.first
        first (no l) =
            let z : block_slots * k + 0 ≡ 0 = omega arith in
            let a : at (rows ++ more) 0 ≡ row_from block (slot_at 0) = rw z at (back 0 (omega (arith, t.count.some))) in
            rw a (t.follows.first (omega arith))

    -- the block goes on with the reading
    pub goes_on : Reads file (suc k) σ (rows ++ more)
    goes_on = record {
      here = here;
      sheet = r.sheet;
      form = form;
      some = omega (arith, length_all, t.count.some);
      few = omega (arith, length_all, t.count.few);
      full = λ h. omega (arith, length_all, t.count.full h);
      blocks = λ b h. blocks b h (dec_lt b (suc k));
    }
      where
        all : take (block_slots * k) (rows ++ more) ≡ rows
        all = take_at rows more (block_slots * k) count

        old : (b : ℕ) → b ≤ k → block_at file b ≡ block_for (total file) σ (rows ++ more) b
        old zero h = r.blocks 0 (omega arith)
        old (suc b) h =
            let e : take block_slots (drop (block_slots * b) (rows ++ more)) ≡ part b rows = sym
            (stretch (block_slots * b) block_slots (block_slots * k) (rows ++ more) (omega arith)) ∙ ap (λ (l : List Entry). part b l) all in
            rw e (r.blocks (suc b) h)

        new : part k (rows ++ more) ≡ more
        new = rw (drop_at rows more (block_slots * k) count) (take_all block_slots more (omega (arith, length_more, t.count.few)))

        blocks : (b : ℕ) → b ≤ suc k → Dec (b < suc k) → block_at file b ≡ block_for (total file) σ (rows ++ more) b
        blocks b h (yes l) = old b (omega arith)
        blocks b h (no l) = let e : suc k ≡ b = omega arith in subst (λ (m : ℕ). block_at file m ≡ block_for (total file) σ (rows ++ more) m) e (rw new block_is)

  -- a block that goes on with some reading passes
  pub went_on : GoodTo file (suc k) → RowsBlock σ (total file) (suc k) (before file (suc k)) (block_at file (suc k))
  went_on g = rw (same_jobs sized r (reads_down g.2)) (passes sized g.2)
