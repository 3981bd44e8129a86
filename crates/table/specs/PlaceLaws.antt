-- Rows found in their places. Assumes nothing.
use Rattle.std.specs.Prelude.{ℕ, zero, suc, ◌+◌, ◌-◌, ◌*◌, ◌/◌, ◌%◌, ◌≤◌, ◌<◌, ◌≡◌, refl, ◌≢◌, List, length, get_or, drop, None, Some}
use Rattle.std.proofs.Common.{arith, sym, ap, subst, ◌∙◌, length-take, length-drop}
use Rattle.std.proofs.Math.Decide.{dec_lt}
use Rattle.sheet.specs.declared.Job.{Job}
use Rattle.sheet.specs.Model.{Sheet, Names, job}
use Rattle.sheet.specs.Table.{Entry, at, no_entry}
use Rattle.blocks.specs.Sizes.{block_bytes, block_slots, slot_bytes, most_rows}
use Rattle.blocks.specs.Bytes.{u32_at}
use Rattle.blocks.specs.Fields.{slot_at, job_from, row_from}
use Rattle.blocks.specs.TabLaws.{length_tab, get_or_tab, tab_is}
use Rattle.table.specs.Reading.{total, block_at, Sized, Reads, good, Says}
use Rattle.table.specs.ReadingLaws.{at_block, in_first, row_at, jobs_count, job_there, part, rows_count, row_there}
use Rattle.table.specs.Places.{place, rows_in, Ascends, Placed, Finds}

pub climb : (f : ℕ → ℕ) (n : ℕ) → ((i : ℕ) → suc i < n → f i < f (suc i)) → (i j : ℕ) → i < j → j < n → f i < f j
climb f n s i zero h l = absurd (omega arith)
climb f n s i (suc j) h l = go (dec_lt i j) (climb f n s i j)
  where
    go : Dec (i < j) → (i < j → j < n → f i < f j) → f i < f (suc j)
    go (yes q) c = omega (arith, c q (omega arith), s j l)
    go (no q) c = let e : i ≡ j = omega arith in rw e (s j l)

-- the rows of the blocks read, in their places
module _ {file : List ℕ} {k : ℕ} {σ : Sheet} {rows : List Entry} (sized : Sized file) (r : Reads file k σ rows) where
  pub rows_read : 1 ≤ k → length rows ≡ block_slots * (k - 1) + get_or (block_at file k) 3 0
  rows_read h =
      let e : suc (k - 1) ≡ k = omega arith in
      let c : length (part (k - 1) rows) ≡ get_or (block_at file k) 3 0 = rw e at (rows_count sized r (k - 1) (omega arith)) in
      omega (arith, length-take block_slots (drop (block_slots * (k - 1)) rows), length-drop (block_slots * (k - 1)) rows, r.some, r.few)

  pub row_lies : (i : ℕ) → i < length rows → row_from file (place i) ≡ at rows i
  row_lies i h =
      let e : block_slots * (i / block_slots) + i % block_slots ≡ i = omega arith in
      let d : i / block_slots + 1 ≡ suc (i / block_slots) = omega arith in
      rw d (sym (row_at file (suc (i / block_slots)) (slot_at (i % block_slots)) (omega arith)) ∙ rw e at (row_there sized r (i / block_slots) (i % block_slots) (omega arith) (omega arith)))

  pub word_lies : (i : ℕ) → i < length rows → u32_at file (place i) ≡ (at rows i).word
  word_lies i h = ap (λ (x : Entry). x.word) (row_lies i h)

  pub lies_ascend : Ascends file (length rows)
  lies_ascend i j h l = rw (word_lies i (omega arith), word_lies j l) (climb (λ m. (at rows m).word) (length rows) r.form.ascending i j h l)

  pub lies_end : (i : ℕ) → i < length rows → place i + slot_bytes ≤ length file
  lies_end i h = omega (arith, r.few, r.here, sized.whole)

  pub read_few : length rows ≤ most_rows
  read_few = omega (arith, r.few, r.here, sized.short)

-- the rows of a good file
module _ {file : List ℕ} {σ : Sheet} {rows : List Entry} (s : Says file (good σ rows)) where
  pub rows_number : length rows ≡ block_slots * (total file - 2) + get_or (block_at file (total file - 1)) 3 0
  rows_number = let long = s.0.long in omega (arith, rows_read s.0 s.1 (omega arith))

  -- a file's jobs are counted by its own byte
  pub jobs_number : length σ ≡ get_or file 3 0
  jobs_number = jobs_count s.0 s.1 ∙ at_block file 0 3 (omega arith)

  pub job_placed : (k : ℕ) → Names σ k → job_from file (slot_at (k - 1)) ≡ job σ k
  job_placed k h =
      let j = job_there s.0 s.1 (k - 1) (omega arith) in
      let few = s.1.sheet.few_jobs in
      let a = sym (in_first file (slot_at (k - 1)) (omega arith)) ∙ ap (λ (x : Job). x.arrives) j in
      let b = sym (in_first file (slot_at (k - 1) + 2) (omega arith)) ∙ ap (λ (x : Job). x.fewest) j in
      let c = sym (in_first file (slot_at (k - 1) + 4) (omega arith)) ∙ ap (λ (x : Job). x.most) j in
      let d = sym (in_first file (slot_at (k - 1) + 6) (omega arith)) ∙ ap (λ (x : Job). x.due) j in
      λ i. record { arrives = a i; fewest = b i; most = c i; due = d i }

  pub row_placed : (i : ℕ) → i < length rows → row_from file (place i) ≡ at rows i
  row_placed = row_lies s.0 s.1

  pub word_placed : (i : ℕ) → i < length rows → u32_at file (place i) ≡ (at rows i).word
  word_placed = word_lies s.0 s.1

  pub places_end : (i : ℕ) → i < length rows → place i + slot_bytes ≤ length file
  places_end = lies_end s.0 s.1

  pub rows_few : length rows ≤ most_rows
  rows_few = read_few s.0 s.1

  -- in their places they are the rows
  pub all_rows : rows_in file (length rows) ≡ rows
  all_rows = sym (tab_is rows (length rows) (λ i. row_from file (place i)) no_entry refl (λ i h. sym (row_placed i h)))

  pub all_placed : Placed file (length rows)
  all_placed = record { few = rows_few; inside = places_end; ascend = lies_ascend s.0 s.1 }

-- Rows in their places are these rows -----------------------------------------------------------------------------------

module _ (file : List ℕ) (n : ℕ) where
  count_in : length (rows_in file n) ≡ n
  count_in = length_tab n (λ i. row_from file (place i))

  row_in : (i : ℕ) → i < n → at (rows_in file n) i ≡ row_from file (place i)
  row_in i h = get_or_tab n (λ i. row_from file (place i)) no_entry i h

  -- seen as a list
  module _ (l : List Entry) (e : rows_in file n ≡ l) where
    pub count_seen : n ≡ length l
    count_seen = sym count_in ∙ ap length e

    pub row_seen : (i : ℕ) → i < length l → row_from file (place i) ≡ at l i
    row_seen i h = sym (row_in i (omega (arith, count_seen))) ∙ ap (λ (x : List Entry). at x i) e

    pub word_seen : (i : ℕ) → i < length l → u32_at file (place i) ≡ (at l i).word
    word_seen i h = ap (λ (x : Entry). x.word) (row_seen i h)

    pub ascend_seen : Ascends file n → (i j : ℕ) → i < j → j < length l → (at l i).word < (at l j).word
    ascend_seen a i j h k =
        let p = ap (λ (x : Entry). x.word) (row_seen i (omega arith)) in
        let q = ap (λ (x : Entry). x.word) (row_seen j k) in
        omega (arith, p, q, a i j h (omega (arith, count_seen)))

module _ {file : List ℕ} {k : ℕ} {σ : Sheet} {rows : List Entry} (sized : Sized file) (r : Reads file k σ rows) where
  pub rows_are : rows_in file (length rows) ≡ rows
  rows_are = sym (tab_is rows (length rows) (λ i. row_from file (place i)) no_entry refl (λ i h. sym (row_lies sized r i h)))

  -- as many as the blocks' own bytes say
  pub rows_counted : 1 ≤ k → block_slots * (k - 1) + get_or file (block_bytes * k + 3) 0 ≡ length rows
  rows_counted h = omega (arith, rows_read sized r h, at_block file k 3 (omega arith))

  pub rows_placed : Placed file (length rows)
  rows_placed = record { few = read_few sized r; inside = lies_end sized r; ascend = lies_ascend sized r }

-- A turn of the search: the asked word is above the middle one, or not --------------------------------------------------

module _ (l : List Entry) (w m : ℕ) (a : (i j : ℕ) → i < j → j < length l → (at l i).word < (at l j).word) (here : m < length l) where
  pub search_up : (at l m).word < w → (k : ℕ) → k < m + 1 → (at l k).word < w
  search_up h k j = go (dec_lt k m)
    where
      go : Dec (k < m) → (at l k).word < w
      go (yes q) = omega (arith, a k m q here)
      go (no q) = let e : m ≡ k = omega arith in subst (λ (x : ℕ). (at l x).word < w) e h

  pub search_down : w ≤ (at l m).word → (k : ℕ) → m ≤ k → k < length l → w ≤ (at l k).word
  search_down h k i j = go (dec_lt m k)
    where
      go : Dec (m < k) → w ≤ (at l k).word
      go (yes q) = omega (arith, a m k q j)
      go (no q) = let e : m ≡ k = omega arith in subst (λ (x : ℕ). w ≤ (at l x).word) e h

-- the first row that is not below has the word, or none has
pub found_none : (l : List Entry) (w p : ℕ) → ((i : ℕ) → i < p → (at l i).word < w) → ((i : ℕ) → p ≤ i → i < length l → w ≤ (at l i).word)
    → (p < length l → (at l p).word ≢ w) → ((i j : ℕ) → i < j → j < length l → (at l i).word < (at l j).word) → Finds l w None
found_none l w p lo hi ne a j h e = other (dec_lt j p) (dec_lt p j)
  where
    other : Dec (j < p) → Dec (p < j) → ⊥
    other (yes q) d = omega (arith, lo j q)
    other (no q) (yes d) = omega (arith, a p j d h, hi p (omega arith) (omega arith))
    other (no q) (no d) = let g : p ≡ j = omega arith in subst (λ (x : ℕ). (at l x).word ≢ w) g (ne (omega arith)) e

pub found_at : (l : List Entry) (w p : ℕ) → p < length l → (at l p).word ≡ w → Finds l w (Some p)
found_at l w p h e = (h, e)
