-- A file written block after block: its length, and that the blocks of what the code holds are the file's. Assumes nothing.
use Prim.Native.Nat.{ℕ, zero, suc, ◌+◌, ◌-◌, ◌*◌, ◌≤◌, min}
use native.Mathlib.Omega.{arith}
use Rattle.std.proofs.Math.Numerals.{add-one}
use Rattle.std.specs.Prelude.{◌≡◌, List, [], ◌++◌, map, length, get_or}
use Rattle.std.proofs.Math.Path.{refl, ap}
use Rattle.std.proofs.Common.{sym, ◌∙◌, append_assoc, length-take}
use Rattle.std.proofs.Math.ListN.{take, drop, length-append}
use Rattle.std.proofs.Math.Seq.{take_at, drop_at, drop-drop}
use Rattle.sheet.specs.Model.{Sheet}
use Rattle.sheet.specs.Arrays.{job_of, sheet_of}
use Rattle.sheet.proofs.ArraysLaws.{length_sheet}
use Rattle.sheet.specs.Table.{Entry}
use Rattle.blocks.specs.Sizes.{block_bytes, block_slots, slot_bytes, most_jobs}
use Rattle.blocks.specs.File.{block_of, job_slot, row_slot, block_for, written, blocks_of, bytes_of}
use Rattle.blocks.specs.Tab.{tab}
use Rattle.blocks.specs.TabLaws.{take_is_tab, part_tab, map_tab}
use Rattle.blocks.specs.BlockLaws.{block_length}

module _ (t : ℕ) (σ : Sheet) (rows : List Entry) (few : length σ ≤ block_slots) where
  pub length_block : (b : ℕ) → length (block_for t σ rows b) ≡ block_bytes
  length_block zero = block_length slot_bytes job_slot (λ x. refl) (length σ) 0 t σ (omega arith)
  length_block (suc b) =
      let part = take block_slots (drop (block_slots * b) rows) in
      block_length slot_bytes row_slot (λ x. refl) (length σ) (suc b) t part (omega (arith, length-take block_slots (drop (block_slots * b) rows)))

  pub length_written : (k : ℕ) → length (written t σ rows k) ≡ block_bytes * k
  unfolding written
  length_written zero = refl
  length_written (suc k) = simp length-append (omega (arith, length_written k, length_block k))

  -- one block more, written in its place: `old` is what stood there before the first
  pub block_more : (old now block new : List ℕ) (k : ℕ) → now ≡ written t σ rows k ++ drop (block_bytes * k) old → block ≡ block_for t σ rows k
      → new ≡ take (block_bytes * k) now ++ (block ++ drop block_bytes (drop (block_bytes * k) now))
      → new ≡ written t σ rows (k + 1) ++ drop (block_bytes * (k + 1)) old
  unfolding written
  block_more old now block new k e b q =
      let p = written t σ rows k in
      let h : take (block_bytes * k) now ≡ p = ap (take (block_bytes * k)) e ∙ take_at p (drop (block_bytes * k) old) (block_bytes * k) (length_written k) in
      let r : drop (block_bytes * k) now ≡ drop (block_bytes * k) old = ap (drop (block_bytes * k)) e ∙ drop_at p (drop (block_bytes * k) old) (block_bytes * k) (length_written k) in
      let m : block_bytes * k + block_bytes ≡ block_bytes * suc k = omega arith in
      q ∙ rw (h, r, drop-drop block_bytes (block_bytes * k) old, m, b, add-one k) (sym (append_assoc p (block_for t σ rows k) (drop (block_bytes * suc k) old)))

  -- the first
  pub block_first : (old block new : List ℕ) → block ≡ block_for t σ rows 0 → new ≡ block ++ drop block_bytes old → new ≡ written t σ rows 1 ++ drop block_bytes old
  unfolding written
  block_first old block new b q = block_more old old block new 0 refl b q

pub length_bytes : (σ : Sheet) (rows : List Entry) → length σ ≤ block_slots → length (bytes_of σ rows) ≡ block_bytes * blocks_of (length rows)
length_bytes σ rows few = length_written (blocks_of (length rows)) σ rows few (blocks_of (length rows))

-- the first n of the arrays, by place
module _ (js : List (List ℕ)) (n : ℕ) (l : length js ≡ most_jobs) (h : n ≤ most_jobs) where
  pub sheet_tab : sheet_of js n ≡ tab n (λ s. job_of (get_or js s []))
  sheet_tab = rw (take_is_tab n js [] (omega arith)) (map_tab job_of n (λ s. get_or js s []))

  pub jobs_block : (t : ℕ) (rows : List Entry) (block : List ℕ) → block ≡ block_of n 0 t (map job_slot (sheet_of js n)) → block ≡ block_for t (sheet_of js n) rows 0
  jobs_block t rows block e = rw (length_sheet js n (omega arith)) e

-- block b has the rows from 62 × (b − 1) on
pub rows_block : (n t b count used : ℕ) (f : ℕ → Entry) (σ : Sheet) (block : List ℕ) → 1 ≤ b → length σ ≡ n → used ≡ min block_slots (count - block_slots * (b - 1))
    → block ≡ block_of n b t (map row_slot (tab used (λ i. f (block_slots * (b - 1) + i)))) → block ≡ block_for t σ (tab count f) b
rows_block n t zero count used f σ block h l u e = absurd (omega arith)
rows_block n t (suc k) count used f σ block h l u e =
    let d : suc k - 1 ≡ k = omega arith in
    e ∙ rw (u, l, d, part_tab block_slots (block_slots * k) count f) refl
