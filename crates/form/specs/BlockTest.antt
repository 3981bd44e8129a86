-- The tests of a block as the code makes them, field by field (01, "Table file").
use Rattle.std.specs.Prelude.{ℕ, suc, ◌+◌, ◌-◌, ◌≤◌, ◌<◌, ◌≡◌, List, [], ◌∷◌, length, get_or}
use Rattle.sheet.specs.Model.{Sheet, GoodJob}
use Rattle.sheet.specs.Form.{GoodEntry}
use Rattle.blocks.specs.Sizes.{body_bytes, block_slots, slot_bytes, most_jobs}
use Rattle.blocks.specs.Bytes.{u16_at, u32_at}
use Rattle.blocks.specs.Fields.{Lettered, Framed, slot_at, job_from, row_from}
use Rattle.blocks.specs.Tab.{tab}

-- zero from a place up to the check
abbrev pub Zeros : List ℕ → ℕ → Type 0
Zeros block from = (i : ℕ) → from ≤ i → i < body_bytes → get_or block i 0 ≡ 0

-- the bytes before the slots
pub record Headed (n used k total : ℕ) (block : List ℕ) : Type 0 where
  pub letters : Lettered block
  pub jobs : get_or block 2 0 ≡ n
  pub slots : get_or block 3 0 ≡ used
  pub number : u16_at block 4 ≡ k
  pub count : u16_at block 6 ≡ total

-- block 0: "one slot a job of good form"
pub record JobsBlock (total : ℕ) (block : List ℕ) : Type 0 where
  pub some : 1 ≤ get_or block 3 0
  pub few : get_or block 3 0 ≤ most_jobs
  pub frame : Framed slot_bytes (get_or block 3 0) (get_or block 3 0) 0 total block
  pub slots : (s : ℕ) → s < get_or block 3 0 → GoodJob (job_from block (slot_at s))

-- slot `s` holds a row of good form, above the one before it in the block
pub record SlotGood (σ : Sheet) (block : List ℕ) (s : ℕ) : Type 0 where
  pub zero_two : (get_or block (slot_at s + 6) 0 ≡ 0) × (get_or block (slot_at s + 7) 0 ≡ 0)
  pub form : GoodEntry σ (row_from block (slot_at s))
  pub above : 1 ≤ s → u32_at block (slot_at (s - 1)) < u32_at block (slot_at s)

-- "62 in each but the last, which has 1 to 62"
pub record CountFits (used b total : ℕ) : Type 0 where
  pub some : 1 ≤ used
  pub few : used ≤ block_slots
  pub full : suc b < total → used ≡ block_slots

-- the first word of block `b`: "The first row has word 0", "in strictly ascending order" after the last word before
pub record Follows (b last word : ℕ) : Type 0 where
  pub first : b ≡ 1 → word ≡ 0
  pub after : 1 < b → last < word

-- a block of rows, after a block whose last row has the word `last`
pub record RowsBlock (σ : Sheet) (total b last : ℕ) (block : List ℕ) : Type 0 where
  pub count : CountFits (get_or block 3 0) b total
  pub frame : Framed slot_bytes (length σ) (get_or block 3 0) b total block
  pub slots : (s : ℕ) → s < get_or block 3 0 → SlotGood σ block s
  pub follows : Follows b last (u32_at block (slot_at 0))

-- the four numbers at a place, and the jobs of the first eight slots
abbrev pub four_at : List ℕ → ℕ → List ℕ
four_at s p = u16_at s p ∷ u16_at s (p + 2) ∷ u16_at s (p + 4) ∷ u16_at s (p + 6) ∷ []

unfoldable pub fours : List ℕ → List (List ℕ)
fours block = tab most_jobs (λ s. four_at block (slot_at s))

-- the jobs of block 0
abbrev pub jobs_in : List ℕ → Sheet
jobs_in block = tab (get_or block 3 0) (λ s. job_from block (slot_at s))
