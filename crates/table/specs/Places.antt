-- Rows in their places in a file, and what it is to find one.
use Rattle.std.specs.Prelude.{ℕ, ◌+◌, ◌*◌, ◌/◌, ◌%◌, ◌≤◌, ◌<◌, ◌≡◌, ◌≢◌, List, length, Option, None, Some}
use Rattle.sheet.specs.Model.{Sheet}
use Rattle.sheet.specs.Table.{Entry, at}
use Rattle.blocks.specs.Sizes.{block_bytes, block_slots, slot_bytes, most_rows}
use Rattle.blocks.specs.Bytes.{u32_at}
use Rattle.blocks.specs.Fields.{slot_at, row_from}
use Rattle.blocks.specs.Tab.{tab}
use Rattle.table.specs.Reading.{Says, good}

-- where row `i` stands, counted from 0
abbrev pub place : ℕ → ℕ
place i = block_bytes * (i / block_slots + 1) + slot_at (i % block_slots)

-- the words of the first n rows in their places ascend
abbrev pub Ascends : List ℕ → ℕ → Type 0
Ascends file n = (i j : ℕ) → i < j → j < n → u32_at file (place i) < u32_at file (place j)

-- a file of good form
abbrev pub GoodFile : List ℕ → Type 0
GoodFile file = (σ : Sheet) × (rows : List Entry) × Says file (good σ rows)

-- the first `n` rows in their places
abbrev pub rows_in : List ℕ → ℕ → List Entry
rows_in file n = tab n (λ i. row_from file (place i))

-- a file has `n` rows in ascending order
pub record Placed (file : List ℕ) (n : ℕ) : Type 0 where
  pub few : n ≤ most_rows
  pub inside : (i : ℕ) → i < n → place i + slot_bytes ≤ length file
  pub ascend : Ascends file n

-- no row has the word, or this one has
abbrev pub Finds : List Entry → ℕ → Option ℕ → Type 0
Finds rows w None = (i : ℕ) → i < length rows → (at rows i).word ≢ w
Finds rows w (Some i) = (i < length rows) × ((at rows i).word ≡ w)
