-- What a table file says (01, "Table file"): its jobs and rows, or its lowest bad block.
use Rattle.std.specs.Prelude.{ℕ, suc, ◌+◌, ◌-◌, ◌*◌, ◌/◌, ◌≤◌, ◌<◌, ◌≡◌, ◌⊎◌, List, length, take, drop}
use Rattle.sheet.specs.Model.{Sheet, Good}
use Rattle.sheet.specs.Table.{Entry}
use Rattle.sheet.specs.Form.{GoodRows}
use Rattle.blocks.specs.Sizes.{block_bytes, block_slots, most_blocks, most_rows}
use Rattle.blocks.specs.File.{block_for}

-- jobs and rows of good form that a file can hold
pub record Table (σ : Sheet) (rows : List Entry) : Type 0 where
  pub sheet : Good σ
  pub form : GoodRows σ rows
  pub some : 1 ≤ length rows
  pub few : length rows ≤ most_rows

-- "number of blocks, the file's length divided by 512"; block `b` of a file
abbrev pub total : List ℕ → ℕ
total file = length file / block_bytes

abbrev pub block_at : List ℕ → ℕ → List ℕ
block_at file b = take block_bytes (drop (block_bytes * b) file)

-- a length that is a multiple of 512 from 1,024 to 65,536
pub record Sized (file : List ℕ) : Type 0 where
  pub whole : length file ≡ block_bytes * total file
  pub long : 2 ≤ total file
  pub short : total file ≤ most_blocks

-- blocks 0 to `k` are what the writer writes for these jobs and these rows of good form,
-- of which there are "62 in each but the last, which has 1 to 62"
pub record Reads (file : List ℕ) (k : ℕ) (σ : Sheet) (rows : List Entry) : Type 0 where
  pub here : k < total file
  pub sheet : Good σ
  pub form : GoodRows σ rows
  pub some : block_slots * k < length rows + block_slots
  pub few : length rows ≤ block_slots * k
  pub full : suc k < total file → length rows ≡ block_slots * k
  pub blocks : (b : ℕ) → b ≤ k → block_at file b ≡ block_for (total file) σ rows b

-- no block up to `k` is bad
abbrev pub GoodTo : List ℕ → ℕ → Type 0
GoodTo file k = (σ : Sheet) × (rows : List Entry) × Reads file k σ rows

pub data Reading : Type 0 where
  bad : ℕ → Reading
  good : Sheet → List Entry → Reading

-- a good file says its jobs and rows, another "lowest bad block"; a bad length "is 7 with detail 0"
abbrev pub Says : List ℕ → Reading → Type 0
Says file (good σ rows) = Sized file × Reads file (total file - 1) σ rows
Says file (bad b) =
    ((¬ (Sized file)) × (b ≡ 0))
    ⊎ (Sized file × (b < total file) × ((a : ℕ) → a < b → GoodTo file a) × (¬ (GoodTo file b)))
