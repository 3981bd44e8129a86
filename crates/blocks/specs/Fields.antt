-- The fields of a block as a test reads them (01, "Table file"). `BlockLaws` and `SlotLaws` say that they are the writer's block.
use Rattle.std.specs.Prelude.{ℕ, ◌+◌, ◌*◌, ◌≤◌, ◌<◌, ◌≡◌, List, length, get_or, take}
use Rattle.sheet.specs.declared.Job.{Job}
use Rattle.sheet.specs.Table.{Entry}
use Rattle.blocks.specs.Sizes.{block_bytes, body_bytes, header_bytes, slot_bytes, letter_t, letter_b}
use Rattle.blocks.specs.Bytes.{u16_at, u32_at, check_of}
use Rattle.blocks.specs.declared.header.Header.{Header}

-- "The first two bytes are the letters T and B"
pub record Lettered (block : List ℕ) : Type 0 where
  pub first : get_or block 0 0 ≡ letter_t
  pub second : get_or block 1 0 ≡ letter_b

-- "number of jobs .. slots used .. block number from 0 .. number of blocks"
abbrev pub header_in : List ℕ → Header
header_in s = record { jobs = get_or s 2 0; used = get_or s 3 0; number = u16_at s 4; total = u16_at s 6 }

-- what a block has around its slots of `w` bytes, field by field
pub record Framed (w n used k total : ℕ) (block : List ℕ) : Type 0 where
  pub size : length block ≡ block_bytes
  pub letters : Lettered block
  pub jobs : get_or block 2 0 ≡ n
  pub slots : get_or block 3 0 ≡ used
  pub number : u16_at block 4 ≡ k
  pub count : u16_at block 6 ≡ total
  pub zeros : (i : ℕ) → header_bytes + w * used ≤ i → i < body_bytes → get_or block i 0 ≡ 0
  pub check : u32_at block body_bytes ≡ check_of (take body_bytes block)

-- where slot `s` begins
abbrev pub slot_at : ℕ → ℕ
slot_at s = header_bytes + slot_bytes * s

-- the job and the row that stand at `p`
abbrev pub job_from : List ℕ → ℕ → Job
job_from s p = record { arrives = u16_at s p; fewest = u16_at s (p + 2); most = u16_at s (p + 4); due = u16_at s (p + 6) }

abbrev pub row_from : List ℕ → ℕ → Entry
row_from s p = record { word = u32_at s p; starts = get_or s (p + 4) 0; tick = get_or s (p + 5) 0 }
