-- The bytes of a table file (01, "Table file"): what the writer writes for a sheet and its rows.
use Rattle.std.specs.Prelude.{ℕ, zero, suc, ◌+◌, ◌-◌, ◌*◌, ◌/◌, List, [], ◌∷◌, ◌++◌, map, length, take, drop, replicate}
use Rattle.sheet.specs.declared.Job.{Job}
use Rattle.sheet.specs.Model.{Sheet}
use Rattle.sheet.specs.Table.{Entry}
use Rattle.blocks.specs.Sizes.{body_bytes, block_slots, letter_t, letter_b}
use Rattle.blocks.specs.Bytes.{le16, le32, check_of}

-- A block -------------------------------------------------------------------------------------------------------------

-- slot after slot
unfoldable pub joined : List (List ℕ) → List ℕ
joined [] = []
joined (s ∷ l) = s ++ joined l

-- "the letters T and B .. number of jobs .. slots used .. block number from 0 .. number of blocks"
abbrev pub header : (n used k total : ℕ) → List ℕ
header n used k total = letter_t ∷ letter_b ∷ n ∷ used ∷ (le16 k ++ le16 total)

-- zeros up to the check: "unused ones zero. Bytes 504–507: zero."
abbrev pub body_of : List ℕ → List ℕ
body_of front = front ++ replicate (body_bytes - length front) 0

-- "Bytes 508–511: the check"
unfoldable pub sealed : List ℕ → List ℕ
sealed front = body_of front ++ le32 (check_of (body_of front))

-- header, slots, zeros and check
unfoldable pub block_of : (n k total : ℕ) → List (List ℕ) → List ℕ
block_of n k total slots = sealed (header n (length slots) k total ++ joined slots)

-- A file --------------------------------------------------------------------------------------------------------------

-- "one slot a job of good form, A, B, W, D in two bytes each"
abbrev pub job_slot : Job → List ℕ
job_slot j = le16 j.arrives ++ (le16 j.fewest ++ (le16 j.most ++ le16 j.due))

-- "Row: word (4 bytes), starts, tick code, two zero bytes."
abbrev pub row_slot : Entry → List ℕ
row_slot e = le32 e.word ++ (e.starts ∷ e.tick ∷ 0 ∷ 0 ∷ [])

-- "Block 0: one slot a job .. The other blocks: rows .. 62 in each but the last"
abbrev pub block_for : (total : ℕ) → Sheet → List Entry → ℕ → List ℕ
block_for total σ rows zero = block_of (length σ) 0 total (map job_slot σ)
block_for total σ rows (suc b) = block_of (length σ) (suc b) total (map row_slot (take block_slots (drop (block_slots * b) rows)))

-- blocks 0 to k − 1, one after the other
unfoldable pub written : (total : ℕ) → Sheet → List Entry → ℕ → List ℕ
written total σ rows zero = []
written total σ rows (suc k) = written total σ rows k ++ block_for total σ rows k

-- the blocks of a file of so many rows
abbrev pub blocks_of : ℕ → ℕ
blocks_of count = 1 + (count + (block_slots - 1)) / block_slots

abbrev pub bytes_of : Sheet → List Entry → List ℕ
bytes_of σ rows = written (blocks_of (length rows)) σ rows (blocks_of (length rows))
