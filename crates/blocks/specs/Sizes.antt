-- The numbers of a table file (01, "Table file"), each in its one home. The contracts hold the code's constants to them.
use Rattle.std.specs.Prelude.{ℕ, ◌-◌, ◌*◌}

-- "Blocks of 512 bytes"
abbrev pub block_bytes : ℕ
block_bytes = 512

-- "Bytes 508–511: the check": the bytes before it
abbrev pub body_bytes : ℕ
body_bytes = 508

-- "Bytes 8–503: 62 slots of 8 bytes": the bytes before the slots, the slots of a block, the bytes of a slot
abbrev pub header_bytes : ℕ
header_bytes = 8

abbrev pub block_slots : ℕ
block_slots = 62

abbrev pub slot_bytes : ℕ
slot_bytes = 8

-- "2 to 128 of them"; block 0 holds no row
abbrev pub most_blocks : ℕ
most_blocks = 128

abbrev pub most_rows : ℕ
most_rows = (most_blocks - 1) * block_slots

-- "1 to 8 jobs"
abbrev pub most_jobs : ℕ
most_jobs = 8

-- "the letters T and B, 84 and 66"
abbrev pub letter_t : ℕ
letter_t = 84

abbrev pub letter_b : ℕ
letter_b = 66

-- "It never exceeds 32,967,931."
abbrev pub most_check : ℕ
most_check = 32967931
