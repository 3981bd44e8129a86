-- "* S1's block 0 has check 277." (01, "Sheets worked by hand", 2)
use Rattle.std.specs.Prelude.{◌≡◌, refl, List, [], ◌∷◌, length}
use Rattle.sheet.specs.Model.{Sheet}
use Rattle.sheet.specs.Table.{Entry}
use Rattle.blocks.specs.Sizes.{body_bytes}
use Rattle.blocks.specs.Bytes.{u32_at, weighted}
use Rattle.blocks.specs.File.{joined, sealed, block_of, block_for, blocks_of}

-- S1 is (0,1,1,1)
abbrev pub s1 : Sheet
s1 = record { arrives = 0; fewest = 1; most = 1; due = 1 } ∷ []

-- block 0 of a file of two blocks, as five rows make it
pub s1_check : (rows : List Entry) → blocks_of (length rows) ≡ 2 → u32_at (block_for (blocks_of (length rows)) s1 rows 0) body_bytes ≡ 277
unfolding weighted joined sealed block_of
s1_check rows e = rw e refl
