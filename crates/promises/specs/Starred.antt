-- The starred sheets of 01, "Sheets worked by hand", 1 to 9: the table of `sheet` with one claim a line, and what files and calls say of S1 and S2. Assumes nothing.
use Rattle.std.specs.Prelude.{ℕ, ◌≡◌, refl, length, get_or, pos}
use mathlib.Core.List.{[], Memᴰ}
use Rattle.sheet.specs.Model.{digits}
use Rattle.sheet.specs.Starred.{Star, stars, Claim}
use Rattle.sheet.proofs.StarredLaws.{starred}
use Rattle.blocks.specs.Sizes.{body_bytes}
use Rattle.blocks.specs.Bytes.{u32_at}
use Rattle.blocks.specs.File.{block_for, blocks_of}
use Rattle.blocks.specs.Starred.{s1_check}
use Rattle.table.specs.Reading.{good}
use Rattle.table.specs.Replies.{is_row, leeway_reply}

-- the sheets of the table by their place in it: S1 is the first, S2 the second
abbrev pub star : ℕ → Star
star i = get_or stars i (record { sheet = []; live = 0; rows = [] })

pub record Starred : Type 0 where
  -- 1, 3 to 9: good form, the number of live states, exactly these rows with their starts and ticks, or impossible
  pub sheets : (x : Star) → Memᴰ x stars → Claim x
  -- 2: "S1's block 0 has check 277."
  pub check : u32_at (block_for (blocks_of (length (star 0).rows)) (star 0).sheet (star 0).rows 0) body_bytes ≡ 277
  -- 7: "S2, word 50331661: job 1, held; its leeway is 0."
  pub leeway : leeway_reply 50331661 1 (good (star 1).sheet (star 1).rows) ≡ record { number = 0; detail = 0; leeway = pos 0 }

pub all_starred : Starred
unfolding stars is_row digits
all_starred = record { sheets = starred; check = s1_check (star 0).rows refl; leeway = refl }
