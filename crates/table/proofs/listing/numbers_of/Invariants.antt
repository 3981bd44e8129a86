-- Each number passed stands in its place. Assumes nothing.
use Rattle.std.proofs.Common.{ℕ, ◌+◌, ◌*◌, ◌<◌, ◌≡◌, length, get_or}
use Rattle.blocks.specs.Sizes.{header_bytes}
use Rattle.blocks.specs.Bytes.{u16_at}
use Rattle.table.proofs.listing.numbers_of.Given as goal

abbrev pub invariant-loop-i : goal.invariant-loop-i
invariant-loop-i l = (length l.number-items ≡ 32) × ((k : ℕ) → k < l.i → get_or l.number-items k 0 ≡ u16_at l.file (header_bytes + 2 * k))
