-- The jobs so far are those of their slots. Assumes nothing.
use Rattle.std.proofs.Common.{ℕ, ◌<◌, ◌≡◌, [], length, get_or}
use Rattle.blocks.specs.Fields.{slot_at}
use Rattle.form.specs.BlockTest.{four_at}
use Rattle.form.proofs.block.sheet_in.Given as goal

abbrev pub invariant-loop-s : goal.invariant-loop-s
invariant-loop-s l = (length l.job-items ≡ 8) × ((k : ℕ) → k < l.s → get_or l.job-items k [] ≡ four_at l.block (slot_at k))
