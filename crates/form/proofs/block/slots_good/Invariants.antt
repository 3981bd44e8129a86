-- Each slot passed is good. Assumes nothing.
use Rattle.std.proofs.Common.{ℕ, ◌<◌}
use Rattle.form.specs.BlockTest.{SlotGood}
use Rattle.form.proofs.block.slots_good.Given as goal

abbrev pub invariant-loop-s : goal.invariant-loop-s
invariant-loop-s l = (k : ℕ) → k < l.s → SlotGood l.sheet l.block k
