-- `check_of`: the sum is that of the bytes passed, the sums 1 plus their weighted sum. Assumes nothing.
use Rattle.std.proofs.Common.{take}
use Rattle.blocks.specs.Sizes.{body_bytes}
use Rattle.blocks.specs.CheckLaws.{Counted}
use Rattle.blocks.proofs.check.check_of.Given as goal

abbrev pub invariant-loop-byte : goal.invariant-loop-byte
invariant-loop-byte l = Counted (take body_bytes l.block) l.byte-iterator.iter.rest.now l.sum l.sums
