-- `parse`: before each turn the numbers read so far stand in front, and zeros past them. Assumes nothing.
use Rattle.std.proofs.Common.{length}
use Rattle.text.specs.Padded.{Padded}
use Rattle.text.specs.Fields.{SoFar}
use Rattle.text.proofs.read.parse.Given as goal

abbrev pub invariant-loop-rest : goal.invariant-loop-rest
invariant-loop-rest l = SoFar l.text l.numbers l.count l.rest × Padded l.numbers l.count

abbrev pub decreases-loop-rest : goal.decreases-loop-rest
decreases-loop-rest l = length l.rest
