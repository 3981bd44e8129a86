-- The word so far is that of the statuses passed.
use Rattle.std.proofs.Common.{◌≡◌}
use Rattle.state.proofs.Packing.{packed}
use Rattle.state.proofs.word.State.word.Given as goal

abbrev pub invariant-loop-i : goal.invariant-loop-i
invariant-loop-i l = l.word ≡ packed l.status-items l.i
