-- `number_in_front`: before each turn the bytes passed are digits. Assumes nothing.
use Rattle.text.specs.Fields.{Passed}
use Rattle.text.proofs.read.number_in_front.Given as goal

abbrev pub invariant-loop-digits : goal.invariant-loop-digits
invariant-loop-digits l = Passed l.text l.digits l.value
