-- The blocks passed end below the word; the next one is bad, ends the reading, or is passed too. Assumes nothing.
use Rattle.table.specs.PastLaws.{Past}
use Rattle.table.proofs.judge.last_after_first.Given as goal

abbrev pub invariant-loop-b : goal.invariant-loop-b
invariant-loop-b l = Past l.file l.word l.b
