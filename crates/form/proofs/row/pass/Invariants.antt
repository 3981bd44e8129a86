-- Each job passed fits, and what is told of them grows by one job. Assumes nothing.
use Rattle.sheet.specs.Model.{state_of}
use Rattle.form.specs.RowTest.{JobsFit, TellsOf}
use Rattle.form.proofs.row.pass.Given as goal

abbrev pub invariant-loop-k : goal.invariant-loop-k
invariant-loop-k l =
    JobsFit l.sheet (state_of l.row.word) l.row.starts l.row.tick l.k
    × TellsOf l.sheet (state_of l.row.word) l.k l.passed
