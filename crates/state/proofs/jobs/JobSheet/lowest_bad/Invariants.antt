-- The jobs passed are good.
use Rattle.std.proofs.Common.{ℕ, ◌<◌, [], get_or}
use Rattle.sheet.specs.Model.{GoodJob}
use Rattle.sheet.specs.Arrays.{job_of}
use Rattle.state.proofs.jobs.JobSheet.lowest_bad.Given as goal

abbrev pub invariant-loop-i : goal.invariant-loop-i
invariant-loop-i l = (k : ℕ) → k < l.i → GoodJob (job_of (get_or l.numbers-items k []))
