-- Each slot passed is good. Assumes nothing.
use Rattle.std.proofs.Common.{ℕ, ◌<◌}
use Rattle.sheet.specs.Model.{GoodJob}
use Rattle.blocks.specs.Fields.{slot_at, job_from}
use Rattle.form.proofs.block.jobs_good.Given as goal

abbrev pub invariant-loop-s : goal.invariant-loop-s
invariant-loop-s l = (k : ℕ) → k < l.s → GoodJob (job_from l.block (slot_at k))
