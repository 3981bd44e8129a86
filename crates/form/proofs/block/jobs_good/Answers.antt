-- Each job passed is of good form. Assumes nothing.
use Rattle.std.proofs.Common.{below_more}
use Rattle.state.specs.Tell.{told_yes}
use Rattle.form.proofs.block.jobs_good.Goals as goal

pub loop-s-preserved : goal.loop-s-preserved
loop-s-preserved c = below_more _ _ c.loop-s.invariant (rw c.job_at.ensures at (told_yes c.is_good.ensures c.if-not-is_good.false))
