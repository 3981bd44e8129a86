-- A length fails one of three tests, or is four numbers a job. Assumes nothing.
use Rattle.std.proofs.Common.{arith, inr, refl}
use Rattle.state.proofs.jobs.jobs_in.Goals as goal

pub returns : goal.returns
returns c = inr (refl, (omega arith, omega arith, omega arith))
