-- The file's own byte counts its jobs. Assumes nothing.
use Rattle.std.proofs.Common.{arith}
use Rattle.plant.specs.Reflect.{is_map, is_le}
use Rattle.table.specs.PlaceLaws.{jobs_number}
use Rattle.table.proofs.leeway.has_job.Goals as goal

pub returns-then-job-ge1 : goal.returns-then-job-ge1
returns-then-job-ge1 c =
    λ σ rows s. is_map (λ h. (c.if-job-ge1.true, omega (arith, jobs_number s, c.from.ensures))) (λ h. omega (arith, h.1, jobs_number s, c.from.ensures))
    (is_le c.args.job c.from.result)
