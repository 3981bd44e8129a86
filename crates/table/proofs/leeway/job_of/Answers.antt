-- Each job stands in its slot of block 0. Assumes nothing.
use Rattle.std.proofs.Common.{ℕ, List, ◌-◌, arith, ap, ◌∙◌}
use Rattle.blocks.specs.Fields.{slot_at, job_from}
use Rattle.table.specs.ReadingLaws.{job_there}
use Rattle.table.proofs.leeway.job_of.Goals as goal

pub job_at-requires : goal.job_at-requires
job_at-requires c = let p = c.requires in omega (arith, p.3.1, p.2.1.sheet.few_jobs)

pub returns : goal.returns
returns c =
    λ σ rows s h. c.job_at.ensures
    ∙ ap (λ (b : List ℕ). job_from b (slot_at (c.args.job - 1))) c.block_at.ensures
    ∙ job_there s.0 s.1 (c.args.job - 1) (omega (arith, h.0, h.1))
