-- The first job that the test refuses is the lowest bad one: all before it were good. Assumes nothing.
use Rattle.std.proofs.Common.{arith, map}
use Rattle.sheet.specs.Arrays.{job_of}
use Rattle.sheet.proofs.ArraysLaws.{job_read, jobs_many}
use Rattle.state.specs.LowestLaws.{bad_at, none_bad}
use Rattle.state.specs.Tell.{told_no}
use Rattle.state.proofs.jobs.JobSheet.lowest_bad.Goals as goal

pub returns-then-not-is_good : goal.returns-then-not-is_good
returns-then-not-is_good c =
    let l = c.jobs-numbers-items.result.now in
    let i = c.loop-i.i in
    rw (← c.jobs-numbers-items.ensures.same) (
      bad_at (map job_of l) i (omega (arith, jobs_many l, c.loop-i-test.true)) (λ k h. rw (job_read l k) (c.loop-i.invariant k h))
          (rw (job_read l i, ← c.from-job.ensures) (told_no c.is_good.ensures c.if-not-is_good.true)),
      omega arith,
    )

pub returns : goal.returns
returns c =
    let l = c.jobs-numbers-items.result.now in
    rw (← c.jobs-numbers-items.ensures.same)
    (none_bad (map job_of l) (λ i h. rw (job_read l i) (c.loop-i.invariant i (omega (arith, jobs_many l)))))
