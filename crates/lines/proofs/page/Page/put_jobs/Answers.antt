-- `put_jobs`: before each turn the jobs passed are printed. Assumes nothing.
use Rattle.std.proofs.Common.{arith, ◌≡◌, ◌+◌, ◌-◌}
use Rattle.lines.specs.Lines.{jobs_text}
use Rattle.lines.specs.LineLaws.{jobs_more, jobs_length}
use Rattle.lines.specs.PagesLaws.{adds_none, adds_then}
use Rattle.lines.proofs.page.Page.put_jobs.Goals as goal

pub loop-k-init : goal.loop-k-init
unfolding jobs_text
loop-k-init c = (omega arith, adds_none c.args.self.now (omega arith))

pub put_job-requires : goal.put_job-requires
put_job-requires c = (omega arith, omega (arith, jobs_length c.args.starts (c.loop-k.k - 1)))

pub loop-k-preserved : goal.loop-k-preserved
loop-k-preserved c =
    let k : c.loop-k.k + 1 - 1 ≡ c.loop-k.k - 1 + 1 = omega arith in
    let j : c.loop-k.k - 1 + 1 ≡ c.loop-k.k = omega arith in
    (omega arith, rw (k, jobs_more c.args.starts (c.loop-k.k - 1), j) (adds_then c.loop-k.invariant.1 c.put_job.ensures))

-- there is no job
pub returns : goal.returns
returns c = let e : c.loop-k.k - 1 ≡ c.args.n = omega arith in rw e at c.loop-k.invariant.1

-- the last job was printed
pub returns-2 : goal.returns-2
returns-2 c =
    let j : c.loop-k.k - 1 + 1 ≡ c.loop-k.k = omega arith in
    let e : c.args.n ≡ c.loop-k.k - 1 + 1 = omega arith in
    rw (e, jobs_more c.args.starts (c.loop-k.k - 1), j) (adds_then c.loop-k.invariant.1 c.put_job.ensures)
