-- Each job passed fits, and what is told of them grows by one job. Assumes nothing.
use Rattle.std.proofs.Common.{◌≡◌, ◌∙◌, length, arith}
use Rattle.sheet.proofs.ArraysLaws.{job_there}
use Rattle.state.specs.Tell.{told_yes, told_no}
use Rattle.form.specs.PassLaws.{pass_none, not_fit, two_run, pass_more}
use Rattle.form.proofs.row.pass.Goals as goal

pub loop-k-init : goal.loop-k-init
loop-k-init c = pass_none _ _ _ _

pub returns-then-not-job_fits : goal.returns-then-not-job_fits
returns-then-not-job_fits c =
    let row = c.args.row in
    let n = c.jobs-numbers-items.ensures.many in
    let here = c.from-job.ensures ∙ job_there c.jobs-numbers-items.result.now c.args.sheet.now c.loop-k.k c.jobs-numbers-items.ensures.same in
    let fits = rw (here, c.now_of-now.ensures, c.elapsed_of-elapsed.ensures) at c.job_fits.ensures in
    not_fit c.args.sheet.now row.word row.starts row.tick c.loop-k.k (omega arith) _ _ c.status_in-status.ensures c.has-marked.ensures
    (told_no fits c.if-not-job_fits.true)

pub returns-then-passed-runs : goal.returns-then-passed-runs
returns-then-passed-runs c =
    let row = c.args.row in
    let n = c.jobs-numbers-items.ensures.many in
    two_run c.args.sheet.now row.word row.starts row.tick c.loop-k.k (omega arith) _ _ c.status_in-status.ensures c.has-marked.ensures
    _ _ c.runs-runs.ensures c.loop-k.invariant.1 c.if-passed-runs.true

pub loop-k-preserved : goal.loop-k-preserved
loop-k-preserved c =
    let row = c.args.row in
    let n = c.jobs-numbers-items.ensures.many in
    let here = c.from-job.ensures ∙ job_there c.jobs-numbers-items.result.now c.args.sheet.now c.loop-k.k c.jobs-numbers-items.ensures.same in
    let fits = rw (here, c.now_of-now.ensures, c.elapsed_of-elapsed.ensures) at c.job_fits.ensures in
    pass_more c.args.sheet.now row.word row.starts row.tick c.loop-k.k (omega arith) _ _ c.status_in-status.ensures c.has-marked.ensures
    c.loop-k.passed _ c.runs-runs.ensures _ _ (told_yes fits c.if-not-job_fits.false) c.if-passed-runs.false
    (rw (here, c.now_of-now.ensures) at c.pends.ensures)
    (rw (here, c.elapsed_of-elapsed.ensures) at c.spends.ensures)
    c.loop-k.invariant

pub returns : goal.returns
returns c =
    let n = c.jobs-numbers-items.ensures.many in
    let e : c.loop-k.k ≡ length c.args.sheet.now = omega arith in
    rw e at c.loop-k.invariant
