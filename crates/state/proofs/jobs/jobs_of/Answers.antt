-- Eight jobs in their places are the arrays. Assumes nothing.
use Rattle.std.proofs.Common.{◌*◌, [], arith}
use Rattle.std.proofs.lemmas.List.FromFn.{fill_by_all}
use Rattle.sheet.specs.Arrays.{four, arrays}
use Rattle.state.proofs.jobs.jobs_of.Goals as goal

pub returns : goal.returns
unfolding arrays
returns c =
    let l = c.loop-i in
    fill_by_all (λ k. four c.args.numbers.now (4 * k)) l.job-items 8 [] l.invariant.0 (λ k h. l.invariant.1 k (omega arith))
