-- Whole jobs, at most so many, are the sheet lent; and where none of them is bad it is of good form. Assumes nothing.
use Rattle.std.proofs.Common.{◌≤◌, ◌≡◌, ◌∙◌, arith, inl, refl}
use Rattle.sheet.specs.Arrays.{sheet_of}
use Rattle.state.specs.Lowest.{lowest_bad}
use Rattle.state.specs.LentLaws.{jobs_none, jobs_some, lent_is, lent_bad, lent_good}
use Rattle.state.proofs.jobs.JobSheet.lent.Goals as goal

pub overflow_cast-result : goal.overflow_cast-result
overflow_cast-result c =
    let n = c.args.numbers.now in
    let jobs = c.jobs_of in
    let k = c.jobs_in-count.result in
    let some = jobs_some c.args.most n k c.jobs_in-count.ensures c.if-count-eq0.false in
    let low : lowest_bad (sheet_of jobs.result k) ≡ c.in-Some.i = rw c.from_jobs-sheet.ensures at c.in-Some.ensures.0 in
    record { fits = omega (arith, lent_bad n jobs.result k jobs.ensures some.0 some.2.0 (omega (arith, some.2.1)), some.2.1) }

pub returns-then-count-eq0 : goal.returns-then-count-eq0
returns-then-count-eq0 c = inl (refl, jobs_none c.args.most c.args.numbers.now c.jobs_in-count.result c.jobs_in-count.ensures c.if-count-eq0.true)

pub returns-in-None : goal.returns-in-None
returns-in-None c =
    let n = c.args.numbers.now in
    let jobs = c.jobs_of in
    let k = c.jobs_in-count.result in
    let some = jobs_some c.args.most n k c.jobs_in-count.ensures c.if-count-eq0.false in
    let few : k ≤ 8 = omega (arith, some.2.1) in
    let is = c.from_jobs-sheet.ensures in
    let none : lowest_bad (sheet_of jobs.result k) ≡ 0 = rw is at c.in-None.ensures in (
      is ∙ lent_is n jobs.result k jobs.ensures some.0 some.2.0 few,
      some.1,
      rw is (lent_good n jobs.result k jobs.ensures some.0 some.2.0 few none),
    )
