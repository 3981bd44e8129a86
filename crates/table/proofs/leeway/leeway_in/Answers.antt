-- The order of the refusals. Assumes nothing.
use Rattle.std.proofs.Common.{◌/◌, ◌^◌, arith, rules, ◌≡◌, refl, sym, ap, ◌∙◌, SFits, Err}
use Rattle.std.proofs.lemmas.Result.{err_from_is_err_and, IfErr-at_err}
use Rattle.state.specs.declared.refusal.Refusal.{Refusal}
use Rattle.state.specs.declared.refusal.Refusal.TheVariants.{NoRow}
use Rattle.std.specs.Int.{w32}
use Rattle.std.proofs.lemmas.Int.{to_z-of_z}
use Rattle.sheet.specs.declared.Job.{Job}
use Rattle.state.specs.Tell.{told_yes, told_no}
use Rattle.table.specs.Reading.{good}
use Rattle.table.specs.Replies.{ticks_left, leeway_reply_of}
use Rattle.table.specs.LeewayLaws.{leeway_nine, leeway_eight, leeway_twelve, leeway_told}
use Rattle.table.proofs.leeway.leeway_in.Goals as goal

pub returns-then-not-has_job : goal.returns-then-not-has_job
returns-then-not-has_job c =
    let p = c.requires in
    let none = told_no (c.has_job.ensures _ _ p.1) c.if-not-has_job.true in
    (good p.0 c.args.rows.now, p.1, leeway_nine p.0 c.args.rows.now c.args.word c.args.job none)

pub returns-in_err-ok_or : goal.returns-in_err-ok_or
returns-in_err-ok_or c =
    let p = c.requires in
    let named = told_yes (c.has_job.ensures _ _ p.1) c.if-not-has_job.false in
    let none = rw c.in_err-ok_or.ensures.ok_part at c.find.ensures in
    let e = err_from_is_err_and c.from_residual.result c.from_residual.ensures.1 in
    let why = IfErr-at_err (λ (e : Refusal). NoRow ≡ e) (sym (rw c.in_err-ok_or.ensures.ok_part at c.in_err-ok_or.ensures.value)) refl in
    let refusal = e.1 ∙ ap Err (e.2 ∙ sym why) in
    (good p.0 c.args.rows.now, p.1, ap leeway_reply_of refusal ∙ leeway_eight p.0 c.args.rows.now c.args.word c.args.job named none)

pub overflow_cast-job : goal.overflow_cast-job
overflow_cast-job c =
    let p = c.requires in
    let named = told_yes (c.has_job.ensures _ _ p.1) c.if-not-has_job.false in
    record { fits = omega (arith, named.1, p.1.1.sheet.few_jobs) }

pub status_in-requires : goal.status_in-requires
status_in-requires c =
    let p = c.requires in
    let named = told_yes (c.has_job.ensures _ _ p.1) c.if-not-has_job.false in
    omega (arith, named.0, named.1, p.1.1.sheet.few_jobs)

pub returns-then-was_started : goal.returns-then-was_started
returns-then-was_started c =
    let p = c.requires in
    let named = told_yes (c.has_job.ensures _ _ p.1) c.if-not-has_job.false in
    let found = rw c.in_ok-ok_or.ensures.ok_part at c.find.ensures in
    let started = told_yes c.was_started.ensures c.if-was_started.true in (
      good p.0 c.args.rows.now,
      p.1,
      leeway_twelve p.0 c.args.rows.now c.args.word c.args.job named _ found (omega (arith, started, c.status_in.ensures)),
    )

pub job_of-requires : goal.job_of-requires
job_of-requires c =
    let p = c.requires in
    (p.0, c.args.rows.now, p.1, told_yes (c.has_job.ensures _ _ p.1) c.if-not-has_job.false)

pub left-requires : goal.left-requires
left-requires c =
    let p = c.requires in
    let named = told_yes (c.has_job.ensures _ _ p.1) c.if-not-has_job.false in
    let g = rw (← c.job_of.ensures _ _ p.1 named) at (p.1.1.sheet.each c.args.job named) in
    (g.early, g.fits)

pub returns : goal.returns
returns c =
    let p = c.requires in
    let named = told_yes (c.has_job.ensures _ _ p.1) c.if-not-has_job.false in
    let waits = told_no c.was_started.ensures c.if-was_started.false in
    let found = rw c.in_ok-ok_or.ensures.ok_part at c.find.ensures in
    let fits : SFits w32 c.left.result = search rules in
    let left = to_z-of_z w32 c.left.result fits ∙ rw c.now_of.ensures at c.left.ensures
    ∙ ap (λ (x : Job). ticks_left x.arrives x.due x.most (c.args.word / 2 ^ 24)) (c.job_of.ensures _ _ p.1 named) in (
      good p.0 c.args.rows.now,
      p.1,
      leeway_told p.0 c.args.rows.now c.args.word c.args.job named _ found (omega (arith, c.status_in.ensures)) _ left,
    )
