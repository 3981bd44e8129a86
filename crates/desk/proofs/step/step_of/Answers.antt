-- The whole file says one thing only, and the reply is the reply to that. Assumes nothing.
use Rattle.std.proofs.Common.{arith, refl}
use Rattle.std.proofs.lemmas.Result.{err_from_is_err_and}
use Rattle.table.specs.Reading.{good, bad}
use Rattle.table.specs.ReadForLaws.{read_whole, whole_answer}
use Rattle.desk.specs.Stepping.{step_reply}
use Rattle.desk.proofs.step.step_of.Goals as goal

pub sheet_of-requires : goal.sheet_of-requires
sheet_of-requires c =
    let r = c.in_ok-rows.ensures in
    (r.0, c.in_ok-rows.rows, read_whole c.args.file.now (good r.0 c.in_ok-rows.rows) r.1)

pub step_in-requires : goal.step_in-requires
step_in-requires c =
    let r = c.in_ok-rows.ensures in
    let s = read_whole c.args.file.now (good r.0 c.in_ok-rows.rows) r.1 in
    let e = c.sheet_of.ensures r.0 c.in_ok-rows.rows s in
    rw e (s.1.sheet, s.1.form)

pub returns-in_err-rows : goal.returns-in_err-rows
returns-in_err-rows c =
    let p = err_from_is_err_and c.from_residual.result c.from_residual.ensures.1 in
    whole_answer c.args.file.now (λ i. omega (arith, c.type_inv.file i)) (step_reply c.args.desk c.args.byte) _ (bad _, c.in_err-rows.ensures, rw (p.1, p.2) refl)

pub returns : goal.returns
returns c =
    let r = c.in_ok-rows.ensures in
    let s = read_whole c.args.file.now (good r.0 c.in_ok-rows.rows) r.1 in
    let e = c.sheet_of.ensures r.0 c.in_ok-rows.rows s in
    whole_answer c.args.file.now (λ i. omega (arith, c.type_inv.file i)) (step_reply c.args.desk c.args.byte) _ (good r.0 c.in_ok-rows.rows, r.1, rw e at c.step_in.ensures)
