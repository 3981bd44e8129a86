-- The bad block, or the row among the rows read. Assumes nothing.
use Rattle.std.proofs.Common.{◌≡◌, refl, sym, ap, ◌∙◌, Err}
use Rattle.std.proofs.lemmas.Result.{err_from_is_err_and, IfErr-at_err}
use Rattle.state.specs.declared.refusal.Refusal.{Refusal}
use Rattle.state.specs.declared.refusal.Refusal.TheVariants.{NoRow}
use Rattle.table.specs.Reading.{good, bad}
use Rattle.table.specs.Replies.{told, row_reply_of}
use Rattle.table.specs.RowLaws.{lookup_none, lookup_is}
use Rattle.table.proofs.row.row_in.Goals as goal

pub returns-in_err-rows : goal.returns-in_err-rows
returns-in_err-rows c =
    let p = err_from_is_err_and c.from_residual.result c.from_residual.ensures.1 in
    (bad _, c.in_err-rows.ensures, rw (p.1, p.2) refl)

pub returns-in_err-i : goal.returns-in_err-i
returns-in_err-i c =
    let r = c.in_ok-rows.ensures in
    let none = rw c.in_err-i.ensures.ok_part at c.find.ensures in
    let p = err_from_is_err_and c.from_residual-in_err-i.result c.from_residual-in_err-i.ensures.1 in
    let why = IfErr-at_err (λ (e : Refusal). NoRow ≡ e) (sym (rw c.in_err-i.ensures.ok_part at c.in_err-i.ensures.value)) refl in
    let refusal = p.1 ∙ ap Err (p.2 ∙ sym why) in
    (good r.0 c.in_ok-rows.rows, r.1, ap row_reply_of refusal ∙ sym (lookup_none c.args.word c.in_ok-rows.rows none))

pub returns : goal.returns
returns c =
    let r = c.in_ok-rows.ensures in
    let some = rw c.in_ok-i.ensures.ok_part at c.find.ensures in
    let found = lookup_is c.in_ok-rows.rows c.args.word c.in_ok-i.i r.1.3.form.ascending some in
    (good r.0 c.in_ok-rows.rows, r.1, ap told c.row.ensures ∙ sym found)
