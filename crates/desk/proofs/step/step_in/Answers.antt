-- The stages in their order. Assumes nothing.
use Rattle.std.proofs.Common.{arith}
use Rattle.std.proofs.lemmas.Result.{err_from_is_err_and}
use Rattle.desk.specs.StageLaws.{at_eight, at_row, moves_on}
use borrow.Author.Rules.{rules}
use Rattle.desk.proofs.step.step_in.Goals as goal

pub returns-in_err-s : goal.returns-in_err-s
returns-in_err-s c =
    let σ = c.args.sheet.now in
    let rows = c.args.rows.now in
    let e = c.in_ok-event.ensures in
    let f = c.in_err-s.ensures in
    let p = err_from_is_err_and c.from_residual-in_err-s.result c.from_residual-in_err-s.ensures.1 in
    rw (p.1, p.2, f.0) (at_eight σ rows c.args.desk c.args.byte c.in_ok-event.event e.0 e.1 f.1)

pub moved-requires : goal.moved-requires
moved-requires c =
    let σ = c.args.sheet.now in
    let rows = c.args.rows.now in
    moves_on σ rows c.requires.0 c.requires.1 c.args.desk (omega (arith, c.well_formed), omega (arith, c.well_formed), search (rules, c.well_formed))
    (c.in_ok-s.s, c.in_ok-s.row) c.in_ok-s.ensures c.in_ok-event.event c.in_ok-event.ensures.1

pub returns-in_err-next : goal.returns-in_err-next
returns-in_err-next c =
    let σ = c.args.sheet.now in
    let rows = c.args.rows.now in
    let e = c.in_ok-event.ensures in
    let w = c.in_ok-s.ensures in
    let p = err_from_is_err_and c.from_residual-in_err-next.result c.from_residual-in_err-next.ensures.1 in
    rw (p.1, p.2)
    (at_row σ rows c.args.desk c.args.byte c.in_ok-event.event e.0 e.1 (c.in_ok-s.s, c.in_ok-s.row) c.requires.1.ascending w _ (c.in_err-next.ensures c.args.desk w.4))

pub returns : goal.returns
returns c =
    let σ = c.args.sheet.now in
    let rows = c.args.rows.now in
    let e = c.in_ok-event.ensures in
    let w = c.in_ok-s.ensures in
    rw c.from.ensures
    (at_row σ rows c.args.desk c.args.byte c.in_ok-event.event e.0 e.1 (c.in_ok-s.s, c.in_ok-s.row) c.requires.1.ascending w _ (c.in_ok-next.ensures c.args.desk w.4))
