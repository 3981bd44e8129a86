-- Each answer follows from what was learnt before it. Assumes nothing.
use Rattle.std.proofs.Common.{arith, rules, sym, ◌∙◌, subst, Bool}
use Rattle.plant.specs.Reflect.{Is}
use Rattle.sheet.specs.Form.{GoodEntry}
use Rattle.blocks.specs.Rows.{entry_of}
use Rattle.state.specs.Tell.{told_yes}
use Rattle.form.specs.RowAnswers.{done_row, jobs_bad, rest_bad, rest_row}
use Rattle.form.proofs.row.row_good.Goals as goal

pub returns-then-all_done : goal.returns-then-all_done
returns-then-all_done c =
    let a = c.args.row in
    let n = c.count-n.ensures in
    done_row c.args.sheet.now a.word a.starts a.tick (omega (arith, n.same)) (told_yes (rw n.same at c.ends.ensures) c.if-not-ends.false)
    (rw n.same at (sym c.all_done.ensures) ∙ c.if-all_done.true) c.finished_good.ensures

pub returns-in_default : goal.returns-in_default
returns-in_default c =
    let a = c.args.row in
    let n = c.count-n.ensures in
    jobs_bad c.args.sheet.now a.word a.starts a.tick (omega (arith, n.same)) (told_yes (rw n.same at c.ends.ensures) c.if-not-ends.false)
    (rw n.same at (sym c.all_done.ensures) ∙ c.if-all_done.false) c.in_default.ensures

pub returns-then-elapsed_fits : goal.returns-then-elapsed_fits
returns-then-elapsed_fits c =
    let a = c.args.row in
    let n = c.count-n.ensures in
    rest_row c.args.sheet.now a.word a.starts a.tick (omega (arith, n.same)) (told_yes (rw n.same at c.ends.ensures) c.if-not-ends.false)
    (rw n.same at (sym c.all_done.ensures) ∙ c.if-all_done.false) c.in-Some.passed c.in-Some.ensures
    (rw c.elapsed_of.ensures at c.if-elapsed_fits.true) (search rules) (search rules) _ c.marks_fit.ensures

pub returns-else-elapsed_fits : goal.returns-else-elapsed_fits
returns-else-elapsed_fits c =
    let a = c.args.row in
    let n = c.count-n.ensures in
    subst (λ (b : Bool). Is b (GoodEntry c.args.sheet.now (entry_of a))) (sym c.if-elapsed_fits.false)
    (rest_bad c.args.sheet.now a.word a.starts a.tick (omega (arith, n.same)) (told_yes (rw n.same at c.ends.ensures) c.if-not-ends.false)
    (rw n.same at (sym c.all_done.ensures) ∙ c.if-all_done.false) c.in-Some.passed c.in-Some.ensures
    (rw c.elapsed_of.ensures at c.if-elapsed_fits.false))
