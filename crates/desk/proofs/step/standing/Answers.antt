-- The row found is that of the word of the state on the desk. Assumes nothing.
use Rattle.std.proofs.Common.{◌≡◌, ap, ◌∙◌}
use Rattle.sheet.specs.Model.{word}
use Rattle.state.specs.Clocks.{model}
use Rattle.desk.specs.Stepping.{state_in}
use borrow.Author.Rules.{rules}
use Rattle.desk.proofs.step.standing.Goals as goal

pub returns : goal.returns
returns c =
    let m : model c.in_ok-s.s ≡ state_in c.args.desk = search rules in
    let f = rw c.in_ok-i.ensures.ok_part at c.find.ensures in
    (c.in_ok-i.i, f.0, f.1 ∙ c.word.ensures ∙ ap word m, c.row.ensures, m)
