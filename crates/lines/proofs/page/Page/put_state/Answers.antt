-- `put_state`: each piece stands behind the one before, and the state is that of the word. Assumes nothing.
use Rattle.std.proofs.Common.{subst}
use Rattle.sheet.specs.Model.{State}
use Rattle.lines.specs.Parts.{state_part}
use Rattle.lines.specs.Pages.{Adds}
use Rattle.lines.specs.PagesLaws.{adds_then}
use Rattle.lines.proofs.page.Page.put_state.Goals as goal

pub returns : goal.returns
returns c =
    let a = c.args in
    subst (λ (q : State). Adds a.self.now (state_part a.n q) c.put.new.self) c.from-state.ensures
    (adds_then c.put_clock.ensures.prints (adds_then c.put_clock-2.ensures.prints (adds_then c.put_statuses.ensures c.put.ensures)))
