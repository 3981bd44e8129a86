-- `put_statuses`: one status more is printed. Assumes nothing.
use Rattle.std.proofs.Common.{arith, ◌<◌, get_or-take, length, length-take}
use Rattle.lines.specs.LineLaws.{statuses_more}
use Rattle.lines.specs.PagesLaws.{adds_then}
use Rattle.lines.proofs.page.Page.put_statuses.Goals as goal

pub loop-status-preserved : goal.loop-status-preserved
loop-status-preserved c =
    let l = c.loop-status in
    let s = c.args.state.statuses in
    let i : l.status-index < length s = omega (arith, length-take c.from.result s) in
    let here = get_or-take c.from.result s l.status-index 0 (omega (arith, length-take c.from.result s)) in
    rw (statuses_more s l.status-index i, ← here) (adds_then l.invariant c.put_digit.ensures)
