-- `put_statuses`: before each turn the statuses passed are printed.
use Rattle.std.proofs.Common.{map, take}
use Rattle.lines.specs.Digits.{digit}
use Rattle.lines.specs.Pages.{Adds}
use Rattle.lines.proofs.page.Page.put_statuses.Given as goal

abbrev pub invariant-loop-status : goal.invariant-loop-status
invariant-loop-status l = Adds l.fn.self (map digit (take l.status-index l.fn.state.statuses)) l.self
