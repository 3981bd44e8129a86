-- `put_rows`: before each turn the rows passed are printed.
use Rattle.std.proofs.Common.{◌+◌, ◌*◌, ◌≤◌}
use Rattle.lines.specs.Lines.{line_bytes}
use Rattle.lines.specs.Pages.{Adds}
use Rattle.printing.specs.RowLines.{lines_of}
use Rattle.printing.proofs.listing.put_rows.Given as goal

abbrev pub invariant-loop-i : goal.invariant-loop-i
invariant-loop-i l = (l.page.end ≤ l.fn.page.end + line_bytes * l.i) × Adds l.fn.page (lines_of l.n l.rows l.i) l.page
