-- `put_jobs`: before each turn the jobs passed are printed. Assumes nothing.
use Rattle.std.proofs.Common.{◌+◌, ◌-◌, ◌≤◌}
use Rattle.lines.specs.Lines.{jobs_text}
use Rattle.lines.specs.Pages.{Adds}
use Rattle.lines.proofs.page.Page.put_jobs.Given as goal

abbrev pub invariant-loop-k : goal.invariant-loop-k
invariant-loop-k l = (l.k ≤ l.n + 1) × Adds l.fn.self (jobs_text (l.k - 1) l.starts) l.self
