-- The jobs so far are those of the numbers, four each.
use Rattle.std.proofs.Common.{ℕ, ◌*◌, ◌<◌, ◌≡◌, [], length, get_or}
use Rattle.sheet.specs.Arrays.{four}
use Rattle.state.proofs.jobs.jobs_of.Given as goal

abbrev pub invariant-loop-i : goal.invariant-loop-i
invariant-loop-i l = (length l.job-items ≡ 8) × ((k : ℕ) → k < l.i → get_or l.job-items k [] ≡ four l.numbers (4 * k))
