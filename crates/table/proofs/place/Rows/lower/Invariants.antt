-- What is below stays below, and what is not stays not. Assumes nothing.
use Rattle.std.proofs.Common.{ℕ, ◌-◌, ◌≤◌, ◌<◌, length}
use Rattle.sheet.specs.Table.{at}
use Rattle.table.proofs.place.Rows.lower.Given as goal

abbrev pub invariant-loop-lo : goal.invariant-loop-lo
invariant-loop-lo l = record {
  ordered : l.lo ≤ l.hi;
  inside : l.hi ≤ length l.self;
  below : (i : ℕ) → i < l.lo → (at l.self i).word < l.word;
  above : (i : ℕ) → l.hi ≤ i → i < length l.self → l.word ≤ (at l.self i).word;
}

abbrev pub decreases-loop-lo : goal.decreases-loop-lo
decreases-loop-lo l = l.hi - l.lo
