-- The bytes passed are joined: 0 exactly where each of them is. Assumes nothing.
use Rattle.std.proofs.Common.{ℕ, ◌<◌, ◌≡◌, get_or}
use Rattle.std.specs.Prelude.{◌↔◌}
use Rattle.form.proofs.block.all_zero.Given as goal

abbrev pub invariant-loop-byte : goal.invariant-loop-byte
invariant-loop-byte l = (l.joined ≡ 0) ↔ ((k : ℕ) → k < l.byte-index → get_or l.bytes k 0 ≡ 0)
