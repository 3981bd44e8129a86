-- After i turns the first i statuses are the word's first i digits, and the others are the digits of the rest.
use Rattle.std.proofs.Common.{◌-◌, ◌≡◌, ◌++◌, length, take}
use Rattle.sheet.specs.Model.{digits}
use Rattle.state.proofs.word.StateFromU32.from.Given as goal

abbrev pub invariant-loop-status : goal.invariant-loop-status
invariant-loop-status l =
    (length l.status-items ≡ 8) × (digits 8 l.word ≡ take l.status-index l.status-items ++ digits (8 - l.status-index) l.rest)
