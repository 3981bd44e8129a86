-- The refusals (01, "Calls, numbers and order").
use Rattle.std.specs.Prelude.{ℕ}
use Rattle.state.specs.declared.refusal.Refusal.{Refusal}
use Rattle.state.specs.declared.refusal.Refusal.TheVariants.{NoSheet, BadJob, ShortWork, TooManyStates, Impossible, ShortOutput, BadBlock, NoRow, NoJob, NotPossible, NotAllowed, Started}

-- the number of each
abbrev pub refusal_number : Refusal → ℕ
refusal_number NoSheet = 1
refusal_number (BadJob i) = 2
refusal_number ShortWork = 3
refusal_number TooManyStates = 4
refusal_number Impossible = 5
refusal_number (ShortOutput n) = 6
refusal_number (BadBlock b) = 7
refusal_number NoRow = 8
refusal_number NoJob = 9
refusal_number NotPossible = 10
refusal_number NotAllowed = 11
refusal_number Started = 12

-- its detail: "lowest such job", "bytes needed", "lowest bad block", and else 0
abbrev pub refusal_detail : Refusal → ℕ
refusal_detail NoSheet = 0
refusal_detail (BadJob i) = i
refusal_detail ShortWork = 0
refusal_detail TooManyStates = 0
refusal_detail Impossible = 0
refusal_detail (ShortOutput n) = n
refusal_detail (BadBlock b) = b
refusal_detail NoRow = 0
refusal_detail NoJob = 0
refusal_detail NotPossible = 0
refusal_detail NotAllowed = 0
refusal_detail Started = 0
