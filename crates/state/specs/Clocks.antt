-- What the code's struct of a state stands for in the rules.
use Rattle.std.specs.Prelude.{ℕ, ◌≡◌}
use Rattle.sheet.specs.Model as rules
use Rattle.state.specs.declared.word.State.{State}

-- "the tick now, the elapsed ticks of the running job (0 where none runs) and the eight statuses"
abbrev pub model : State → rules.State
model s = record { now = s.now; elapsed = s.elapsed.0; statuses = s.statuses }

-- the state that a word stands for
abbrev pub IsStateOf : ℕ → State → Type 0
IsStateOf w s = model s ≡ rules.state_of w
