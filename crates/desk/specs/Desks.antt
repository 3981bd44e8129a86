-- A state put on a desk, and a state read off it.
use Rattle.std.specs.Prelude.{◌≡◌, Result, MatchResult}
use Rattle.state.specs.Clocks.{model}
use Rattle.state.specs.Statuses.{Known}
use Rattle.state.specs.declared.status.UnknownStatus.{UnknownStatus}
use Rattle.state.specs.declared.word.State.{State}
use Rattle.desk.specs.Stepping.{state_in, desk_of}
use Rattle.desk.specs.declared.desk.Desk.{Desk}

abbrev pub IsDeskOf : State → Desk → Type 0
IsDeskOf s d = d ≡ desk_of (model s)

-- the state, or none: "a desk with a status above 3"
abbrev pub IsStateOn : Desk → Result State UnknownStatus → Type 0
IsStateOn d r = MatchResult r (λ s. model s ≡ state_in d) (λ _. ¬ (Known d.statuses))
