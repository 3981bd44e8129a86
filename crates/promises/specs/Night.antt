-- A night at the desk: the event bytes that step took from the start on, and the desk after them. A history has its latest event first.
use Rattle.std.specs.Prelude.{ℕ, ◌≡◌, List, [], ◌∷◌, map}
use Rattle.plant.specs.Plant.{Event}
use Rattle.plant.specs.Rule.{reached, Rule}
use Rattle.sheet.specs.Model.{Sheet, initial, plant}
use Rattle.state.specs.EventByte.{event_of, kind_of, byte_of}
use Rattle.table.specs.Read.{reading}
use Rattle.desk.specs.Stepping.{desk_of, on, step_reply}
use Rattle.desk.specs.declared.desk.Desk.{Desk}

-- step takes the event byte `x` at the desk `d`
abbrev pub Takes : List ℕ → Desk → ℕ → Type 0
Takes file d x = (step_reply d x (reading file)).reply.number ≡ 0

-- "The desk is all zero at the start", and each step takes its event or leaves it
pub data Night (file : List ℕ) : List ℕ → Desk → Type 0 where
  opened : Night file [] (desk_of initial)
  taken : {bytes : List ℕ} {d : Desk} (x : ℕ) → Night file bytes d → Takes file d x → Night file (x ∷ bytes) (step_reply d x (reading file)).desk

-- the events of bytes; a byte of no kind has none
abbrev pub events : List ℕ → List Event
events [] = []
events (x ∷ l) = on (events l) (λ e. e ∷ events l) (kind_of (event_of x))

-- the bytes of events
abbrev pub bytes : List Event → List ℕ
bytes = map byte_of

-- the desk as a rule of starting: it permits what step takes at the desk that shows the state reached
abbrev pub AtDesk : Sheet → List ℕ → Rule
AtDesk σ file h e = Takes file (desk_of (reached (plant σ) h)) (byte_of e)
