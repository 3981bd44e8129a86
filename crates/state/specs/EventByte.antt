-- Event bytes (01, "Calls, numbers and order"): the event of a byte, the byte of an event.
use Rattle.std.specs.Prelude.{ℕ, ◌+◌, ◌-◌, ◌≡◌, Bool, cond, ◌&&◌, eqb, leb, Result, MatchResult}
use Rattle.std.proofs.Math.Option.{Option, none, some}
use Rattle.plant.specs.Plant as plant
use Rattle.state.specs.declared.event.Event.{Event}
use Rattle.state.specs.declared.event.Event.TheVariants.{Tick, Arrival, Start, Ending}
use Rattle.state.specs.declared.event.UnknownEvent.{UnknownEvent}

-- the byte is `a` to `b`
abbrev pub within : ℕ → ℕ → ℕ → Bool
within a b x = leb a x && leb x b

-- "0 for the tick, 1 to 8 arrival of that job, 17 to 24 start of job 1 to 8, 33 to 40 ending of job 1 to 8, and nothing else"
unfoldable pub event_of : ℕ → Option Event
event_of x =
    cond (eqb x 0) (some Tick)
    (cond (within 1 8 x) (some (Arrival x))
    (cond (within 17 24 x) (some (Start (x - 16)))
    (cond (within 33 40 x) (some (Ending (x - 32))) none)))

-- the byte names the event that is answered, or none
abbrev pub IsNamed : ℕ → Result Event UnknownEvent → Type 0
IsNamed x r = MatchResult r (λ e. event_of x ≡ some e) (λ _. event_of x ≡ none)

-- the event of the rules that each stands for
abbrev pub event_in_rules : Event → plant.Event
event_in_rules Tick = plant.tick
event_in_rules (Arrival i) = plant.arrival i
event_in_rules (Start i) = plant.start i
event_in_rules (Ending i) = plant.ending i

abbrev pub kind_of : Option Event → Option plant.Event
kind_of none = none
kind_of (some e) = some (event_in_rules e)

-- the same the other way round: the byte of an event of jobs 1 to 8
abbrev pub byte_of : plant.Event → ℕ
byte_of plant.tick = 0
byte_of (plant.arrival i) = i
byte_of (plant.start i) = i + 16
byte_of (plant.ending i) = i + 32
