-- What the table allows of an event that leads to a safe state. Assumes nothing.
use Rattle.plant.specs.Plant.{Plant, Event, tick, arrival, start, ending, Safe}
use Rattle.plant.specs.Rule.{Allowed}

module _ (π : Plant) where
  open π use {next, State}

  -- where it leads to a safe state, the table allows it
  pub allowed : (q : State) (e : Event) → Safe π (next q e) → Allowed π q e
  allowed q (arrival i) s = tt
  allowed q (ending i) s = tt
  allowed q (start i) s = s
  allowed q tick s = s
