-- What the code asks of an event before it goes on, case by case.
use Rattle.plant.specs.Range.{In}
use Rattle.state.specs.declared.event.Event.{Event}
use Rattle.state.specs.declared.event.Event.TheVariants.{Tick, Arrival, Start, Ending}

-- the job is 1 to 8
abbrev pub JobFits : Event → Type 0
JobFits Tick = Unit {0}
JobFits (Arrival k) = In 8 k
JobFits (Start k) = In 8 k
JobFits (Ending k) = In 8 k
