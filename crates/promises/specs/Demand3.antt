-- Demand 3 of the calls, a field a sentence with the user's words above it: what a host may count on all night.
use Rattle.std.specs.Prelude.{ℕ, ◌+◌, ◌*◌, ◌≤◌, ◌<◌, ◌≡◌, List, ◌∷◌, ◌++◌, length}
use Rattle.plant.specs.Plant.{Event, tick, arrival, start, ending}
use Rattle.plant.specs.Rule.{reached, Rule, Run, Admissible, Table}
use Rattle.plant.specs.Count.{count, ticks}
use Rattle.sheet.specs.Model.{Sheet, Names, job, latest, status, Possible, Finished, plant}
use Rattle.state.specs.EventByte.{byte_of}
use Rattle.desk.specs.Stepping.{state_in, desk_of}
use Rattle.desk.specs.declared.desk.Desk.{Desk}
use Rattle.promises.specs.Night.{Night, Takes, AtDesk, events, bytes}

-- of the file that make left at the front of the output, in reply to the jobs of σ. Histories have their latest event first.
pub record Nights (σ : Sheet) (file : List ℕ) : Type 1 where
  -- "follow the table in any way": what step takes is a run of the table, event for byte, and the desk is the state that it leads to
  pub follows : (h : List ℕ) (d : Desk) → Night file h d → Run (plant σ) (Table (plant σ)) (events h) × (d ≡ desk_of (reached (plant σ) (events h))) × (bytes (events h) ≡ h)
  -- and every run of the table can be taken step by step
  pub permits : (g : List Event) → Run (plant σ) (Table (plant σ)) g → Night file (bytes g) (desk_of (reached (plant σ) g))
  -- "with any order of arrivals inside a tick and each job ending anywhere between its fewest and most ticks": no arrival and no ending
  -- is refused, and the clock is not stopped while a job runs that has ticks left
  pub any_arrival : (h : List ℕ) (d : Desk) → Night file h d → (i : ℕ) → Possible σ (state_in d) (arrival i) → Takes file d (byte_of (arrival i))
  pub any_ending : (h : List ℕ) (d : Desk) → Night file h d → (i : ℕ) → Possible σ (state_in d) (ending i) → Takes file d (byte_of (ending i))
  pub any_tick : (h : List ℕ) (d : Desk) → Night file h d → (i : ℕ) → Names σ i → status (state_in d) i ≡ 2 → Possible σ (state_in d) tick → Takes file d (byte_of tick)
  -- and each arrives at its tick, and runs for its fewest to its most ticks: `g` is what came after its start
  pub arrives_at : (h : List ℕ) (d : Desk) → Night file h d → (i : ℕ) (g : List Event) → events h ≡ arrival i ∷ g → ticks g ≡ (job σ i).arrives
  pub runs_for : (h : List ℕ) (d : Desk) → Night file h d → (i : ℕ) (g f : List Event) → events h ≡ ending i ∷ (g ++ start i ∷ f)
      → ((job σ i).fewest ≤ ticks g) × (ticks g ≤ (job σ i).most)
  -- "The run is never stuck."
  pub never_stuck : (h : List ℕ) (d : Desk) → Night file h d → (x : ℕ) × Takes file d x
  -- "Each job is out within its ticks": `g` is what came after its arrival
  pub ends_within : (h : List ℕ) (d : Desk) → Night file h d → (i : ℕ) (g f : List Event) → events h ≡ ending i ∷ (g ++ arrival i ∷ f) → ticks g ≤ (job σ i).due
  pub is_out : (h : List ℕ) (d : Desk) → Night file h d → (i : ℕ) (g f : List Event) → events h ≡ g ++ arrival i ∷ f → (job σ i).due < ticks g → 1 ≤ count (ending i) g
  -- "and the last is out by the latest due tick."
  pub ends_by : (h : List ℕ) (d : Desk) → Night file h d → (i : ℕ) (g : List Event) → events h ≡ ending i ∷ g → ticks g ≤ latest σ
  pub all_out : (h : List ℕ) (d : Desk) → Night file h d → latest σ < ticks (events h) → Finished σ (state_in d)
  -- every night finishes, and then each job has arrived, started and ended exactly once: no two sevens and no eight
  pub finishes : (h : List ℕ) (d : Desk) → Night file h d → 3 * length σ + latest σ ≤ length h → Finished σ (state_in d)
  pub once : (h : List ℕ) (d : Desk) → Night file h d → Finished σ (state_in d) → (i : ℕ) → Names σ i
      → (count (arrival i) (events h) ≡ 1) × (count (start i) (events h) ≡ 1) × (count (ending i) (events h) ≡ 1)
  -- "No other rule of starting permits a run that ours forbids, even one that looks back over the whole run, if it stops no arrival and
  -- no ending, stops the clock only where it permits a possible start, and lets no job be late."
  pub most : (R : Rule) → Admissible (plant σ) R → (g : List Event) → Run (plant σ) R g → Night file (bytes g) (desk_of (reached (plant σ) g))
  -- and the desk is such a rule itself
  pub ours : Admissible (plant σ) (AtDesk σ file)
