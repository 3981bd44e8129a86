-- Demand 3 over the definitions, a field a sentence with the user's words above it. `Demand3Laws` has that it holds of every sheet of good form.
use Rattle.std.specs.Prelude.{ℕ, ◌+◌, ◌*◌, ◌≤◌, ◌<◌, ◌≡◌, ◌↔◌, List, ◌∷◌, ◌++◌, length}
use Rattle.plant.specs.Plant.{Event, arrival, start, ending, Safe, Row}
use Rattle.plant.specs.Rule.{reached, Rule, Run, Admissible, Table}
use Rattle.plant.specs.Count.{count, ticks}
use Rattle.sheet.specs.Model.{Sheet, Names, job, latest, State, initial, Possible, Finished, plant}

-- Of every run that an admissible rule permits. Histories have their latest event first.
pub record Followed (σ : Sheet) (R : Rule) : Type 0 where
  -- "with any order of arrivals inside a tick and each job ending anywhere between its fewest and most ticks"
  pub arrives_at : (i : ℕ) (h : List Event) → Run (plant σ) R (arrival i ∷ h) → ticks h ≡ (job σ i).arrives
  pub runs_for : (i : ℕ) (g h : List Event) → Run (plant σ) R (ending i ∷ (g ++ start i ∷ h)) → ((job σ i).fewest ≤ ticks g) × (ticks g ≤ (job σ i).most)
  -- "Each job is out within its ticks": `g` is what came after its arrival
  pub ends_within : (i : ℕ) (g h : List Event) → Run (plant σ) R (ending i ∷ (g ++ arrival i ∷ h)) → ticks g ≤ (job σ i).due
  pub is_out : (i : ℕ) (g h : List Event) → Run (plant σ) R (g ++ arrival i ∷ h) → (job σ i).due < ticks g → 1 ≤ count (ending i) g
  -- "and the last is out by the latest due tick."
  pub ends_by : (i : ℕ) (h : List Event) → Run (plant σ) R (ending i ∷ h) → ticks h ≤ latest σ
  pub all_out : (h : List Event) → Run (plant σ) R h → latest σ < ticks h → Finished σ (reached (plant σ) h)
  -- every run finishes, and then each job has arrived, started and ended exactly once: no two sevens and no eight
  pub finishes : (h : List Event) → Run (plant σ) R h → 3 * length σ + latest σ ≤ length h → Finished σ (reached (plant σ) h)
  pub once : (h : List Event) → Run (plant σ) R h → Finished σ (reached (plant σ) h) → (i : ℕ) → Names σ i
      → (count (arrival i) h ≡ 1) × (count (start i) h ≡ 1) × (count (ending i) h ≡ 1)

pub record Demand3 (σ : Sheet) : Type 1 where
  -- "For a sheet that gets a table, follow the table in any way .."
  pub runs : Safe (plant σ) initial → Followed σ (Table (plant σ))
  -- "The run is never stuck."
  pub never_stuck : Safe (plant σ) initial → (h : List Event) → Run (plant σ) (Table (plant σ)) h → (e : Event) × Possible σ (reached (plant σ) h) e × Table (plant σ) h e
  -- "No other rule of starting permits a run that ours forbids, even one that looks back over the whole run, if it stops no arrival and
  -- no ending, stops the clock only where it permits a possible start, and lets no job be late."
  pub most : (R : Rule) → Admissible (plant σ) R → (h : List Event) → Run (plant σ) R h → Run (plant σ) (Table (plant σ)) h
  -- ours is such a rule, and its runs reach the rows and nothing else
  pub ours : Safe (plant σ) initial → Admissible (plant σ) (Table (plant σ))
  pub rows : Safe (plant σ) initial → (q : State) → Row (plant σ) q ↔ ((h : List Event) × Run (plant σ) (Table (plant σ)) h × (reached (plant σ) h ≡ q))
  -- "A sheet .. is called impossible exactly when there is no such rule."
  pub impossible : (¬ (Safe (plant σ) initial)) ↔ ((R : Rule) → ¬ (Admissible (plant σ) R))
