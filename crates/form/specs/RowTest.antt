-- The test of a row's form as the code makes it, job after job. `RowRight` says that it is the form (01, "Table file").
use Rattle.std.specs.Prelude.{ℕ, ◌+◌, ◌≤◌, ◌<◌, ◌≡◌, ◌⊎◌, [], Option, None, Some}
use Rattle.plant.specs.Range.{In}
use Rattle.plant.specs.Marks.{Has}
use Rattle.plant.specs.Reflect.{Is}
use Rattle.sheet.specs.declared.Job.{Job}
use Rattle.sheet.specs.Model.{Sheet, job, State, status}
use Rattle.sheet.specs.Form.{Timely}
use Rattle.form.specs.declared.row.Passed.{Passed}

-- one job of status `s`: `marked` if its start is, `opens` if the tick code is 1
pub record JobFits (j : Job) (now elapsed s : ℕ) (marked opens : Type 0) : Type 0 where
  pub timely : Timely j (record { now = now; elapsed = elapsed; statuses = [] }) s
  -- "not late"; "1 only if the tick leads to no late state"
  pub in_time : 1 ≤ s → s ≤ 2 → now ≤ j.arrives + j.due
  pub soon : opens → 1 ≤ s → s ≤ 2 → now < j.arrives + j.due
  -- "starts only of ready jobs"
  pub ready : marked → s ≡ 1

-- its arrival is pending
abbrev pub Pends : Job → (now s : ℕ) → Type 0
Pends j now s = (s ≡ 0) × (now ≡ j.arrives)

-- it has run for its most ticks
abbrev pub Spends : Job → (elapsed s : ℕ) → Type 0
Spends j elapsed s = (s ≡ 2) × (elapsed ≡ j.most)

-- jobs 1 to k fit, and at most one of them runs
pub record JobsFit (σ : Sheet) (q : State) (starts code k : ℕ) : Type 0 where
  pub each : (i : ℕ) → In k i → JobFits (job σ i) q.now q.elapsed (status q i) (Has starts i) (code ≡ 1)
  pub alone : (i m : ℕ) → In k i → In k m → status q i ≡ 2 → status q m ≡ 2 → i ≡ m

-- of jobs 1 to k: one runs; the arrival of one is pending; one has run for its most ticks
abbrev pub Runs : State → ℕ → Type 0
Runs q k = (i : ℕ) × In k i × (status q i ≡ 2)

abbrev pub OnePends : Sheet → State → ℕ → Type 0
OnePends σ q k = (i : ℕ) × In k i × Pends (job σ i) q.now (status q i)

abbrev pub OneSpends : Sheet → State → ℕ → Type 0
OneSpends σ q k = (i : ℕ) × In k i × Spends (job σ i) q.elapsed (status q i)

-- what is told of jobs 1 to k, where all fit
pub record TellsOf (σ : Sheet) (q : State) (k : ℕ) (p : Passed) : Type 0 where
  pub running : Is p.running (Runs q k)
  pub pending : Is p.pending (OnePends σ q k)
  pub spent : Is p.spent (OneSpends σ q k)

-- what a pass over jobs 1 to k tells
abbrev pub Tells : Sheet → State → (starts code k : ℕ) → Option Passed → Type 0
Tells σ q starts code k None = ¬ (JobsFit σ q starts code k)
Tells σ q starts code k (Some p) = JobsFit σ q starts code k × TellsOf σ q k p

-- nothing past the last job
pub record Ends (n : ℕ) (q : State) (starts : ℕ) : Type 0 where
  pub statuses : (i : ℕ) → n < i → status q i ≡ 0
  pub bits : (i : ℕ) → In 8 i → n < i → ¬ (Has starts i)

-- the marks, where a job runs, where an arrival is pending, where a job has run for its most ticks
pub record MarksFit (running pending spent : Type 0) (starts code : ℕ) : Type 0 where
  -- "only if none runs"; "starts be empty while an arrival is pending" (02, #101)
  pub idle : running ⊎ pending → starts ≡ 0
  -- "code 0 exactly if the tick isn't possible, otherwise 1 or 2; 2 only with some start"
  pub none : pending ⊎ spent → code ≡ 0
  pub some : ¬ (pending ⊎ spent) → (code ≡ 1) ⊎ ((code ≡ 2) × (1 ≤ starts))
