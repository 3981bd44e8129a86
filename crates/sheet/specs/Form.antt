-- "A row is of good form when its word is in order and its marks fit." (01, "Table file")
use Rattle.std.specs.Prelude.{ℕ, ◌+◌, ◌^◌, ◌≤◌, ◌<◌, ◌≡◌, ◌≢◌, ◌⊎◌, List, length}
use Rattle.plant.specs.Plant.{tick, start}
use Rattle.plant.specs.Range.{In}
use Rattle.plant.specs.Marks.{Has}
use Rattle.sheet.specs.declared.Job.{Job}
use Rattle.sheet.specs.Model.{Sheet, Names, job, State, status, Possible, Finished, next, Late, state_of}
use Rattle.sheet.specs.Table.{Entry, at, Ascending}

-- In order --------------------------------------------------------------------------------------------------------------

-- of one job with status `s`
pub record Timely (j : Job) (q : State) (s : ℕ) : Type 0 where
  -- "status 0 only with now ≤ A; status 1 to 3 only with now ≥ A"
  pub waits : s ≡ 0 → q.now ≤ j.arrives
  pub came : 1 ≤ s → j.arrives ≤ q.now
  -- "elapsed .. at most that job's W and at most now − A"
  pub runs : s ≡ 2 → (q.elapsed ≤ j.most) × (j.arrives + q.elapsed ≤ q.now)
  -- "status 3 only with now ≥ A + B"
  pub ended : s ≡ 3 → j.arrives + j.fewest ≤ q.now

-- "now and statuses where not all jobs are done, at most one job runs, elapsed is 0 if none runs .. not late"
pub record UnderWay (σ : Sheet) (q : State) : Type 0 where
  pub not_done : ¬ (Finished σ q)
  pub one_runs : (i k : ℕ) → Names σ i → Names σ k → status q i ≡ 2 → status q k ≡ 2 → i ≡ k
  pub rests : ((i : ℕ) → Names σ i → status q i ≢ 2) → q.elapsed ≡ 0
  pub timely : (i : ℕ) → Names σ i → Timely (job σ i) q (status q i)
  pub in_time : ¬ (Late σ q)

-- "the finished state"
abbrev pub FinishedState : Sheet → State → Type 0
FinishedState σ q = Finished σ q × (q.now ≡ 0) × (q.elapsed ≡ 0)

pub record InOrder (σ : Sheet) (q : State) : Type 0 where
  -- "statuses past the last job 0"
  pub past : (i : ℕ) → length σ < i → status q i ≡ 0
  pub state : FinishedState σ q ⊎ UnderWay σ q

-- Marks -----------------------------------------------------------------------------------------------------------------

pub record Fits (σ : Sheet) (q : State) (starts code : ℕ) : Type 0 where
  -- "starts only of ready jobs and only if none runs"; "starts be empty while an arrival is pending" (02, #101)
  pub ready : (i : ℕ) → In 8 i → Has starts i → Possible σ q (start i)
  -- "code 0 exactly if the tick isn't possible, otherwise 1 or 2"
  pub none : code ≡ 0 → ¬ (Possible σ q tick)
  pub some : ¬ (Possible σ q tick) → code ≡ 0
  pub known : code ≤ 2
  -- "2 only with some start; 1 only if the tick leads to no late state"
  pub held : code ≡ 2 → 1 ≤ starts
  pub opens : code ≡ 1 → ¬ (Late σ (next σ q tick))

-- Rows of good form -----------------------------------------------------------------------------------------------------

pub record GoodEntry (σ : Sheet) (e : Entry) : Type 0 where
  pub fits : (e.word < 2 ^ 32) × (e.starts < 256)
  pub order : InOrder σ (state_of e.word)
  pub marks : Fits σ (state_of e.word) e.starts e.tick

-- "rows in strictly ascending order of word", "The first row has word 0."
pub record GoodRows (σ : Sheet) (l : List Entry) : Type 0 where
  pub each : (i : ℕ) → i < length l → GoodEntry σ (at l i)
  pub ascending : Ascending l
  pub first : (at l 0).word ≡ 0
