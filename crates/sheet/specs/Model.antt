-- 01's rules from "Sheet" to "State word" as definitions, in its order and words. Jobs are counted from 1, ticks from 0.
use Rattle.std.specs.Prelude.{ℕ, zero, suc, ◌+◌, ◌-◌, ◌*◌, ◌/◌, ◌%◌, ◌^◌, ◌≤◌, ◌<◌, ◌≡◌, ◌≢◌, Bool, cond, List, [], ◌∷◌, length, get_or, set, replicate, eqb}
use Rattle.plant.specs.Plant.{Plant, Event, tick, arrival, start, ending}
use Rattle.plant.specs.Range.{every, some, greatest}
use Rattle.sheet.specs.declared.Job.{Job}

-- Sheet ---------------------------------------------------------------------------------------------------------------

-- a `Job` is its four numbers, `arrives`, `fewest`, `most` and `due`: "arrival tick A, fewest ticks B, most ticks W, due ticks D"
abbrev pub Sheet : Type 0
Sheet = List Job

-- "Jobs are numbered from 1": `i` is the number of a job
abbrev pub Names : Sheet → ℕ → Type 0
Names σ i = (1 ≤ i) × (i ≤ length σ)

-- job `i`; what stands past the last is no job
abbrev pub no_job : Job
no_job = record { arrives = 0; fewest = 0; most = 0; due = 0 }

abbrev pub job : Sheet → ℕ → Job
job σ i = get_or σ (i - 1) no_job

-- "Good form: 1 ≤ B ≤ W ≤ D and A + D ≤ 255, in true sums"
pub record GoodJob (j : Job) : Type 0 where
  pub some_ticks : 1 ≤ j.fewest
  pub ordered : j.fewest ≤ j.most
  pub fits : j.most ≤ j.due
  pub early : j.arrives + j.due ≤ 255

-- "A sheet is 1 to 8 jobs"
pub record Good (σ : Sheet) : Type 0 where
  pub some_job : 1 ≤ length σ
  pub few_jobs : length σ ≤ 8
  pub each : (i : ℕ) → Names σ i → GoodJob (job σ i)

-- the latest due tick (demand 3)
abbrev pub latest : Sheet → ℕ
latest σ = greatest (length σ) (λ i. (job σ i).arrives + (job σ i).due)

-- States and events ---------------------------------------------------------------------------------------------------

-- "the tick now, the elapsed ticks of the running job (0 where none runs) and the eight statuses (0 past the last job)":
-- 0 not arrived, 1 ready, 2 running, 3 done
pub record State : Type 0 where
  pub now : ℕ
  pub elapsed : ℕ
  pub statuses : List ℕ

abbrev pub status : State → ℕ → ℕ
status q i = get_or q.statuses (i - 1) 0

-- "At the start: now 0, every status 0."
abbrev pub initial : State
initial = record { now = 0; elapsed = 0; statuses = replicate 8 0 }

-- "status 0 and now = A. It is then *pending*."
abbrev pub Pending : Sheet → State → ℕ → Type 0
Pending σ q i = Names σ i × (status q i ≡ 0) × (q.now ≡ (job σ i).arrives)

abbrev pub NonePending : Sheet → State → Type 0
NonePending σ q = (i : ℕ) → ¬ (Pending σ q i)

-- "Arrival of i: .. It is then *pending*." "Start of i: .. ready and none runs", and (02, #101) "only when no arrival is pending".
-- "Ending of i: .. runs and elapsed ≥ B." "Tick: .. no arrival is pending and no running job has elapsed = W."
abbrev pub Possible : Sheet → State → Event → Type 0
Possible σ q (arrival i) = Pending σ q i
Possible σ q (start i) = Names σ i × (status q i ≡ 1) × ((j : ℕ) → Names σ j → status q j ≢ 2) × NonePending σ q
Possible σ q (ending i) = Names σ i × (status q i ≡ 2) × ((job σ i).fewest ≤ q.elapsed)
Possible σ q tick = NonePending σ q × ((i : ℕ) → Names σ i → status q i ≡ 2 → q.elapsed ≢ (job σ i).most)

-- "all jobs are done"; and the same as a test
abbrev pub Finished : Sheet → State → Type 0
Finished σ q = (i : ℕ) → Names σ i → status q i ≡ 3

abbrev pub finished : Sheet → State → Bool
finished σ q = every (length σ) (λ i. eqb (status q i) 3)

-- does a job run
abbrev pub busy : Sheet → State → Bool
busy σ q = some (length σ) (λ i. eqb (status q i) 2)

-- "there is one finished state: now 0, elapsed 0"
abbrev pub merged : Sheet → State → State
merged σ q = cond (finished σ q) (record { now = 0; elapsed = 0; statuses = q.statuses }) q

-- what an event leads to, where it is possible: "Status becomes 1." "Status 2, elapsed 0." "Status 3, elapsed 0."
-- "Now grows by 1, elapsed too if a job runs."; the finished state's "tick leads to itself"
abbrev pub next : Sheet → State → Event → State
next σ q (arrival i) = record { now = q.now; elapsed = q.elapsed; statuses = set q.statuses (i - 1) 1 }
next σ q (start i) = record { now = q.now; elapsed = 0; statuses = set q.statuses (i - 1) 2 }
next σ q (ending i) = merged σ (record { now = q.now; elapsed = 0; statuses = set q.statuses (i - 1) 3 })
next σ q tick =
    cond (finished σ q) q
    (record { now = q.now + 1; elapsed = cond (busy σ q) (q.elapsed + 1) q.elapsed; statuses = q.statuses })

-- "some arrived, unfinished job has now − A > D"
pub record LateJob (σ : Sheet) (q : State) (i : ℕ) : Type 0 where
  pub names : Names σ i
  pub arrived : 1 ≤ status q i
  pub unfinished : status q i ≤ 2
  pub past : (job σ i).arrives + (job σ i).due < q.now

abbrev pub Late : Sheet → State → Type 0
Late σ q = (i : ℕ) × LateJob σ q i

-- State word ----------------------------------------------------------------------------------------------------------

-- "now × 2^24 + elapsed × 2^16 + the sum over jobs i of status × 4^(i−1)"
unfoldable pub digits_word : List ℕ → ℕ
digits_word [] = 0
digits_word (s ∷ l) = s + 4 * digits_word l

abbrev pub word : State → ℕ
word q = q.now * 2 ^ 24 + q.elapsed * 2 ^ 16 + digits_word q.statuses

-- and the state of a word: the statuses are its first eight base-four digits, the lowest first
unfoldable pub digits : ℕ → ℕ → List ℕ
digits zero w = []
digits (suc k) w = w % 4 ∷ digits k (w / 4)

abbrev pub state_of : ℕ → State
state_of w = record { now = w / 2 ^ 24; elapsed = w / 2 ^ 16 % 256; statuses = digits 8 w }

-- The sheet as a plant -------------------------------------------------------------------------------------------------

-- of which `Plant`, `Rule` and `Marks` say what is live, safe, a row, a rule, a run, the table
abbrev pub plant : Sheet → Plant
plant σ = record { State = State; initial = initial; Possible = Possible σ; next = next σ; Late = Late σ }
