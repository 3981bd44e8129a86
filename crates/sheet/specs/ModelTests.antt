-- The rules as tests that compute; `ModelTestsRight` has the law of each, that it says what `Model` says.
use Rattle.std.specs.Prelude.{ℕ, ◌+◌, Bool, not, ◌&&◌, length, eqb, leb, ltb}
use Rattle.plant.specs.Plant.{Event, tick, arrival, start, ending}
use Rattle.plant.specs.Range.{every, some}
use Rattle.sheet.specs.declared.Job.{Job}
use Rattle.sheet.specs.Model.{Sheet, job, State, status, busy}

abbrev pub named : Sheet → ℕ → Bool
named σ i = leb 1 i && leb i (length σ)

abbrev pub pending : Sheet → State → ℕ → Bool
pending σ q i = eqb (status q i) 0 && eqb q.now (job σ i).arrives

abbrev pub none_pending : Sheet → State → Bool
none_pending σ q = every (length σ) (λ i. not (pending σ q i))

abbrev pub possible : Sheet → State → Event → Bool
possible σ q (arrival i) = named σ i && pending σ q i
possible σ q (start i) = named σ i && (eqb (status q i) 1 && (not (busy σ q) && none_pending σ q))
possible σ q (ending i) = named σ i && (eqb (status q i) 2 && leb (job σ i).fewest q.elapsed)
possible σ q tick = none_pending σ q && every (length σ) (λ i. not (eqb (status q i) 2 && eqb q.elapsed (job σ i).most))

abbrev pub late : Sheet → State → Bool
late σ q = some (length σ) (λ i. leb 1 (status q i) && (leb (status q i) 2 && ltb ((job σ i).arrives + (job σ i).due) q.now))

abbrev pub good_job : Job → Bool
good_job j = leb 1 j.fewest && (leb j.fewest j.most && (leb j.most j.due && leb (j.arrives + j.due) 255))

abbrev pub good : Sheet → Bool
good σ = leb 1 (length σ) && (leb (length σ) 8 && every (length σ) (λ i. good_job (job σ i)))
