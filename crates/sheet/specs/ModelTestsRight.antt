-- Each test of the rules says what `Model` says. Assumes nothing.
use Rattle.std.specs.Prelude.{ℕ, suc, ◌+◌, ◌⊎◌, ◌≢◌, ◌≡◌, Bool, length}
use Rattle.std.proofs.Common.{inl, inr}
use Rattle.plant.specs.Plant.{Event, tick, arrival, start, ending}
use Rattle.plant.specs.Range.{In}
use Rattle.sheet.specs.declared.Job.{Job}
use Rattle.sheet.specs.Model.{Sheet, Names, job, GoodJob, Good, State, status, NonePending, Possible, Finished, finished, busy, Late}
use Rattle.plant.specs.Search.{find}
use Rattle.plant.specs.Reflect.{Is, is_map, is_le, is_eq, is_and, is_and3, is_not, is_dec, stable, is_every, is_some}
use Rattle.sheet.specs.ModelTests.{named, pending, none_pending, possible, late, good_job, good}

pub is_good_job : (j : Job) → Is (good_job j) (GoodJob j)
is_good_job j =
    is_map
    (λ w. record { some_ticks = w.0; ordered = w.1; fits = w.2.0; early = w.2.1 })
    (λ g. (g.some_ticks, g.ordered, (g.fits, g.early)))
    (is_and3 (is_le 1 j.fewest) (is_le j.fewest j.most) (is_and (is_le j.most j.due) (is_le (j.arrives + j.due) 255)))

pub is_good : (σ : Sheet) → Is (good σ) (Good σ)
is_good σ =
    is_map
    (λ w. record { some_job = w.0; few_jobs = w.1; each = w.2 })
    (λ g. (g.some_job, g.few_jobs, g.each))
    (is_and3 (is_le 1 (length σ)) (is_le (length σ) 8) (is_every (length σ) (λ i h. is_good_job (job σ i))))

module _ (σ : Sheet) (q : State) where
  is_named : (i : ℕ) → Is (named σ i) (Names σ i)
  is_named i = is_and (is_le 1 i) (is_le i (length σ))

  pub is_finished : Is (finished σ q) (Finished σ q)
  is_finished = is_every (length σ) (λ i h. is_eq (status q i) 3)

  pub is_busy : Is (busy σ q) ((j : ℕ) × Names σ j × (status q j ≡ 2))
  is_busy = is_some (length σ) (λ j h. is_eq (status q j) 2)

  is_pending : (i : ℕ) → Is (pending σ q i) ((status q i ≡ 0) × (q.now ≡ (job σ i).arrives))
  is_pending i = is_and (is_eq (status q i) 0) (is_eq q.now (job σ i).arrives)

  pub is_none_pending : Is (none_pending σ q) (NonePending σ q)
  is_none_pending = is_map (λ f i w. f i w.0 (w.1, w.2)) (λ f i h w. f i (h, w.0, w.1)) (is_every (length σ) (λ i h. is_not (is_pending i)))

  pub is_possible : (e : Event) → Is (possible σ q e) (Possible σ q e)
  is_possible (arrival i) = is_map (λ w. (w.0, w.1.0, w.1.1)) (λ p. (p.0, (p.1, p.2))) (is_and (is_named i) (is_pending i))
  is_possible (start i) =
      is_map (λ w. (w.0, w.1, w.2.0, w.2.1)) (λ p. (p.0, p.1, (p.2, p.3)))
      (is_and3 (is_named i) (is_eq (status q i) 1) (is_and (is_map (λ n j h e. n (j, h, e)) (λ f w. f w.0 w.1 w.2) (is_not is_busy)) is_none_pending))
  is_possible (ending i) = is_and3 (is_named i) (is_eq (status q i) 2) (is_le (job σ i).fewest q.elapsed)
  is_possible tick =
      is_and is_none_pending
      (is_every (length σ) (λ i h. curry (is_not (is_and (is_eq (status q i) 2) (is_eq q.elapsed (job σ i).most)))))
    where
      curry : {b : Bool} {P Q : Type 0} → Is b (¬ (P × Q)) → Is b (P → ¬ Q)
      curry r = is_map (λ n p q. n (p, q)) (λ f w. f w.0 w.1) r

  pub is_late : Is (late σ q) (Late σ q)
  is_late =
      is_map
      (λ w. (w.0, record { names = w.1; arrived = w.2.0; unfinished = w.2.1; past = w.2.2 }))
      (λ w. (w.0, w.1.names, (w.1.arrived, w.1.unfinished, w.1.past)))
      (is_some (length σ) (λ i h. is_and3 (is_le 1 (status q i)) (is_le (status q i) 2) (is_le (suc ((job σ i).arrives + (job σ i).due)) q.now)))

  pub dec_finished : Dec (Finished σ q)
  dec_finished = is_dec is_finished

  -- a job that is not done
  pub unfinished : ¬ (Finished σ q) → (i : ℕ) × Names σ i × (status q i ≢ 3)
  unfinished nf = go (find (length σ) (λ i. status q i ≢ 3) (λ i. is_dec (is_not (is_eq (status q i) 3))))
    where
      go : ((i : ℕ) × In (length σ) i × (status q i ≢ 3)) ⊎ ((i : ℕ) → In (length σ) i → ¬ (status q i ≢ 3)) → (i : ℕ) × Names σ i × (status q i ≢ 3)
      go (inl w) = w
      go (inr f) = absurd (nf (λ i h. stable (is_dec (is_eq (status q i) 3)) (f i h)))

  -- the tick is possible, or an arrival is pending, or the running job has had its most ticks
  abbrev pub Barred : Type 0
  Barred = ((i : ℕ) × Possible σ q (arrival i)) ⊎ ((i : ℕ) × Names σ i × (status q i ≡ 2) × (q.elapsed ≡ (job σ i).most))

  pub tick_or : Possible σ q tick ⊎ Barred
  tick_or =
      go (find (length σ) Pending (λ i. is_dec (is_pending i)))
      (find (length σ) AtMost (λ i. is_dec (is_and (is_eq (status q i) 2) (is_eq q.elapsed (job σ i).most))))
    where
      Pending : ℕ → Type 0
      Pending i = (status q i ≡ 0) × (q.now ≡ (job σ i).arrives)

      AtMost : ℕ → Type 0
      AtMost i = (status q i ≡ 2) × (q.elapsed ≡ (job σ i).most)

      go : ((i : ℕ) × In (length σ) i × Pending i) ⊎ ((i : ℕ) → In (length σ) i → ¬ (Pending i))
          → ((i : ℕ) × In (length σ) i × AtMost i) ⊎ ((i : ℕ) → In (length σ) i → ¬ (AtMost i))
          → Possible σ q tick ⊎ Barred
      go (inl w) s = inr (inl (w.0, (w.1, w.2.0, w.2.1)))
      go (inr f) (inl w) = inr (inr (w.0, w.1, w.2.0, w.2.1))
      go (inr f) (inr g) = inl ((λ i w. f i w.0 (w.1, w.2)), (λ i h z n. g i h (z, n)))
