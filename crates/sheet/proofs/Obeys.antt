-- The plant of a sheet meets the laws. Assumes nothing.
use Rattle.std.specs.Prelude.{ℕ, ◌+◌, ◌-◌, ◌≤◌, ◌≡◌, refl, ◌≢◌, ◌⊎◌, Bool, true, false, cond, ◌&&◌, List, length, set, get_or, T, eqb}
use Rattle.std.proofs.Common.{arith, sym, ap, subst, ◌∙◌, inl, inr}
use Rattle.std.proofs.Math.Decide.{ℕ_discrete, dec_le}
use Rattle.plant.specs.Plant.{Event, tick, arrival, start, ending}
use Rattle.plant.specs.Reflect.{Is, is_map, is_eq, is_and3, is_true, is_false}
use Rattle.plant.specs.Lists.{same_list, is_same_list}
use Rattle.plant.specs.Asked.{Named, Tests, Moves}
use Rattle.plant.specs.Sums.{le_greatest}
use Rattle.plant.specs.Shop.{Shop, turn, older, longer}
use Rattle.plant.specs.Turns.{turned, length_turned, turned_at, zeros_at, was_zero, Here, was_here}
use Rattle.plant.proofs.Once.{Once, on}
use Rattle.sheet.specs.Model.{Sheet, Names, job, Good, latest, State, status, initial, Possible, Finished, finished, busy, next, Late, plant}
use Rattle.sheet.specs.ModelTestsRight.{is_possible, is_late, is_busy, is_finished, tick_or, Barred}
use Rattle.sheet.specs.ModelTests.{possible, late}

abbrev pub same_state : State → State → Bool
same_state q r = eqb q.now r.now && (eqb q.elapsed r.elapsed && same_list q.statuses r.statuses)

pub is_same_state : (q r : State) → Is (same_state q r) (q ≡ r)
is_same_state q r = is_map (λ w. λ i. record { now = w.0 i; elapsed = w.1 i; statuses = w.2 i })
    (λ e. ((λ i. (e i).now), (λ i. (e i).elapsed), (λ i. (e i).statuses)))
    (is_and3 (is_eq q.now r.now) (is_eq q.elapsed r.elapsed) (is_same_list q.statuses r.statuses))

pub named : (σ : Sheet) (q : State) (e : Event) → Possible σ q e → Named (length σ) e
named σ q tick p = tt
named σ q (arrival i) p = p.0
named σ q (start i) p = p.0
named σ q (ending i) p = p.0

abbrev pub tests : (σ : Sheet) → Tests (plant σ)
tests σ = record {
  jobs = length σ;
  named = named σ;
  possible = possible σ;
  is_possible = is_possible σ;
  late = late σ;
  is_late = is_late σ;
  same = same_state;
  is_same = is_same_state;
}

pub moves : (σ : Sheet) → Good σ → Moves (plant σ)
moves σ good q = go (tick_or σ q)
  where
    go : Possible σ q tick ⊎ Barred σ q → Possible σ q tick ⊎ (((i : ℕ) × Possible σ q (arrival i)) ⊎ ((i : ℕ) × Possible σ q (ending i)))
    go (inl p) = inl p
    go (inr (inl w)) = inr (inl w)
    go (inr (inr w)) = inr (inr (w.0, (w.1, w.2, omega (arith, (good.each w.0 w.1).ordered, w.3))))

-- What events do to a state, where it is not merged ---------------------------------------------------------------------------

module _ (σ : Sheet) (q : State) where
  abbrev ended : ℕ → State
  ended i = record { now = q.now; elapsed = 0; statuses = set q.statuses (i - 1) 3 }

  abbrev ticked : State
  ticked = record { now = q.now + 1; elapsed = cond (busy σ q) (q.elapsed + 1) q.elapsed; statuses = q.statuses }

  abbrev zeroed : State → State
  zeroed r = record { now = 0; elapsed = 0; statuses = r.statuses }

  pub status_next : (e : Event) → (next σ q e).statuses ≡ turned e q.statuses
  status_next (arrival i) = refl
  status_next (start i) = refl
  status_next (ending i) = go (finished σ (ended i))
    where
      go : (b : Bool) → (cond b (zeroed (ended i)) (ended i)).statuses ≡ (ended i).statuses
      go true = refl
      go false = refl
  status_next tick = go (finished σ q)
    where
      go : (b : Bool) → (cond b q ticked).statuses ≡ q.statuses
      go true = refl
      go false = refl

  -- an ending leaves no elapsed ticks
  pub rested : (i : ℕ) → (next σ q (ending i)).elapsed ≡ 0
  rested i = go (finished σ (ended i))
    where
      go : (b : Bool) → (cond b (zeroed (ended i)) (ended i)).elapsed ≡ 0
      go true = refl
      go false = refl

  pub still : Finished σ q → next σ q tick ≡ q
  still d = ap (λ (b : Bool). cond b q ticked) (is_true (is_finished σ q) d)

  pub unfinished_next : (e : Event) → ¬ (Finished σ (next σ q e)) → (next σ q e).now ≡ on e q.now
  unfinished_next (arrival i) nd = refl
  unfinished_next (start i) nd = refl
  unfinished_next (ending i) nd = ap (λ (b : Bool). (cond b (zeroed (ended i)) (ended i)).now) (is_false (is_finished σ (ended i)) not_done)
    where
      not_done : ¬ (Finished σ (ended i))
      not_done d = nd (λ j k. ap (λ (l : List ℕ). get_or l (j - 1) 0) (status_next (ending i)) ∙ d j k)
  unfinished_next tick nd = ap (λ (b : Bool). (cond b q ticked).now) (is_false (is_finished σ q) (λ d. nd (subst (Finished σ) (sym (still d)) d)))

  pub ticked_elapsed : (j : ℕ) → Names σ j → status q j ≡ 2 → (next σ q tick).elapsed ≡ q.elapsed + 1
  ticked_elapsed j k z =
      ap (λ (b : Bool). (cond b q ticked).elapsed) (is_false (is_finished σ q) (λ d. omega (arith, d j k)))
      ∙ ap (λ (b : Bool). cond b (q.elapsed + 1) q.elapsed) (is_true (is_busy σ q) (j, k, z))

-- What holds of every state that is reached -----------------------------------------------------------------------------------

pub record Fit (σ : Sheet) (q : State) : Type 0 where
  pub size : length q.statuses ≡ 8
  pub waiting : (i : ℕ) → Names σ i → status q i ≡ 0 → q.now ≤ (job σ i).arrives
  pub since : (i : ℕ) → Names σ i → Here (status q i) → (job σ i).arrives ≤ q.now

module _ (σ : Sheet) (few : length σ ≤ 8) where
  pub turns : (q : State) → Fit σ q → (e : Event) → Possible σ q e → (j : ℕ) → Names σ j → status (next σ q e) j ≡ turn e j (status q j)
  turns q f e p j k = ap (λ (l : List ℕ). get_or l (j - 1) 0) (status_next σ q e) ∙ turned_at (length σ) q.statuses (omega (arith, f.size)) e (named σ q e p) j k.0

  -- a job that is not done keeps the clock going
  pub goes : (q : State) → Fit σ q → (e : Event) → Possible σ q e → (j : ℕ) → Names σ j → turn e j (status q j) ≤ 2 → (next σ q e).now ≡ on e q.now
  goes q f e p j k h = unfinished_next σ q e (λ d. omega (arith, d j k, turns q f e p j k))

  pub fit_initial : Fit σ initial
  fit_initial = record { size = refl; waiting = λ i h e. omega arith; since = λ i h a. absurd (omega (arith, zeros_at i)) }

  pub fit_next : (q : State) → Fit σ q → (e : Event) → Possible σ q e → Fit σ (next σ q e)
  fit_next q f e p = record {
    size = ap length (status_next σ q e) ∙ length_turned e q.statuses ∙ f.size;
    waiting = λ j k z. let y = sym (turns q f e p j k) ∙ z in rw (goes q f e p j k (omega arith)) (waiting e p j k (was_zero e j (status q j) y));
    since = λ j k h. let y : Here (turn e j (status q j)) = omega (arith, turns q f e p j k) in rw (goes q f e p j k y.1) (since e p j k (was_here e j (status q j) y));
  }
    where
      waiting : (e : Event) → Possible σ q e → (j : ℕ) → Names σ j → status q j ≡ 0 → on e q.now ≤ (job σ j).arrives
      waiting tick p j k z = let n : q.now ≢ (job σ j).arrives = λ a. p.0 j (k, z, a) in omega (arith, f.waiting j k z)
      waiting (arrival i) p j k z = f.waiting j k z
      waiting (start i) p j k z = f.waiting j k z
      waiting (ending i) p j k z = f.waiting j k z

      grows : (e : Event) → q.now ≤ on e q.now
      grows tick = omega arith
      grows (arrival i) = omega arith
      grows (start i) = omega arith
      grows (ending i) = omega arith

      since : (e : Event) → Possible σ q e → (j : ℕ) → Names σ j → Here (status q j) ⊎ ((e ≡ arrival j) ⊎ (e ≡ start j)) → (job σ j).arrives ≤ on e q.now
      since e p j k (inl h) = omega (arith, f.since j k h, grows e)
      since e p j k (inr (inl x)) = let p' : Possible σ q (arrival j) = subst (Possible σ q) x p in omega (arith, p'.2, grows e)
      since e p j k (inr (inr x)) = let p' : Possible σ q (start j) = subst (Possible σ q) x p in omega (arith, f.since j k (omega (arith, p'.1)), grows e)

  -- of a state that is not late: a job that is there is not past its due tick
  pub not_past : (q : State) → ¬ (Late σ q) → (i : ℕ) → Names σ i → 1 ≤ status q i → status q i ≤ 2 → q.now ≤ (job σ i).arrives + (job σ i).due
  not_past q nl i k a u = go (dec_le q.now ((job σ i).arrives + (job σ i).due))
    where
      go : Dec (q.now ≤ (job σ i).arrives + (job σ i).due) → q.now ≤ (job σ i).arrives + (job σ i).due
      go (yes y) = y
      go (no n) = absurd (nl (i, record { names = k; arrived = a; unfinished = u; past = omega arith }))

  pub ages : (q : State) → Fit σ q → (e : Event) → Possible σ q e → (j : ℕ) → Names σ j → 1 ≤ turn e j (status q j) → turn e j (status q j) ≤ 2
      → (next σ q e).now - (job σ j).arrives ≡ older e j (q.now - (job σ j).arrives)
  ages q f tick p j k a b = omega (arith, f.since j k (a, b), goes q f tick p j k b)
  ages q f (start i) p j k a b = refl
  ages q f (ending i) p j k a b = omega (arith, goes q f (ending i) p j k b)
  ages q f (arrival i) p j k a b = go (eqb j i) (λ t. (is_eq j i).holds t)
    where
      go : (x : Bool) → (T x → j ≡ i) → q.now - (job σ j).arrives ≡ cond x 0 (q.now - (job σ j).arrives)
      go true e = omega (arith, p.2, ap (λ (m : ℕ). (job σ m).arrives) (e tt))
      go false e = refl

  pub runs : (q : State) → Fit σ q → (e : Event) → Possible σ q e → (j : ℕ) → Names σ j → turn e j (status q j) ≡ 2 → (next σ q e).elapsed ≡ longer e q.elapsed
  runs q f tick p j k z = ticked_elapsed σ q j k z
  runs q f (arrival i) p j k z = refl
  runs q f (start i) p j k z = refl
  runs q f (ending i) p j k z = rested σ q i

  unfoldable pub shop : Shop (plant σ)
  shop = record {
    jobs = length σ;
    fewest = λ i. (job σ i).fewest;
    most = λ i. (job σ i).most;
    due = λ i. (job σ i).due;
    status = status;
    age = λ q i. q.now - (job σ i).arrives;
    elapsed = λ q. q.elapsed;
    Fit = Fit σ;
    fit_initial = fit_initial;
    fit_next = fit_next;
    begins = zeros_at;
    named = named σ;
    arrives = λ q i p. omega (arith, p.1);
    starts = λ q i p. p.1;
    free = λ q i p. p.2;
    ends = λ q i p. (p.1, p.2);
    ticks = λ q p. p.1;
    turns = turns;
    ages = ages;
    runs = runs;
    in_time = λ q f nl i k a b. omega (arith, not_past q nl i k a b);
  }

  unfoldable pub once : Once (plant σ) shop
  unfolding shop
  once = record {
    now = λ q. q.now;
    latest = latest σ;
    at_zero = refl;
    once_only = λ q i p. p.1;
    still = still σ;
    goes = λ q f e p nd. unfinished_next σ q e nd;
    late_open = λ q d w. omega (arith, d w.0 w.1.names, w.1.unfinished);
    by_latest = λ q f nl i k h. by_latest q f nl i k h (ℕ_discrete (status q i) 0);
  }
    where
      by_latest : (q : State) → Fit σ q → ¬ (Late σ q) → (i : ℕ) → Names σ i → status q i ≤ 2 → Dec (status q i ≡ 0) → q.now ≤ latest σ
      by_latest q f nl i k h (yes z) = omega (arith, f.waiting i k z, le_greatest (length σ) (λ i. (job σ i).arrives + (job σ i).due) i k)
      by_latest q f nl i k h (no n) = omega (arith, not_past q nl i k (omega arith) h, le_greatest (length σ) (λ i. (job σ i).arrives + (job σ i).due) i k)
