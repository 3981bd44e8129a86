-- What holds of every state that is reached, for every plant of jobs. Assumes nothing.
use Rattle.std.specs.Prelude.{ℕ, ◌≤◌, ◌≡◌, ◌⊎◌, Bool, true, false, cond, List, eqb}
use Rattle.std.proofs.Common.{arith, sym, ap, subst, ◌∙◌, inl, inr}
use Rattle.std.proofs.Math.Decide.{ℕ_discrete}
use Rattle.plant.specs.Plant.{Plant, Event, tick, arrival, start, ending, Via}
use Rattle.plant.specs.Rule.{Rule, reached, Run}
use Rattle.plant.specs.Range.{In}
use Rattle.plant.specs.Count.{kind, who}
use Rattle.plant.proofs.TableLaws.{run_keeps, via_keeps}
use Rattle.plant.specs.Shop.{Shop, turn, older, longer}
use Rattle.plant.specs.CountLaws.{other}

module _ (π : Plant) (s : Shop π) where
  open π use {State, initial, Possible, next, Late}

  -- what holds of every state that is reached: one job runs at most, not for longer than it may, and not since before it arrived
  pub record Tidy (q : State) : Type 0 where
    pub fit : s.Fit q
    pub small : (i : ℕ) → In s.jobs i → s.status q i ≤ 3
    pub one_runs : (i j : ℕ) → In s.jobs i → In s.jobs j → s.status q i ≡ 2 → s.status q j ≡ 2 → i ≡ j
    pub within : (i : ℕ) → In s.jobs i → s.status q i ≡ 2 → s.elapsed q ≤ s.most i
    pub younger : (i : ℕ) → In s.jobs i → s.status q i ≡ 2 → s.elapsed q ≤ s.age q i

  pub tidy_initial : Tidy initial
  tidy_initial = record {
    fit = s.fit_initial;
    small = λ i k. omega (arith, s.begins i);
    one_runs = λ i j k l x y. absurd (omega (arith, s.begins i));
    within = λ i k x. absurd (omega (arith, s.begins i));
    younger = λ i k x. absurd (omega (arith, s.begins i));
  }

  -- a job runs that ran, or was started
  ran : (e : Event) (i x : ℕ) → turn e i x ≡ 2 → (x ≡ 2) ⊎ (e ≡ start i)
  ran tick i x h = inl h
  ran (arrival j) i x h = go (eqb i j) h
    where
      go : (b : Bool) → cond b 1 x ≡ 2 → (x ≡ 2) ⊎ (arrival j ≡ start i)
      go true h = absurd (omega arith)
      go false h = inl h
  ran (start j) i x h = go (ℕ_discrete i j)
    where
      go : Dec (i ≡ j) → (x ≡ 2) ⊎ (start j ≡ start i)
      go (yes e) = inr (ap start (sym e))
      go (no n) = inl (sym (other 2 x n) ∙ h)
  ran (ending j) i x h = go (eqb i j) h
    where
      go : (b : Bool) → cond b 3 x ≡ 2 → (x ≡ 2) ⊎ (ending j ≡ start i)
      go true h = absurd (omega arith)
      go false h = inl h

  pub tidy_next : (q : State) → Tidy q → (e : Event) → Possible q e → Tidy (next q e)
  tidy_next q t e p = record {
    fit = s.fit_next q t.fit e p;
    small = λ i k. subst (λ (x : ℕ). x ≤ 3) (sym (s.turns q t.fit e p i k)) (small e i (s.status q i) (t.small i k));
    one_runs = λ i j k l x y. one i j k l (ran e i (s.status q i) (sym (s.turns q t.fit e p i k) ∙ x)) (ran e j (s.status q j) (sym (s.turns q t.fit e p j l) ∙ y));
    within = λ i k x. let y = sym (s.turns q t.fit e p i k) ∙ x in subst (λ (n : ℕ). n ≤ s.most i) (sym (s.runs q t.fit e p i k y)) (within e p i k (ran e i (s.status q i) y));
    younger = λ i k x.
        let y = sym (s.turns q t.fit e p i k) ∙ x in
        omega (arith, s.runs q t.fit e p i k y, s.ages q t.fit e p i k (omega arith) (omega arith), younger e p i k (ran e i (s.status q i) y));
  }
    where
      small : (e : Event) (i x : ℕ) → x ≤ 3 → turn e i x ≤ 3
      small tick i x h = h
      small (arrival j) i x h = go (eqb i j)
        where
          go : (b : Bool) → cond b 1 x ≤ 3
          go true = omega arith
          go false = h
      small (start j) i x h = go (eqb i j)
        where
          go : (b : Bool) → cond b 2 x ≤ 3
          go true = omega arith
          go false = h
      small (ending j) i x h = go (eqb i j)
        where
          go : (b : Bool) → cond b 3 x ≤ 3
          go true = omega arith
          go false = h

      one : (i j : ℕ) → In s.jobs i → In s.jobs j → (s.status q i ≡ 2) ⊎ (e ≡ start i) → (s.status q j ≡ 2) ⊎ (e ≡ start j) → i ≡ j
      one i j k l (inl x) (inl y) = t.one_runs i j k l x y
      one i j k l (inl x) (inr y) = absurd (s.free q j (subst (Possible q) y p) i k x)
      one i j k l (inr x) (inl y) = absurd (s.free q i (subst (Possible q) x p) j l y)
      one i j k l (inr x) (inr y) = ap who (sym x ∙ y)

      younger : (e : Event) → Possible q e → (i : ℕ) → In s.jobs i → (s.status q i ≡ 2) ⊎ (e ≡ start i) → longer e (s.elapsed q) ≤ older e i (s.age q i)
      younger tick p i k (inl x) = omega (arith, t.younger i k x)
      younger tick p i k (inr y) = absurd (omega (arith, ap kind y))
      younger (arrival j) p i k (inl x) = omega (arith, t.younger i k x, other {j = i} {i = j} 0 (s.age q i) (λ (e : i ≡ j). (s.arrives q j p).1 (sym (ap (s.status q) e) ∙ x)))
      younger (arrival j) p i k (inr y) = absurd (omega (arith, ap kind y))
      younger (start j) p i k x = omega arith
      younger (ending j) p i k x = omega arith

      within : (e : Event) → Possible q e → (i : ℕ) → In s.jobs i → (s.status q i ≡ 2) ⊎ (e ≡ start i) → longer e (s.elapsed q) ≤ s.most i
      within tick p i k (inl x) = omega (arith, s.ticks q p i k x, t.within i k x)
      within tick p i k (inr y) = absurd (omega (arith, ap kind y))
      within (arrival j) p i k (inl x) = t.within i k x
      within (arrival j) p i k (inr y) = absurd (omega (arith, ap kind y))
      within (start j) p i k x = omega arith
      within (ending j) p i k x = omega arith

  pub run_tidy : {R : Rule} {h : List Event} → Run π R h → Tidy (reached π h)
  run_tidy r = run_keeps π Tidy tidy_initial tidy_next r

  pub via_tidy : {P : State → Type 0} {q : State} → Via π P q → Tidy q
  via_tidy v = via_keeps π Tidy tidy_initial tidy_next v

  pub run_fit : {R : Rule} {h : List Event} → Run π R h → s.Fit (reached π h)
  run_fit r = (run_tidy r).fit
