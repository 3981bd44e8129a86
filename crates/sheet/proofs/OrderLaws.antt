-- A live state is in order, as 01's row form says, and fits a word. Assumes nothing.
use Rattle.std.specs.Prelude.{ℕ, suc, ◌+◌, ◌-◌, ◌≤◌, ◌<◌, ◌≡◌, refl, ◌≢◌, ◌⊎◌, Bool, true, cond, List, length, get_or, set}
use Rattle.std.proofs.Common.{arith, sym, ap, subst, ◌∙◌, inl, inr}
use Rattle.std.proofs.Math.Decide.{dec_le}
use Rattle.plant.specs.Plant.{Event, tick, arrival, start, ending, Via, at_start, after, Live}
use Rattle.plant.specs.Count.{who}
use Rattle.plant.specs.Reflect.{is_dec, is_true, is_false}
use Rattle.plant.specs.Asked.{Named}
use Rattle.plant.specs.Sums.{greatest_le}
use Rattle.plant.proofs.SafeLaws.{live_not_late}
use Rattle.plant.specs.CountLaws.{self}
use Rattle.plant.proofs.TidyLaws.{Tidy, via_tidy}
use Rattle.plant.specs.Turns.{turned_at, zeros_at, turn_other, was_done}
use Rattle.plant.specs.Shop.{turn}
use Rattle.plant.proofs.Once.{on, now_latest}
use Rattle.sheet.specs.Model.{Sheet, Names, job, Good, latest, State, status, initial, Possible, Finished, finished, busy, next, plant}
use Rattle.sheet.specs.Form.{Timely, UnderWay, FinishedState, InOrder}
use Rattle.sheet.specs.Wordy.{Wordy}
use Rattle.sheet.specs.ModelTestsRight.{is_finished, is_busy}
use Rattle.sheet.proofs.Obeys.{named, status_next, rested, still, unfinished_next, Fit, shop, once}

-- no job runs
abbrev pub Idle : Sheet → State → Type 0
Idle σ q = (j : ℕ) → Names σ j → status q j ≢ 2

-- what every event keeps, beside `Tidy`
record Ordered (σ : Sheet) (q : State) : Type 0 where
  past : (i : ℕ) → length σ < i → status q i ≡ 0
  rests : Idle σ q → q.elapsed ≡ 0
  merged : Finished σ q → (q.now ≡ 0) × (q.elapsed ≡ 0)
  ended : ¬ (Finished σ q) → (i : ℕ) → Names σ i → status q i ≡ 3 → (job σ i).arrives + (job σ i).fewest ≤ q.now

module _ (σ : Sheet) (few : length σ ≤ 8) where
  ordered_initial : Ordered σ initial
  ordered_initial = record { past = λ i h. zeros_at i; rests = λ _. refl; merged = λ _. (refl, refl); ended = λ n i k z. absurd (omega (arith, zeros_at i)) }

  module _ (q : State) (f : Fit σ q) (younger : (i : ℕ) → Names σ i → status q i ≡ 2 → q.elapsed ≤ q.now - (job σ i).arrives) (o : Ordered σ q) (e : Event) (p : Possible σ q e) where
    turns : (j : ℕ) → 1 ≤ j → status (next σ q e) j ≡ turn e j (status q j)
    turns j h = ap (λ (l : List ℕ). get_or l (j - 1) 0) (status_next σ q e) ∙ turned_at (length σ) q.statuses (omega (arith, f.size)) e (named σ q e p) j h

    -- an unfinished state comes from an unfinished one
    unfinished : ¬ (Finished σ (next σ q e)) → ¬ (Finished σ q)
    unfinished nd d = go e p nd
      where
        go : (e : Event) → Possible σ q e → ¬ (Finished σ (next σ q e)) → ⊥
        go tick p n = n (subst (Finished σ) (sym (still σ q d)) d)
        go (arrival i) p n = omega (arith, d i p.0, p.1)
        go (start i) p n = omega (arith, d i p.0, p.1)
        go (ending i) p n = omega (arith, d i p.0, p.1)

    grows : (e : Event) → q.now ≤ on e q.now
    grows tick = omega arith
    grows (arrival i) = omega arith
    grows (start i) = omega arith
    grows (ending i) = omega arith

    past_next : (j : ℕ) → length σ < j → status (next σ q e) j ≡ 0
    past_next j h = turns j (omega arith) ∙ turn_other e j (status q j) (other e (named σ q e p)) ∙ o.past j h
      where
        other : (e : Event) → Named (length σ) e → j ≢ who e
        other tick n = omega arith
        other (arrival i) n = omega (arith, n.1)
        other (start i) n = omega (arith, n.1)
        other (ending i) n = omega (arith, n.1)

    rests_next : Idle σ (next σ q e) → (next σ q e).elapsed ≡ 0
    rests_next idle = go e p idle turns
      where
        go : (e : Event) → Possible σ q e → Idle σ (next σ q e) → ((j : ℕ) → 1 ≤ j → status (next σ q e) j ≡ turn e j (status q j)) → (next σ q e).elapsed ≡ 0
        go tick p idle t = by (is_dec (is_finished σ q))
          where
            id : Idle σ q
            id j k z = idle j k (t j k.0 ∙ z)

            by : Dec (Finished σ q) → (next σ q tick).elapsed ≡ 0
            by (yes d) = ap (λ (r : State). r.elapsed) (still σ q d) ∙ o.rests id
            by (no n) =
                ap (λ (b : Bool). (cond b q (record { now = q.now + 1; elapsed = cond (busy σ q) (q.elapsed + 1) q.elapsed; statuses = q.statuses })).elapsed) (is_false (is_finished σ q) n)
                ∙ ap (λ (b : Bool). cond b (q.elapsed + 1) q.elapsed) (is_false (is_busy σ q) (λ w. id w.0 w.1 w.2))
                ∙ o.rests id
        go (arrival i) p idle t = o.rests (λ j k z. idle j k (t j k.0 ∙ turn_other (arrival i) j (status q j) (λ (x : j ≡ i). omega (arith, p.1, ap (status q) x)) ∙ z))
        go (start i) p idle t = refl
        go (ending i) p idle t = rested σ q i

    merged_next : Finished σ (next σ q e) → ((next σ q e).now ≡ 0) × ((next σ q e).elapsed ≡ 0)
    merged_next d = go e p d turns
      where
        go : (e : Event) → Possible σ q e → Finished σ (next σ q e) → ((j : ℕ) → 1 ≤ j → status (next σ q e) j ≡ turn e j (status q j))
            → ((next σ q e).now ≡ 0) × ((next σ q e).elapsed ≡ 0)
        go tick p d t = let d' : Finished σ q = λ i k. sym (t i k.0) ∙ d i k in subst (λ (r : State). (r.now ≡ 0) × (r.elapsed ≡ 0)) (sym (still σ q d')) (o.merged d')
        go (arrival i) p d t = absurd (omega (arith, d i p.0, t i p.0.0, own))
          where
            own : turn (arrival i) i (status q i) ≡ 1
            own = self i 1 (status q i)
        go (start i) p d t = absurd (omega (arith, d i p.0, t i p.0.0, own))
          where
            own : turn (start i) i (status q i) ≡ 2
            own = self i 2 (status q i)
        go (ending i) p d t = (ap (λ (b : Bool). (cond b zero_state r).now) whole, ap (λ (b : Bool). (cond b zero_state r).elapsed) whole)
          where
            r : State
            r = record { now = q.now; elapsed = 0; statuses = set q.statuses (i - 1) 3 }

            zero_state : State
            zero_state = record { now = 0; elapsed = 0; statuses = r.statuses }

            whole : finished σ r ≡ true
            whole = is_true (is_finished σ r) (λ j k. ap (λ (l : List ℕ). get_or l (j - 1) 0) (sym (status_next σ q (ending i))) ∙ d j k)

    ended_next : ¬ (Finished σ (next σ q e)) → (j : ℕ) → Names σ j → status (next σ q e) j ≡ 3 → (job σ j).arrives + (job σ j).fewest ≤ (next σ q e).now
    ended_next n j k z = rw (unfinished_next σ q e n) (by (was_done e j (status q j) (sym (turns j k.0) ∙ z)))
      where
        by : (status q j ≡ 3) ⊎ (e ≡ ending j) → (job σ j).arrives + (job σ j).fewest ≤ on e q.now
        by (inl x) = omega (arith, o.ended (unfinished n) j k x, grows e)
        by (inr x) =
            let r : Possible σ q (ending j) = subst (Possible σ q) x p in
            omega (arith, r.2, younger j k r.1, f.since j k (omega (arith, r.1)), grows e)

    ordered_next : Ordered σ (next σ q e)
    ordered_next = record { past = past_next; rests = rests_next; merged = merged_next; ended = ended_next }

  via_ordered : {P : State → Type 0} {q : State} → Via (plant σ) P q → Ordered σ q
  unfolding shop
  via_ordered (at_start x) = ordered_initial
  via_ordered (after {q = r} e v p x) = let t = via_tidy (plant σ) (shop σ few) v in ordered_next r t.fit t.younger (via_ordered v) e p

  pub live_in_order : {q : State} → Live (plant σ) q → InOrder σ q
  unfolding shop
  live_in_order {q} v = record { past = o.past; state = go (is_dec (is_finished σ q)) }
    where
      o : Ordered σ q
      o = via_ordered v

      t : Tidy (plant σ) (shop σ few) q
      t = via_tidy (plant σ) (shop σ few) v

      timely : ¬ (Finished σ q) → (i : ℕ) → Names σ i → Timely (job σ i) q (status q i)
      timely n i k = record { waits = t.fit.waiting i k; came = came; runs = λ z. (t.within i k z, omega (arith, t.younger i k z, t.fit.since i k (omega arith))); ended = o.ended n i k }
        where
          came : 1 ≤ status q i → (job σ i).arrives ≤ q.now
          came h = by (dec_le (status q i) 2)
            where
              by : Dec (status q i ≤ 2) → (job σ i).arrives ≤ q.now
              by (yes y) = t.fit.since i k (h, y)
              by (no m) = omega (arith, o.ended n i k (omega (arith, t.small i k)))

      go : Dec (Finished σ q) → FinishedState σ q ⊎ UnderWay σ q
      go (yes d) = inl (d, (o.merged d).0, (o.merged d).1)
      go (no n) = inr (record { not_done = n; one_runs = λ i j k l x y. t.one_runs i j k l x y; rests = o.rests; timely = timely n; in_time = live_not_late v })

-- the latest due tick of a sheet of good form is a byte
pub latest_le : (σ : Sheet) → Good σ → latest σ ≤ 255
latest_le σ good = greatest_le (length σ) (λ i. (job σ i).arrives + (job σ i).due) 255 (λ i k. (good.each i k).early)

pub live_wordy : (σ : Sheet) → Good σ → {q : State} → Live (plant σ) q → Wordy q
unfolding shop once
live_wordy σ good {q} v = record {
  now_fits = now_fits (is_dec (is_finished σ q));
  elapsed_fits = elapsed_fits (is_dec (is_busy σ q));
  eight = t.fit.size;
  statuses_fit = λ j. small j (dec_le (suc j) (length σ));
}
  where
    few : length σ ≤ 8
    few = good.few_jobs

    o : Ordered σ q
    o = via_ordered σ few v

    t : Tidy (plant σ) (shop σ few) q
    t = via_tidy (plant σ) (shop σ few) v

    now_fits : Dec (Finished σ q) → q.now < 256
    now_fits (yes d) = omega (arith, (o.merged d).0)
    now_fits (no n) = omega (arith, now_latest (plant σ) (shop σ few) (once σ few) q t n (live_not_late v), latest_le σ good)

    elapsed_fits : Dec ((j : ℕ) × Names σ j × (status q j ≡ 2)) → q.elapsed < 256
    elapsed_fits (yes w) = let g = good.each w.0 w.1 in omega (arith, t.within w.0 w.1 w.2, g.fits, g.early)
    elapsed_fits (no n) = omega (arith, o.rests (λ j k z. n (j, k, z)))

    small : (j : ℕ) → Dec (suc j ≤ length σ) → get_or q.statuses j 0 < 4
    small j (yes h) = let x : suc j - 1 ≡ j = omega arith in let s : get_or q.statuses j 0 ≤ 3 = rw x at (t.small (suc j) (omega arith)) in omega arith
    small j (no n) = let x : suc j - 1 ≡ j = omega arith in let s : get_or q.statuses j 0 ≡ 0 = rw x at (o.past (suc j) (omega arith)) in omega arith
