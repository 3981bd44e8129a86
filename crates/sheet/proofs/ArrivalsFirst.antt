-- #101 takes no sheet from the planners: a sheet can be scheduled with arrivals first exactly if it can with starts and arrivals of
-- a tick in any order. Where the tick is possible no arrival is pending, and only there safety asks for a start. Assumes nothing.
use Rattle.std.specs.Prelude.{ℕ, ◌≤◌, ◌≡◌, refl, ◌≢◌, ◌⊎◌, ◌↔◌, [], ◌∷◌}
use Rattle.std.proofs.Common.{arith, inl, inr}
use Rattle.plant.specs.Plant.{Plant, Event, tick, arrival, start, ending, Live, at_start, after, Leads, Safe}
use Rattle.plant.specs.Reflect.{is_not}
use Rattle.plant.specs.Number.{Number}
use Rattle.plant.specs.Lists.{at_most}
use Rattle.plant.proofs.SafeLaws.{safe_leads, safe_not_late, leads_weakly, largest}
use Rattle.sheet.specs.declared.Job.{Job}
use Rattle.sheet.specs.Model.{Sheet, Names, Good, State, status, initial, Possible, next, Late, plant}
use Rattle.sheet.specs.ModelTestsRight.{is_busy, is_possible}
use Rattle.sheet.proofs.Obeys.{tests}
use Rattle.sheet.proofs.Demand3Laws.{lives}

-- "Start of i: possible when i is ready and none runs. .. A pending arrival of another job doesn't prevent it." (01, before #101)
abbrev pub PossibleInAnyOrder : Sheet → State → Event → Type 0
PossibleInAnyOrder σ q tick = Possible σ q tick
PossibleInAnyOrder σ q (arrival i) = Possible σ q (arrival i)
PossibleInAnyOrder σ q (start i) = Names σ i × (status q i ≡ 1) × ((j : ℕ) → Names σ j → status q j ≢ 2)
PossibleInAnyOrder σ q (ending i) = Possible σ q (ending i)

abbrev pub any_order : Sheet → Plant
any_order σ = record { State = State; initial = initial; Possible = PossibleInAnyOrder σ; next = next σ; Late = Late σ }

-- The two differ: of two jobs that come at tick 0 the first to arrive may start at once in any order, but not with arrivals first
abbrev twice : Sheet
twice = let j : Job = record { arrives = 0; fewest = 1; most = 1; due = 2 } in j ∷ j ∷ []

abbrev one_in : State
one_in = next twice initial (arrival 1)

pub at_once : PossibleInAnyOrder twice one_in (start 1)
at_once = (omega arith, refl, λ j h z. (is_not (is_busy twice one_in)).holds tt (j, h, z))

pub not_at_once : ¬ (Possible twice one_in (start 1))
not_at_once p = (is_possible twice one_in (start 1)).passes p

module _ (σ : Sheet) where
  -- what is possible with arrivals first is possible in any order
  too : (q : State) (e : Event) → Possible σ q e → PossibleInAnyOrder σ q e
  too q tick p = p
  too q (arrival i) p = p
  too q (start i) p = (p.0, p.1, p.2)
  too q (ending i) p = p

  pub live_too : {q : State} → Live (plant σ) q → Live (any_order σ) q
  live_too (at_start n) = at_start n
  live_too (after {q = q} e l p n) = after e (live_too l) (too q e p) n

  -- a closed set is closed in any order
  leads_too : {S : State → Type 0} {q : State} → Leads (plant σ) S q → Leads (any_order σ) S q
  leads_too {S} {q} r = record { arrivals = r.arrivals; endings = r.endings; clock = λ p. go (r.clock p) }
    where
      go : S (next σ q tick) ⊎ ((i : ℕ) × Possible σ q (start i) × S (next σ q (start i)))
          → S (next σ q tick) ⊎ ((i : ℕ) × PossibleInAnyOrder σ q (start i) × S (next σ q (start i)))
      go (inl s) = inl s
      go (inr w) = inr (w.0, too q (start w.0) w.1, w.2)

  safe_too : {q : State} → Safe (plant σ) q → Safe (any_order σ) q
  safe_too s = (s.0, record { live = λ q m. live_too (s.1.live q m); stays = λ q m. leads_too (s.1.stays q m) }, s.2)

  -- the states that are live with arrivals first and safe in any order are closed with arrivals first
  Both : State → Type 0
  Both q = Live (plant σ) q × Safe (any_order σ) q

  both_lead : (q : State) → Both q → Leads (plant σ) Both q
  unfolding Both
  both_lead q b = record { arrivals = λ i p. on (arrival i) p (r.arrivals i p); endings = λ i p. on (ending i) p (r.endings i p); clock = λ p. go p (r.clock p) }
    where
      r : Leads (any_order σ) (Safe (any_order σ)) q
      r = safe_leads (any_order σ) b.1

      on : (e : Event) → Possible σ q e → Safe (any_order σ) (next σ q e) → Both (next σ q e)
      on e p s = (after e b.0 p (safe_not_late (any_order σ) s), s)

      go : Possible σ q tick
          → Safe (any_order σ) (next σ q tick) ⊎ ((i : ℕ) × PossibleInAnyOrder σ q (start i) × Safe (any_order σ) (next σ q (start i)))
          → Both (next σ q tick) ⊎ ((i : ℕ) × Possible σ q (start i) × Both (next σ q (start i)))
      go p (inl s) = inl (on tick p s)
      go p (inr w) = let s : Possible σ q (start w.0) = (w.1.0, w.1.1, w.1.2, p.0) in inr (w.0, s, on (start w.0) s w.2)

module _ (σ : Sheet) (good : Good σ) where
  -- SAFETY DOES NOT MOVE
  pub safe_same : {q : State} → Live (plant σ) q → Safe (plant σ) q ↔ Safe (any_order σ) q
  unfolding Both
  safe_same {q} l = (
    safe_too σ,
    λ s. largest (plant σ) (tests σ) (lives σ good.few_jobs) (Both σ) (λ r b. b.0) (λ r b. leads_weakly (plant σ) (both_lead σ r b)) q (l, s),
  )

  -- A SHEET CAN BE SCHEDULED EXACTLY IF IT COULD BEFORE
  pub scheduled_same : Safe (plant σ) initial ↔ Safe (any_order σ) initial
  scheduled_same = (safe_too σ, λ s. (safe_same (at_start (safe_not_late (any_order σ) s))).1 s)

  -- and none has more live states than before
  pub live_fewer : (n m : ℕ) → Number (Live (plant σ)) n → Number (Live (any_order σ)) m → n ≤ m
  live_fewer n m a b =
      omega (arith, a.many, b.many, at_most a.list b.list a.once (λ q k. (b.each q).0 (live_too σ ((a.each q).1 k))))
