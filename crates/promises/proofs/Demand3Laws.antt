-- Demand 3 holds of every file that make answers. Assumes nothing.
use Rattle.std.specs.Prelude.{ℕ, ◌≡◌, ◌⊎◌, List, length, take}
use Rattle.std.proofs.Common.{arith, sym, ap, subst, inl, inr}
use Rattle.std.proofs.lemmas.List.{length-map}
use Rattle.plant.specs.Plant.{Event, tick, arrival, start, ending, Safe}
use Rattle.plant.specs.Rule.{reached, Run, begin, more, Admissible, Table}
use Rattle.plant.proofs.SafeLaws.{safe_leads}
use Rattle.plant.proofs.TableLaws.{table_safe}
use Rattle.sheet.specs.Model.{Sheet, State, Names, status, Possible, next, Finished, plant}
use Rattle.sheet.specs.Demand3.{Demand3, Followed}
use Rattle.sheet.proofs.Demand3Laws.{demand_3}
use Rattle.state.specs.EventByte.{byte_of}
use Rattle.state.specs.Lent.{lent}
use Rattle.maker.specs.Making.{Made}
use Rattle.maker.specs.declared.MakeReply.{MakeReply}
use Rattle.desk.specs.Stepping.{state_in}
use Rattle.desk.specs.declared.desk.Desk.{Desk}
use Rattle.promises.specs.Night.{Night, Takes, AtDesk, events}
use Rattle.promises.specs.Demand3.{Nights}
use Rattle.promises.specs.MadeLaws.{Done, is_done}
use Rattle.promises.proofs.NightLaws.{night_run, run_night, bytes_events, step_takes, step_took}

module _ {numbers file : List ℕ} (made : Done numbers file) where
  abbrev σ : Sheet
  σ = lent numbers

  theory : Demand3 σ
  theory = demand_3 σ made.sheet

  rules : Followed σ (Table (plant σ))
  rules = theory.runs made.safe

  -- a run with one event more is one step more
  one_more : (h : List ℕ) (d : Desk) → Night file h d → (e : Event) → Possible σ (state_in d) e → Table (plant σ) (events h) e → Takes file d (byte_of e)
  one_more h d n e p a =
      let w = night_run made n in
      subst (λ (b : Desk). Takes file b (byte_of e)) (sym w.1)
      (step_takes made w.0 e (subst (λ (b : Desk). Possible σ (state_in b) e) w.1 p) a)

  at_end : (h : List ℕ) (d : Desk) → Night file h d → Finished σ (reached (plant σ) (events h)) → Finished σ (state_in d)
  at_end h d n f = subst (λ (b : Desk). Finished σ (state_in b)) (sym (night_run made n).1) f

  -- the run of a night, as one writes its events
  as_run : (h : List ℕ) (d : Desk) → Night file h d → {g : List Event} → events h ≡ g → Run (plant σ) (Table (plant σ)) g
  as_run h d n e = subst (Run (plant σ) (Table (plant σ))) e (night_run made n).0

  -- where a job runs no start is possible, so that the tick of a safe state leads to a safe one
  tick_safe : (q : State) → Safe (plant σ) q → (i : ℕ) → Names σ i → status q i ≡ 2 → Possible σ q tick → Safe (plant σ) (next σ q tick)
  tick_safe q s i k b p = go ((safe_leads (plant σ) s).clock p)
    where
      go : Safe (plant σ) (next σ q tick) ⊎ ((j : ℕ) × Possible σ q (start j) × Safe (plant σ) (next σ q (start j))) → Safe (plant σ) (next σ q tick)
      go (inl t) = t
      go (inr w) = absurd (w.1.2 i k b)

  -- a run that the desk permits is the table's
  desk_run : {h : List Event} → Run (plant σ) (AtDesk σ file) h → Run (plant σ) (Table (plant σ)) h
  desk_run begin = begin
  desk_run (more e r p t) = let w = desk_run r in more e w p (step_took made w e p t)

  desk_admissible : Admissible (plant σ) (AtDesk σ file)
  desk_admissible = record {
    arrivals = λ h r i p n. n (step_takes made (desk_run r) (arrival i) p tt);
    endings = λ h r i p n. n (step_takes made (desk_run r) (ending i) p tt);
    clock = λ h r p nt none. clock h r nt none ((safe_leads (plant σ) (table_safe (plant σ) made.safe (desk_run r))).clock p) p;
    in_time = λ h r. (theory.ours made.safe).in_time h (desk_run r);
  }
    where
      clock : (h : List Event) → Run (plant σ) (AtDesk σ file) h → ¬ (AtDesk σ file h tick)
          → ((i : ℕ) → Possible σ (reached (plant σ) h) (start i) → ¬ (AtDesk σ file h (start i)))
          → Safe (plant σ) (next σ (reached (plant σ) h) tick) ⊎ ((i : ℕ) × Possible σ (reached (plant σ) h) (start i) × Safe (plant σ) (next σ (reached (plant σ) h) (start i)))
          → Possible σ (reached (plant σ) h) tick → ⊥
      clock h r nt none (inl s) p = nt (step_takes made (desk_run r) tick p s)
      clock h r nt none (inr w) p = none w.0 w.1 (step_takes made (desk_run r) (start w.0) w.1 w.2)

  pub nights : Nights σ file
  nights = record {
    follows = λ h d n. ((night_run made n).0, (night_run made n).1, bytes_events made n);
    permits = λ g r. run_night made r;
    any_arrival = λ h d n i p. one_more h d n (arrival i) p tt;
    any_ending = λ h d n i p. one_more h d n (ending i) p tt;
    any_tick = λ h d n i k b p.
        let w = night_run made n in
        one_more h d n tick p
        (tick_safe (reached (plant σ) (events h)) (table_safe (plant σ) made.safe w.0) i k
        (subst (λ (b : Desk). status (state_in b) i ≡ 2) w.1 b) (subst (λ (b : Desk). Possible σ (state_in b) tick) w.1 p));
    arrives_at = λ h d n i g e. rules.arrives_at i g (as_run h d n e);
    runs_for = λ h d n i g f e. rules.runs_for i g f (as_run h d n e);
    ends_within = λ h d n i g f e. rules.ends_within i g f (as_run h d n e);
    ends_by = λ h d n i g e. rules.ends_by i g (as_run h d n e);
    never_stuck = λ h d n.
        let w = night_run made n in
        let s = theory.never_stuck made.safe (events h) w.0 in
        (byte_of s.0, one_more h d n s.0 (subst (λ (b : Desk). Possible σ (state_in b) s.0) (sym w.1) s.1) s.2);
    is_out = λ h d n i g f e late. rules.is_out i g f (as_run h d n e) late;
    all_out = λ h d n late. at_end h d n (rules.all_out (events h) (night_run made n).0 late);
    finishes = λ h d n long. at_end h d n (rules.finishes (events h) (night_run made n).0 (omega (arith, long, length-map (events h) byte_of, ap length (bytes_events made n))));
    once = λ h d n f. rules.once (events h) (night_run made n).0 (subst (λ (b : Desk). Finished σ (state_in b)) (night_run made n).1 f);
    most = λ R a g r. run_night made (theory.most R a g r);
    ours = desk_admissible;
  }

-- DEMAND 3
pub demand_3_of_calls : {numbers work₀ work out₀ out : List ℕ} {r : MakeReply} → Made numbers work₀ work out₀ out r → r.number ≡ 0 → Nights (lent numbers) (take r.length out)
demand_3_of_calls m z = nights (is_done m z)
