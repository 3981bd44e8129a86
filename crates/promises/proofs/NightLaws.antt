-- Nights at a file that was made are the runs of its table, and the desk is the state that they lead to. Assumes nothing.
use Rattle.std.specs.Prelude.{ℕ, ◌≡◌, refl, List, ◌∷◌}
use Rattle.std.proofs.Common.{arith, sym, ap, subst, ◌∙◌}
use Rattle.std.proofs.Math.Option.{Option, none, some}
use Rattle.plant.specs.Plant.{Event, Safe}
use Rattle.plant.specs.Rule.{reached, Run, begin, more, Allowed, Table}
use Rattle.plant.proofs.TableLaws.{run_row}
use Rattle.sheet.specs.Model.{Sheet, Good, initial, Possible, next, plant}
use Rattle.sheet.specs.Table.{Entry, Rows}
use Rattle.state.specs.EventByte.{event_of, kind_of, byte_of}
use Rattle.state.specs.EventLaws.{event_byte, byte_event}
use Rattle.state.specs.Lent.{lent}
use Rattle.table.specs.Reading.{good}
use Rattle.table.specs.Read.{reading}
use Rattle.desk.specs.Stepping.{desk_of, on, stays, moves, asked, step_reply}
use Rattle.desk.specs.declared.desk.Desk.{Desk}
use Rattle.desk.specs.declared.step.Stepped.{Stepped}
use Rattle.promises.specs.Night.{Night, opened, taken, Takes, events, bytes}
use Rattle.promises.specs.MadeLaws.{Done, done_read}
use Rattle.promises.specs.TakenLaws.{named_possible, takes, took}

module _ {numbers file : List ℕ} (made : Done numbers file) where
  abbrev σ : Sheet
  σ = lent numbers

  abbrev sheet : Good (lent numbers)
  sheet = made.sheet

  abbrev rows : List Entry
  rows = made.rows

  abbrev right : Rows (lent numbers) made.rows
  right = made.right

  abbrev safe : Safe (plant (lent numbers)) initial
  safe = made.safe

  read : reading file ≡ good (lent numbers) made.rows
  read = done_read made

  abbrev Runs : List Event → Type 0
  Runs = Run (plant σ) (Table (plant σ))

  -- LAW: what step takes from the start on is a run of the table, and the desk is the state that it leads to
  pub night_run : {h : List ℕ} {d : Desk} → Night file h d → Runs (events h) × (d ≡ desk_of (reached (plant σ) (events h)))
  night_run opened = (begin, refl)
  night_run (taken {bytes = h} {d = d} x night z) = go (kind_of (event_of x)) refl (night_run night)
    where
      Next : Option Event → Type 0
      Next o = Runs (on (events h) (λ e. e ∷ events h) o) × ((step_reply d x (reading file)).desk ≡ desk_of (reached (plant σ) (on (events h) (λ e. e ∷ events h) o)))

      reply : (o : Option Event) → kind_of (event_of x) ≡ o → step_reply d x (reading file) ≡ on (stays 9 0 d) (asked σ rows d) o
      reply o k = ap (step_reply d x) read ∙ ap (on (stays 9 0 d) (asked σ rows d)) k

      zero_then : (o : Option Event) → kind_of (event_of x) ≡ o → (on (stays 9 0 d) (asked σ rows d) o).reply.number ≡ 0
      zero_then o k = ap (λ (s : Stepped). s.reply.number) (sym (reply o k)) ∙ z

      go : (o : Option Event) → kind_of (event_of x) ≡ o → Runs (events h) × (d ≡ desk_of (reached (plant σ) (events h))) → Next o
      go none k w = absurd (omega (arith, zero_then none k))
      go (some e) k w =
          let q = reached (plant σ) (events h) in
          let row = run_row (plant σ) safe w.0 in
          let same = ap (λ (b : Desk). asked σ rows b e) w.1 in
          let p = took σ sheet rows right q row e (ap (λ (s : Stepped). s.reply.number) (sym same) ∙ zero_then (some e) k) in
          (more e w.0 p.0 p.1, ap (λ (s : Stepped). s.desk) (reply (some e) k ∙ (same ∙ takes σ sheet rows right q row e p.0 p.1)))

  -- the step of an event of a run
  reply_is : {g : List Event} → Runs g → (e : Event) → Possible σ (reached (plant σ) g) e → Allowed (plant σ) (reached (plant σ) g) e
      → step_reply (desk_of (reached (plant σ) g)) (byte_of e) (reading file) ≡ moves (next σ (reached (plant σ) g) e)
  reply_is {g} r e p a =
      let q = reached (plant σ) g in
      ap (step_reply (desk_of q) (byte_of e)) read
      ∙ (ap (on (stays 9 0 (desk_of q)) (asked σ rows (desk_of q))) (event_byte e (named_possible σ sheet rows right q e p))
      ∙ takes σ sheet rows right q (run_row (plant σ) safe r) e p a)

  -- LAW: an event that is possible after a run, and that the table allows, is taken
  pub step_takes : {g : List Event} → Runs g → (e : Event) → Possible σ (reached (plant σ) g) e → Allowed (plant σ) (reached (plant σ) g) e
      → (step_reply (desk_of (reached (plant σ) g)) (byte_of e) (reading file)).reply.number ≡ 0
  step_takes r e p a = ap (λ (t : Stepped). t.reply.number) (reply_is r e p a)

  -- LAW: and what is taken the table allows
  pub step_took : {g : List Event} → Runs g → (e : Event) → Possible σ (reached (plant σ) g) e
      → Takes file (desk_of (reached (plant σ) g)) (byte_of e) → Allowed (plant σ) (reached (plant σ) g) e
  step_took {g} r e p z =
      let q = reached (plant σ) g in
      let same = ap (step_reply (desk_of q) (byte_of e)) read ∙ ap (on (stays 9 0 (desk_of q)) (asked σ rows (desk_of q))) (event_byte e (named_possible σ sheet rows right q e p)) in
      (took σ sheet rows right q (run_row (plant σ) safe r) e (ap (λ (t : Stepped). t.reply.number) (sym same) ∙ z)).1

  -- LAW: every run of the table is such a night
  pub run_night : {g : List Event} → Runs g → Night file (bytes g) (desk_of (reached (plant σ) g))
  run_night begin = opened
  run_night (more {h = g} e r p a) = subst (Night file (bytes (e ∷ g))) (ap (λ (t : Stepped). t.desk) (reply_is r e p a)) (taken (byte_of e) (run_night r) (step_takes r e p a))

  -- the events of the bytes of a run are the run's
  pub events_bytes : {g : List Event} → Runs g → events (bytes g) ≡ g
  events_bytes begin = refl
  events_bytes (more {h = g} e r p a) =
      ap (on (events (bytes g)) (λ d. d ∷ events (bytes g))) (event_byte e (named_possible σ sheet rows right (reached (plant σ) g) e p))
      ∙ ap (λ l. e ∷ l) (events_bytes r)

  -- and the bytes of the events of a night are the bytes that step took
  pub bytes_events : {h : List ℕ} {d : Desk} → Night file h d → bytes (events h) ≡ h
  bytes_events opened = refl
  bytes_events (taken {bytes = h} {d = d} x night z) = go (kind_of (event_of x)) refl (bytes_events night)
    where
      go : (o : Option Event) → kind_of (event_of x) ≡ o → bytes (events h) ≡ h → bytes (on (events h) (λ e. e ∷ events h) o) ≡ x ∷ h
      go none k r = absurd (omega (arith, ap (λ (s : Stepped). s.reply.number) (sym (ap (step_reply d x) read ∙ ap (on (stays 9 0 d) (asked σ rows d)) k)) ∙ z))
      go (some e) k r = let b = (byte_event x e k).1 in λ i. b i ∷ r i
