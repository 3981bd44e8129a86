-- What the code's tests of an event come to, and that an allowed tick keeps both clocks bytes. Assumes nothing.
use Rattle.std.specs.Prelude.{ℕ, ◌-◌, ◌≤◌, ◌<◌, ◌≡◌, ◌≢◌, ◌⊎◌, Bool, true, List, length}
use Rattle.std.proofs.Common.{arith, sym, ap, subst, ◌∙◌, inl, inr}
use Rattle.plant.specs.Plant.{tick, arrival, start, ending}
use Rattle.plant.specs.Range.{In}
use Rattle.plant.specs.Marks.{Has, Byte}
use Rattle.plant.specs.Reflect.{Is, is_map, is_le, is_eq, is_and, is_not}
use Rattle.sheet.specs.Model.{Sheet, State, Possible, Good, word, state_of}
use Rattle.sheet.specs.ModelTestsRight.{is_possible}
use Rattle.sheet.specs.ModelTests.{named, possible}
use Rattle.sheet.specs.Table.{Entry, at}
use Rattle.sheet.specs.Form.{InOrder, FinishedState, UnderWay, Fits, GoodRows}
use Rattle.state.specs.Clocks.{model}
use Rattle.state.specs.Statuses.{Known}
use Rattle.state.specs.EventByte.{event_in_rules}
use Rattle.look.specs.LateLaws.{tick_fits}
use Rattle.look.specs.Look.{look_of}
use Rattle.look.specs.LookLaws.{Looks, looks}
use Rattle.state.specs.Tell.{same_test, told_yes}
use Rattle.state.specs.WordBack.{state_back}
use Rattle.state.specs.declared.event.Event.{Event}
use Rattle.state.specs.declared.event.Event.TheVariants.{Tick, Arrival, Start, Ending}
use Rattle.look.specs.declared.Look.{Look}
use Rattle.state.specs.declared.word.State as by_value
use Rattle.table.specs.Replies.{lookup}
use Rattle.table.specs.declared.row.RowReply.{RowReply}
use Rattle.desk.specs.Stepping.{state_in, names, allows}
use Rattle.after.specs.Events.{FitsIn}
use Rattle.desk.specs.Moving.{JobFits}
use Rattle.desk.specs.StepLaws.{lookup_some}
use Rattle.desk.specs.declared.desk.Desk.{Desk}

-- a bit of a look is the test of its event
module _ (σ : Sheet) (q : State) (l : Look) (e : l ≡ look_of σ q) where
  seen : Looks σ q l
  seen = subst (Looks σ q) (sym e) (looks σ q)

  of_byte : {P : ℕ → Type 0} {byte : ℕ} → Byte P byte → (k : ℕ) → In 8 k → {b : Bool} → Is b (Has byte k) → Is b (P k)
  of_byte y k h r = is_map (y.has k h).0 (y.has k h).1 r

  pub look_tick : l.tick ≡ possible σ q tick
  look_tick = same_test seen.ticks (is_possible σ q tick)

  module _ (k : ℕ) (h : In 8 k) {b : Bool} where
    pub look_arrival : Is b (Has l.arrivals k) → b ≡ possible σ q (arrival k)
    look_arrival r = same_test (of_byte seen.arrivals k h r) (is_possible σ q (arrival k))

    pub look_start : Is b (Has l.starts k) → b ≡ possible σ q (start k)
    look_start r = same_test (of_byte seen.starts k h r) (is_possible σ q (start k))

    pub look_ending : Is b (Has l.endings k) → b ≡ possible σ q (ending k)
    look_ending r = same_test (of_byte seen.endings k h r) (is_possible σ q (ending k))

-- a job of the sheet is 1 to 8
in_eight : (σ : Sheet) (k : ℕ) → length σ ≤ 8 → named σ k ≡ true → In 8 k
in_eight σ k few n = let w = told_yes (is_and (is_le 1 k) (is_le k (length σ))) n in (w.0, omega (arith, w.1))

pub job_fits : (σ : Sheet) → length σ ≤ 8 → (e : Event) → names σ (event_in_rules e) ≡ true → JobFits e
job_fits σ few Tick n = tt
job_fits σ few (Arrival k) n = in_eight σ k few n
job_fits σ few (Start k) n = in_eight σ k few n
job_fits σ few (Ending k) n = in_eight σ k few n

-- a tick that is possible, with a code that is not 2, has code 1, which good form gives to no tick that leads to a late state
module _
    (σ : Sheet) (rows : List Entry) (sheet : Good σ) (form : GoodRows σ rows) (d : Desk)
    (bytes : (d.now < 256) × (d.elapsed < 256) × (length d.statuses ≡ 8)) (known : Known d.statuses) where
  abbrev q : State
  q = state_in d

  tick_open : (i code : ℕ) → i < length rows → (at rows i).word ≡ word q → code ≡ (at rows i).tick → Possible σ q tick → code ≢ 2 → (d.now < 255) × (d.elapsed < 255)
  tick_open i code h w c p n = go order.state
    where
      back : state_of (at rows i).word ≡ q
      back = ap state_of w ∙ state_back q (omega (arith, bytes.0)) (omega (arith, bytes.1)) bytes.2 known

      order : InOrder σ q
      order = subst (InOrder σ) back (form.each i h).order

      marks : Fits σ q (at rows i).starts (at rows i).tick
      marks = subst (λ (s : State). Fits σ s (at rows i).starts (at rows i).tick) back (form.each i h).marks

      is_open : (at rows i).tick ≡ 1
      is_open =
          let some : (at rows i).tick ≢ 0 = λ e. marks.none e p in
          let other : (at rows i).tick ≢ 2 = λ e. n (c ∙ e) in
          omega (arith, marks.known)

      go : FinishedState σ q ⊎ UnderWay σ q → (d.now < 255) × (d.elapsed < 255)
      go (inl w) = (omega (arith, w.1), omega (arith, w.2))
      go (inr u) = tick_fits σ q sheet u (λ j g. known (j - 1)) p (marks.opens is_open)

  module _ (t : RowReply) (f : t ≡ lookup (word q) rows) (z : t.number ≡ 0) where
    tick_bytes : possible σ q tick ≡ true → allows t.starts t.tick tick ≡ true → (d.now < 255) × (d.elapsed < 255)
    tick_bytes p a =
        let r = lookup_some (word q) rows (ap (λ (x : RowReply). x.number) (sym f) ∙ z) in
        tick_open r.0 t.tick r.1 r.2 (ap (λ (x : RowReply). x.tick) (f ∙ r.3)) (told_yes (is_possible σ q tick) p) (told_yes (is_not (is_eq t.tick 2)) a)

    pub fits_in : (e : Event) (s : by_value.State) → model s ≡ q → names σ (event_in_rules e) ≡ true
        → possible σ q (event_in_rules e) ≡ true → allows t.starts t.tick (event_in_rules e) ≡ true → FitsIn s e
    fits_in Tick s m n p a =
        let w = tick_bytes p a in
        let b : s.now ≡ d.now = ap (λ (x : State). x.now) m in
        let c : s.elapsed.0 ≡ d.elapsed = ap (λ (x : State). x.elapsed) m in
        (omega (arith, w.0), omega (arith, w.1))
    fits_in (Arrival k) s m n p a = in_eight σ k sheet.few_jobs n
    fits_in (Start k) s m n p a = in_eight σ k sheet.few_jobs n
    fits_in (Ending k) s m n p a = in_eight σ k sheet.few_jobs n
