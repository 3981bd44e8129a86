-- The test that the code makes is the form of a row. Assumes nothing.
use Rattle.std.specs.Prelude.{ℕ, suc, ◌+◌, ◌-◌, ◌%◌, ◌^◌, ◌≤◌, ◌<◌, ◌≡◌, ◌≢◌, ◌⊎◌, Bool, true, length}
use Rattle.std.proofs.Common.{arith, sym, ◌∙◌, inl, inr, ⊎_elim}
use Rattle.std.proofs.Math.Decide.{ℕ_discrete, dec_le}
use Rattle.std.proofs.Math.Nat.{zero-div}
use Rattle.plant.specs.Plant.{tick, start}
use Rattle.plant.specs.Range.{In}
use Rattle.plant.specs.Marks.{Has}
use Rattle.plant.proofs.MaskLaws.{byte_some}
use Rattle.plant.specs.Reflect.{Is, is_map, is_dec, is_true}
use Rattle.sheet.specs.Model.{Sheet, Names, job, State, status, Possible, Finished, next, Late, digits, state_of}
use Rattle.sheet.specs.ModelTestsRight.{is_finished, is_late}
use Rattle.sheet.proofs.WordLaws.{length_digits, digits_lt, word_of_digits}
use Rattle.sheet.specs.Form.{Timely, UnderWay, FinishedState, GoodEntry}
use Rattle.sheet.specs.Table.{Entry}
use Rattle.state.specs.Tell.{told_yes}
use Rattle.look.specs.LateLaws.{is_due, due_late}
use Rattle.form.specs.RowTest.{JobsFit, Runs, OnePends, OneSpends, Ends, MarksFit}
use Rattle.form.specs.TestLaws.{is_or}
use Rattle.form.specs.DigitLaws.{threes, of_threes}

module _ (σ : Sheet) (w b c : ℕ) (few : length σ ≤ 8) where
  abbrev q : State
  q = state_of w

  abbrev row : Entry
  row = record { word = w; starts = b; tick = c }

  pub ends_right : GoodEntry σ row → Ends (length σ) q b
  ends_right g = record { statuses = g.order.past; bits = λ i h l s. let p = (g.marks.ready i h s).0 in omega arith }

  -- the finished state -------------------------------------------------------------------------------------------------

  eight : length σ ≤ length (digits 8 w)
  eight = omega (arith, length_digits 8 w)

  pub done_is : w % 2 ^ 16 ≡ 4 ^ length σ - 1 → Finished σ q
  done_is e i h = threes (length σ) (digits 8 w) eight (digits_lt 8 w) (word_of_digits 8 w ∙ e) (i - 1) (omega arith)

  pub is_done : Ends (length σ) q b → Finished σ q → w % 2 ^ 16 ≡ 4 ^ length σ - 1
  is_done e f =
      sym (word_of_digits 8 w)
      ∙ of_threes (length σ) (digits 8 w) eight (digits_lt 8 w)
      (λ j h. let d : suc j - 1 ≡ j = omega arith in rw d at (f (suc j) (omega arith)))
      (λ j h. let d : suc j - 1 ≡ j = omega arith in rw d at (e.statuses (suc j) (omega arith)))

  open_done : Finished σ q → Possible σ q tick
  open_done f = ((λ i w. omega (arith, f i w.0, w.1)), (λ i h z. absurd (omega (arith, f i h))))

  no_late_done : Finished σ q → ¬ (Late σ (next σ q tick))
  no_late_done f x =
      let y : Late σ q = rw (is_true (is_finished σ q) f) at x in
      omega (arith, y.1.unfinished, f y.0 y.1.names)

  pub done_good : Finished σ q → Ends (length σ) q b → w ≤ 65535 → b ≡ 0 → c ≡ 1 → GoodEntry σ row
  done_good f e small z t = record {
    fits = (omega arith, omega arith);
    order = record { past = e.statuses; state = inl (f, omega arith, omega arith) };
    marks = record {
      ready = λ i h s. absurd (none i (rw z at s));
      none = λ y. absurd (omega arith);
      some = λ y. absurd (y (open_done f));
      known = omega arith;
      held = λ y. absurd (omega arith);
      opens = λ y. no_late_done f;
    };
  }
    where
      none : (i : ℕ) → ¬ (Has 0 i)
      none i s = omega (arith, zero-div (2 ^ (i - 1)))

  pub good_done : Finished σ q → GoodEntry σ row → (w ≤ 65535) × ((b ≡ 0) × (c ≡ 1))
  good_done f g =
      let z : b ≡ 0 = no_start (ℕ_discrete b 0) in
      let p : c ≢ 0 = λ y. g.marks.none y (open_done f) in
      let r : c ≢ 2 = λ y. omega (arith, g.marks.held y) in
      (state g.order.state, (z, omega (arith, g.marks.known)))
    where
      state : FinishedState σ q ⊎ UnderWay σ q → w ≤ 65535
      state (inl x) = omega (arith, x.1, x.2, g.fits.0)
      state (inr u) = absurd (u.not_done f)

      no_start : Dec (b ≡ 0) → b ≡ 0
      no_start (yes e) = e
      no_start (no n) =
          let x = byte_some b g.fits.1 n in
          let p = g.marks.ready x.0 x.1 x.2 in
          absurd (omega (arith, p.1, f x.0 p.0))

  -- a state under way --------------------------------------------------------------------------------------------------

  -- an arrival is pending or a job has run for its most ticks: the tick is not possible
  abbrev Held : Type 0
  Held = OnePends σ q (length σ) ⊎ OneSpends σ q (length σ)

  goes : ¬ Held → Possible σ q tick
  goes n = ((λ i w. n (inl (i, w.0, (w.1, w.2)))), (λ i h z a. n (inr (i, h, (z, a)))))

  stops : Held → ¬ (Possible σ q tick)
  stops (inl x) p = p.0 x.0 (x.1, x.2.0, x.2.1)
  stops (inr x) p = p.1 x.0 x.1 x.2.0 x.2.1

  abbrev Marks : Type 0
  Marks = MarksFit (Runs q (length σ)) (OnePends σ q (length σ)) (OneSpends σ q (length σ)) b c

  module _ (nf : ¬ (Finished σ q)) where
    under : GoodEntry σ row → UnderWay σ q
    under g = ⊎_elim (λ x. absurd (nf x.0)) (λ u. u) g.order.state

    -- the tick leads to a late state
    late_next : (i : ℕ) → Names σ i → 1 ≤ status q i → status q i ≤ 2 → (job σ i).arrives + (job σ i).due ≤ q.now → Late σ (next σ q tick)
    late_next i h a o p = told_yes (is_late σ (next σ q tick)) (sym (due_late σ q nf) ∙ is_true (is_due σ q) (i, h, (a, o, p)))

    next_late : Late σ (next σ q tick) → (i : ℕ) × Names σ i × ((1 ≤ status q i) × (status q i ≤ 2) × ((job σ i).arrives + (job σ i).due ≤ q.now))
    next_late x = told_yes (is_due σ q) (due_late σ q nf ∙ is_true (is_late σ (next σ q tick)) x)

    pub fit_right : GoodEntry σ row → JobsFit σ q b c (length σ)
    fit_right g = record {
      each = λ i h.
          let t = (under g).timely i h in
          record {
            timely = record { waits = t.waits; came = t.came; runs = t.runs; ended = t.ended };
            in_time = λ a o. not_past (λ p. (under g).in_time (i, record { names = h; arrived = a; unfinished = o; past = p }));
            soon = λ e a o. not_soon (λ p. g.marks.opens e (late_next i h a o p));
            ready = λ s. (g.marks.ready i (omega arith) s).1;
          };
      alone = λ i m h k z o. (under g).one_runs i m h k z o;
    }
      where
        not_past : {x y : ℕ} → ¬ (x < y) → y ≤ x
        not_past {x} {y} f = omega arith

        not_soon : {x y : ℕ} → ¬ (x ≤ y) → y < x
        not_soon {x} {y} f = omega arith

    pub rest_right : GoodEntry σ row → ¬ (Runs q (length σ)) → q.elapsed ≡ 0
    rest_right g n = (under g).rests (λ i h e. n (i, h, e))

    idle_right : GoodEntry σ row → Runs q (length σ) ⊎ OnePends σ q (length σ) → b ≡ 0
    idle_right g h = go (ℕ_discrete b 0)
      where
        not_now : {i : ℕ} → Possible σ q (start i) → Runs q (length σ) ⊎ OnePends σ q (length σ) → ⊥
        not_now p (inl r) = p.2 r.0 r.1 r.2
        not_now p (inr x) = p.3 x.0 (x.1, x.2.0, x.2.1)

        go : Dec (b ≡ 0) → b ≡ 0
        go (yes e) = e
        go (no n) = let x = byte_some b g.fits.1 n in absurd (not_now (g.marks.ready x.0 x.1 x.2) h)

    marks_right : GoodEntry σ row → Marks
    marks_right g = record { idle = idle_right g; none = λ h. g.marks.some (stops h); some = λ n. two (λ z. g.marks.none z (goes n)) (ℕ_discrete c 2) }
      where
        two : c ≢ 0 → Dec (c ≡ 2) → (c ≡ 1) ⊎ ((c ≡ 2) × (1 ≤ b))
        two z (yes e) = inr (e, g.marks.held e)
        two z (no n) = inl (omega (arith, g.marks.known))

    good_right : w < 2 ^ 32 → b < 256 → Ends (length σ) q b → JobsFit σ q b c (length σ) → (¬ (Runs q (length σ)) → q.elapsed ≡ 0) → Dec Held → Marks → GoodEntry σ row
    good_right small byte e f rest dh marks = record {
      fits = (small, byte);
      order = record {
        past = e.statuses;
        state =
            inr (record {
              not_done = nf;
              one_runs = f.alone;
              rests = λ n. rest (λ r. n r.0 r.1 r.2);
              timely = timely;
              in_time = λ x. late x.0
                  x.1.names x.1.arrived x.1.unfinished x.1.past;
            });
      };
      marks = record {
        ready = ready;
        none = λ z. none z dh;
        some = λ n. some n dh;
        known = known dh;
        held = λ z. held z dh;
        opens = λ z x. let y = next_late x in omega (arith, (f.each y.0 y.1).soon z y.2.0 y.2.1, y.2.2);
      };
    }
      where
        timely : (i : ℕ) → Names σ i → Timely (job σ i) q (status q i)
        timely i h = let t = (f.each i h).timely in record { waits = t.waits; came = t.came; runs = t.runs; ended = t.ended }

        late : (i : ℕ) → Names σ i → 1 ≤ status q i → status q i ≤ 2 → (job σ i).arrives + (job σ i).due < q.now → ⊥
        late i h a o p = omega (arith, (f.each i h).in_time a o)

        ready : (i : ℕ) → In 8 i → Has b i → Possible σ q (start i)
        ready i h s = here (dec_le i (length σ))
          where
            free : ¬ (Runs q (length σ) ⊎ OnePends σ q (length σ))
            free r = omega (arith, zero-div (2 ^ (i - 1)), rw (marks.idle r) at s)

            here : Dec (i ≤ length σ) → Possible σ q (start i)
            here (yes l) = ((h.0, l), (f.each i (h.0, l)).ready s, (λ j k r. free (inl (j, k, r))), λ j x. free (inr (j, x.0, (x.1, x.2))))
            here (no l) = absurd (e.bits i h (omega arith) s)

        none : c ≡ 0 → Dec Held → ¬ (Possible σ q tick)
        none z (yes h) = stops h
        none z (no n) = absurd (⊎_elim (λ x. omega arith) (λ x. omega (arith, x.0)) (marks.some n))

        some : ¬ (Possible σ q tick) → Dec Held → c ≡ 0
        some n (yes h) = marks.none h
        some n (no m) = absurd (n (goes m))

        known : Dec Held → c ≤ 2
        known (yes h) = omega (arith, marks.none h)
        known (no n) = ⊎_elim (λ x. omega arith) (λ x. omega (arith, x.0)) (marks.some n)

        held : c ≡ 2 → Dec Held → 1 ≤ b
        held z (yes h) = absurd (omega (arith, marks.none h))
        held z (no n) = ⊎_elim (λ x. absurd (omega arith)) (λ x. x.1) (marks.some n)

    -- the answer of the last test is the answer
    pub row_is : {running pending spent r : Bool} → w < 2 ^ 32 → b < 256 → Ends (length σ) q b → JobsFit σ q b c (length σ) → (¬ (Runs q (length σ)) → q.elapsed ≡ 0)
        → Is running (Runs q (length σ)) → Is pending (OnePends σ q (length σ)) → Is spent (OneSpends σ q (length σ))
        → Is r (MarksFit (running ≡ true) (pending ≡ true) (spent ≡ true) b c) → Is r (GoodEntry σ row)
    row_is {running} {pending} {spent} {r} small byte e f rest ir ip is im = is_map (λ m. good_right small byte e f rest (is_dec (is_or ip is)) (up m)) (λ g. down (marks_right g)) im
      where
        either : {A B C D : Type 0} → (A → C) → (B → D) → A ⊎ B → C ⊎ D
        either g h (inl a) = inl (g a)
        either g h (inr b) = inr (h b)

        up : MarksFit (running ≡ true) (pending ≡ true) (spent ≡ true) b c → Marks
        up m =
            record {
              idle = λ y. m.idle (either (is_true ir) (is_true ip) y);
              none = λ y. m.none (either (is_true ip) (is_true is) y);
              some = λ n. m.some
                  (λ d. n (either (told_yes ip) (told_yes is) d));
            }

        down : Marks → MarksFit (running ≡ true) (pending ≡ true) (spent ≡ true) b c
        down m =
            record {
              idle = λ d. m.idle (either (told_yes ir) (told_yes ip) d);
              none = λ d. m.none
                  (either (told_yes ip) (told_yes is) d);
              some = λ n. m.some (λ y. n (either (is_true ip) (is_true is) y));
            }
