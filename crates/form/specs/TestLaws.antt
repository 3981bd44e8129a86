-- The row's tests that need no loop say what they should: one job, the marks. Assumes nothing.
use Rattle.std.specs.Prelude.{ℕ, ◌+◌, ◌≤◌, ◌≡◌, refl, ◌≢◌, ◌⊎◌, Bool, true, false, not, ◌&&◌, ◌||◌, T, eqb, leb}
use Rattle.std.proofs.Common.{arith, sym, ap, subst, inl, inr}
use mir.Val.{bool_byte}
use Rattle.plant.specs.Search.{T_or, or_T}
use Rattle.plant.specs.Reflect.{Is, is_map, is_le, is_eq, is_and, is_not, is_dec, stable}
use Rattle.sheet.specs.declared.Job.{Job}
use Rattle.state.specs.Tell.{tell_no, told_yes, told_no}
use Rattle.form.specs.RowTest.{JobFits, MarksFit}

pub is_or : {a b : Bool} {P Q : Type 0} → Is a P → Is b Q → Is (a || b) (P ⊎ Q)
is_or {a} {b} {P} {Q} r s = record { holds = λ t. to (T_or a b t); passes = λ w. or_T a b (from w) }
  where
    to : T a ⊎ T b → P ⊎ Q
    to (inl x) = inl (r.holds x)
    to (inr y) = inr (s.holds y)

    from : P ⊎ Q → T a ⊎ T b
    from (inl p) = inl (r.passes p)
    from (inr q) = inr (s.passes q)

is_self : (b : Bool) → Is b (b ≡ true)
is_self true = record { holds = λ _. refl; passes = λ _. tt }
is_self false = record { holds = λ t. absurd t; passes = λ e. subst T (sym e) tt }

-- the rule that each status asks of a job
module _ (j : Job) (now elapsed s : ℕ) (marked opens : Bool) where
  abbrev Fits : Type 0
  Fits = JobFits j now elapsed s (marked ≡ true) (opens ≡ true)

  one : opens ≡ true → bool_byte opens ≡ 1
  one e = ap bool_byte e

  -- not late, and not late after an open tick
  in_time : Fits → 1 ≤ s → s ≤ 2 → now + bool_byte opens ≤ j.arrives + j.due
  in_time f a o = go opens refl
    where
      go : (b : Bool) → b ≡ opens → now + bool_byte b ≤ j.arrives + j.due
      go true e = omega (arith, f.soon (sym e) a o)
      go false e = omega (arith, f.in_time a o)

  pub fits_ready : s ≡ 1 → Is (leb j.arrives now && leb (now + bool_byte opens) (j.arrives + j.due)) Fits
  fits_ready e =
      is_map
      (λ x. record {
        timely = record { waits = omega (arith, e); came = λ _. x.0; runs = omega (arith, e); ended = omega (arith, e) };
        in_time = λ _ _. omega (arith, x.1);
        soon = λ d _ _. omega (arith, x.1, one d);
        ready = λ _. e;
      })
      (λ f. (f.timely.came (omega arith), in_time f (omega arith) (omega arith)))
      (is_and (is_le j.arrives now) (is_le (now + bool_byte opens) (j.arrives + j.due)))

  pub fits_marked : s ≢ 1 → marked ≡ true → ¬ Fits
  fits_marked n m f = n (f.ready m)

  module _ (u : marked ≡ false) where
    unmarked : ¬ (marked ≡ true)
    unmarked = told_no (is_self marked) u

    pub fits_waiting : s ≡ 0 → Is (leb now j.arrives) Fits
    fits_waiting e =
        is_map
        (λ x. record {
          timely = record { waits = λ _. x; came = omega (arith, e); runs = omega (arith, e); ended = omega (arith, e) };
          in_time = omega (arith, e);
          soon = λ _. omega (arith, e);
          ready = λ m. absurd (unmarked m);
        })
        (λ f. f.timely.waits e)
        (is_le now j.arrives)

    pub fits_done : s ≡ 3 → Is (leb (j.arrives + j.fewest) now) Fits
    fits_done e =
        is_map
        (λ x. record {
          timely = record { waits = omega (arith, e); came = λ _. omega (arith, x); runs = omega (arith, e); ended = λ _. x };
          in_time = omega (arith, e);
          soon = λ _. omega (arith, e);
          ready = λ m. absurd (unmarked m);
        })
        (λ f. f.timely.ended e)
        (is_le (j.arrives + j.fewest) now)

    pub fits_running : s ≡ 2 → Is (leb (now + bool_byte opens) (j.arrives + j.due) && (leb elapsed j.most && leb (j.arrives + elapsed) now)) Fits
    fits_running e =
        is_map
        (λ x. record {
          timely = record { waits = omega (arith, e); came = λ _. omega (arith, x.1.1); runs = λ _. x.1; ended = omega (arith, e) };
          in_time = λ _ _. omega (arith, x.0);
          soon = λ d _ _. omega (arith, x.0, one d);
          ready = λ m. absurd (unmarked m);
        })
        (λ f. (in_time f (omega arith) (omega arith), f.timely.runs e))
        (is_and (is_le (now + bool_byte opens) (j.arrives + j.due)) (is_and (is_le elapsed j.most) (is_le (j.arrives + elapsed) now)))

-- the marks where a start is marked that may not be, where the tick is not possible, and where it is
module _ (running pending spent : Bool) (b c : ℕ) where
  abbrev Marks : Type 0
  Marks = MarksFit (running ≡ true) (pending ≡ true) (spent ≡ true) b c

  is_marked : Is ((running || pending) && not (eqb b 0)) (((running ≡ true) ⊎ (pending ≡ true)) × (b ≢ 0))
  is_marked = is_and (is_or (is_self running) (is_self pending)) (is_not (is_eq b 0))

  is_held : Is (pending || spent) ((pending ≡ true) ⊎ (spent ≡ true))
  is_held = is_or (is_self pending) (is_self spent)

  pub marks_start : (running || pending) && not (eqb b 0) ≡ true → Is false Marks
  marks_start t = let x = told_yes is_marked t in tell_no (λ m. x.1 (m.idle x.0))

  module _ (l : (running || pending) && not (eqb b 0) ≡ false) where
    idle : (running ≡ true) ⊎ (pending ≡ true) → b ≡ 0
    idle y = stable (is_dec (is_eq b 0)) (λ n. told_no is_marked l (y, n))

    pub marks_none : pending || spent ≡ true → Is (eqb c 0) Marks
    marks_none e = let h = told_yes is_held e in is_map (λ z. record { idle = idle; none = λ _. z; some = λ n. absurd (n h) }) (λ m. m.none h) (is_eq c 0)

    pub marks_some : pending || spent ≡ false → Is (eqb c 1 || (eqb c 2 && not (eqb b 0))) Marks
    marks_some e =
        let n = told_no is_held e in
        is_map (λ x. record { idle = idle; none = λ h. absurd (n h); some = λ _. x }) (λ m. m.some n)
        (is_or (is_eq c 1) (is_and (is_eq c 2) (is_map (λ n. omega arith) (λ l e. omega arith) (is_not (is_eq b 0)))))

pub one_bit : (b : Bool) → bool_byte b ≤ 1
one_bit true = omega arith
one_bit false = omega arith
