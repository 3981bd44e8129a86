-- One job more in the pass over the jobs. Assumes nothing.
use Rattle.std.specs.Prelude.{ℕ, ◌+◌, ◌-◌, ◌≤◌, ◌<◌, ◌≡◌, ◌⊎◌, Bool, true, false, ◌&&◌, ◌||◌, length, get_or, eqb}
use Rattle.std.proofs.Common.{arith, sym, subst, ap, ◌∙◌, inl, inr}
use Rattle.std.proofs.Math.Decide.{dec_le}
use Rattle.plant.specs.Range.{In}
use Rattle.plant.specs.Marks.{Has}
use Rattle.plant.specs.Reflect.{Is, is_map, is_eq, is_and, is_true}
use Rattle.sheet.specs.declared.Job.{Job}
use Rattle.sheet.specs.Model.{Sheet, no_job, job, State, status, state_of}
use Rattle.state.specs.Tell.{tell_no, told_yes, told_no}
use Rattle.form.specs.declared.row.Passed.{Passed}
use Rattle.form.specs.RowTest.{JobFits, Pends, Spends, JobsFit, TellsOf}
use Rattle.form.specs.TestLaws.{is_or}

-- the last of 1 to k + 1, or one before
split : {P : ℕ → Type 0} (k : ℕ) → ((i : ℕ) → In k i → P i) → P (k + 1) → (i : ℕ) → In (k + 1) i → P i
split {P} k f p i h = go (dec_le i k)
  where
    go : Dec (i ≤ k) → P i
    go (yes l) = f i (h.0, l)
    go (no l) = let e : k + 1 ≡ i = omega arith in subst P e p

is_more : {a b : Bool} {P : ℕ → Type 0} (k : ℕ) → Is a ((i : ℕ) × In k i × P i) → Is b (P (k + 1)) → Is (a || b) ((i : ℕ) × In (k + 1) i × P i)
is_more {a} {b} {P} k r s = is_map to (λ w. split {P = λ i. P i → ((i : ℕ) × In k i × P i) ⊎ P (k + 1)} k (λ i h p. inl (i, h, p)) inr w.0 w.1 w.2) (is_or r s)
  where
    to : ((i : ℕ) × In k i × P i) ⊎ P (k + 1) → (i : ℕ) × In (k + 1) i × P i
    to (inl w) = (w.0, omega (arith, w.1), w.2)
    to (inr p) = (k + 1, omega arith, p)

abbrev pub none_passed : Passed
none_passed = record { running = false; pending = false; spent = false }

pub pass_none : (σ : Sheet) (q : State) (b c : ℕ) → JobsFit σ q b c 0 × TellsOf σ q 0 none_passed
pass_none σ q b c = (
  record { each = λ i h. absurd (omega arith); alone = λ i m h. absurd (omega arith) },
  record {
    running = tell_no (λ w. omega (arith, w.1));
    pending = tell_no (λ w. omega (arith, w.1));
    spent = tell_no (λ w. omega (arith, w.1));
  },
)

module _ (σ : Sheet) (w b c k : ℕ) (h : k < length σ) where
  abbrev q : State
  q = state_of w

  abbrev own : Job
  own = get_or σ k no_job

  own_is : job σ (k + 1) ≡ own
  own_is = let e : k + 1 - 1 ≡ k = omega arith in ap (λ (i : ℕ). get_or σ i no_job) e

  module _ (s : ℕ) (marked : Bool) (e : s ≡ status q (k + 1)) (m : Is marked (Has b (k + 1))) where
    abbrev Fits : Type 0
    Fits = JobFits own q.now q.elapsed s (marked ≡ true) (eqb c 1 ≡ true)

    abbrev FitsToo : Type 0
    FitsToo = JobFits (job σ (k + 1)) q.now q.elapsed (status q (k + 1)) (Has b (k + 1)) (c ≡ 1)

    fits_here : Fits → FitsToo
    fits_here f = rw (own_is, ← e) (record { timely = f.timely; in_time = f.in_time; soon = λ d. f.soon (is_true (is_eq c 1) d); ready = λ d. f.ready (is_true m d) })

    here_fits : FitsToo → Fits
    here_fits g = let f = rw (own_is, ← e) at g in record { timely = f.timely; in_time = f.in_time; soon = λ d. f.soon (told_yes (is_eq c 1) d); ready = λ d. f.ready (told_yes m d) }

    pub not_fit : ¬ Fits → ¬ (JobsFit σ q b c (length σ))
    not_fit f g = f (here_fits (g.each (k + 1) (omega arith)))

    module _ (p : Passed) (runs : Bool) (u : Is runs (s ≡ 2)) where
      pub two_run : TellsOf σ q k p → p.running && runs ≡ true → ¬ (JobsFit σ q b c (length σ))
      two_run told t g =
          let x = told_yes (is_and told.running u) t in
          let y = x.0 in
          let i : In k y.0 = y.1 in
          let z : y.0 ≡ k + 1 = g.alone y.0 (k + 1) (omega arith) (omega arith) y.2 (sym e ∙ x.1) in
          omega arith

      pub pass_more : (comes stops : Bool) → Fits → p.running && runs ≡ false → Is comes (Pends own q.now s) → Is stops (Spends own q.elapsed s)
          → JobsFit σ q b c k × TellsOf σ q k p
          → JobsFit σ q b c (k + 1) × TellsOf σ q (k + 1) (record { running = p.running || runs; pending = p.pending || comes; spent = p.spent || stops })
      pass_more comes stops f t x y told = (
        record {
          each = split k told.0.each (fits_here f);
          alone = λ i m a d x y. alone i m (dec_le i k) (dec_le m k) a d x y;
        },
        record {
          running = is_more k told.1.running (rw (← e) u);
          pending = is_more k told.1.pending (rw (own_is, ← e) x);
          spent = is_more k told.1.spent (rw (own_is, ← e) y);
        },
      )
        where
          other : (i : ℕ) → In k i → status q i ≡ 2 → status q (k + 1) ≡ 2 → ⊥
          other i a x y = told_no (is_and told.1.running u) t ((i, a, x), e ∙ y)

          alone : (i m : ℕ) → Dec (i ≤ k) → Dec (m ≤ k) → In (k + 1) i → In (k + 1) m → status q i ≡ 2 → status q m ≡ 2 → i ≡ m
          alone i m (yes a) (yes d) u v x y = told.0.alone i m (u.0, a) (v.0, d) x y
          alone i m (yes a) (no d) u v x y = let z : m ≡ k + 1 = omega arith in absurd (other i (u.0, a) x (rw z at y))
          alone i m (no a) (yes d) u v x y = let z : i ≡ k + 1 = omega arith in absurd (other m (v.0, d) y (rw z at x))
          alone i m (no a) (no d) u v x y = omega arith
