-- What `lowest` finds, and that `lowest_bad` is 0 exactly if the sheet is good. Assumes nothing.
use Prim.Native.Nat.{ℕ, zero, suc, ◌+◌, ◌-◌, ◌≤◌, ◌<◌}
use Rattle.std.proofs.Common.{arith, subst}
use Rattle.std.proofs.Math.Decide.{ℕ_discrete, dec_lt}
use Rattle.std.specs.Prelude.{◌≡◌, ◌↔◌, Bool, cond, length, get_or, eqb}
use Rattle.std.proofs.Math.Bool.{true, false}
use Rattle.std.proofs.Math.Dec.{eqb-suc-zero}
use Rattle.plant.specs.Range.{In}
use Rattle.plant.specs.Reflect.{Is, is_map, is_le, is_and, is_and3, is_not, is_dec, stable}
use Rattle.sheet.specs.declared.Job.{Job}
use Rattle.sheet.specs.Model.{Sheet, no_job, job, GoodJob, Good}
use Rattle.state.specs.Lowest.{lowest, good, lowest_bad}

-- `r` is the lowest of 1, .., n of which `P` holds, or 0 and there is none
pub record LowestOf (n : ℕ) (P : ℕ → Type 0) (r : ℕ) : Type 0 where
  pub within : r ≤ n
  pub holds : 1 ≤ r → P r
  pub below : (i : ℕ) → 1 ≤ i → i < r → ¬ (P i)
  pub none : r ≡ 0 → (i : ℕ) → In n i → ¬ (P i)

pub lowest_one : {n r t : ℕ} {P : ℕ → Type 0} → LowestOf n P r → LowestOf n P t → r ≡ t
lowest_one {n} {r} {t} {P} f g = go (dec_lt r t) (dec_lt t r)
  where
    not_lower : (r t : ℕ) → LowestOf n P r → LowestOf n P t → r < t → ⊥
    not_lower zero t f g h = f.none (omega arith) t (omega (arith, g.within)) (g.holds (omega arith))
    not_lower (suc r) t f g h = g.below (suc r) (omega arith) h (f.holds (omega arith))

    go : Dec (r < t) → Dec (t < r) → r ≡ t
    go (yes h) d = absurd (not_lower r t f g h)
    go (no h) (yes k) = absurd (not_lower t r g f k)
    go (no h) (no k) = omega arith

module _ {p : ℕ → Bool} {P : ℕ → Type 0} (is : (i : ℕ) → Is (p i) (P i)) where
  pub is_lowest : (n : ℕ) → LowestOf n P (lowest n p)
  unfolding lowest
  is_lowest zero = record { within = omega arith; holds = λ h. absurd (omega arith); below = λ i a h. absurd (omega arith); none = λ e i h. absurd (omega arith) }
  is_lowest (suc n) = go (lowest n p) (p (suc n)) (is_lowest n) (is (suc n))
    where
      go : (m : ℕ) (b : Bool) → LowestOf n P m → Is b (P (suc n)) → LowestOf (suc n) P (cond (eqb m 0) (cond b (suc n) 0) m)
      go zero true f y = record { within = omega arith; holds = λ h. y.holds tt; below = λ i a h. f.none (omega arith) i (omega arith); none = λ e. absurd (omega arith) }
      go zero false f y = record { within = omega arith; holds = λ h. absurd (omega arith); below = λ i a h. absurd (omega arith); none = λ e i h. other i h (ℕ_discrete i (suc n)) }
        where
          other : (i : ℕ) → In (suc n) i → Dec (i ≡ suc n) → ¬ (P i)
          other i h (yes e) x = y.passes (subst P e x)
          other i h (no e) x = f.none (omega arith) i (omega arith) x
      go (suc m) b f y = rw (eqb-suc-zero m) (record { within = omega (arith, f.within); holds = f.holds; below = f.below; none = λ e. absurd (omega arith) })

pub is_good : (j : Job) → Is (good j) (GoodJob j)
is_good j =
    is_map
    (λ w. record { some_ticks = w.0; ordered = w.1; fits = w.2.0; early = w.2.1 })
    (λ g. (g.some_ticks, g.ordered, (g.fits, g.early)))
    (is_and3 (is_le 1 j.fewest) (is_le j.fewest j.most) (is_and (is_le j.most j.due) (is_le (j.arrives + j.due) 255)))

-- what `lowest_bad` says
pub is_lowest_bad : (σ : Sheet) → LowestOf (length σ) (λ i. ¬ (GoodJob (job σ i))) (lowest_bad σ)
is_lowest_bad σ = is_lowest (λ i. is_not (is_good (job σ i))) (length σ)

pub good_sheet : (σ : Sheet) → 1 ≤ length σ → length σ ≤ 8 → lowest_bad σ ≡ 0 ↔ Good σ
good_sheet σ a b = (to, from)
  where
    to : lowest_bad σ ≡ 0 → Good σ
    to e = record { some_job = a; few_jobs = b; each = λ i h. stable (is_dec (is_good (job σ i))) ((is_lowest_bad σ).none e i h) }

    all_good : Good σ → LowestOf (length σ) (λ i. ¬ (GoodJob (job σ i))) 0
    all_good g = record { within = omega arith; holds = λ h. absurd (omega arith); below = λ i c h. absurd (omega arith); none = λ e i h n. n (g.each i h) }

    from : Good σ → lowest_bad σ ≡ 0
    from g = lowest_one (is_lowest_bad σ) (all_good g)

-- the two answers of a search from the first job on, where jobs are counted from 0
module _ (σ : Sheet) where
  abbrev GoodAt : ℕ → Type 0
  GoodAt k = GoodJob (get_or σ k no_job)

  pub bad_at : (k : ℕ) → k < length σ → ((i : ℕ) → i < k → GoodAt i) → ¬ (GoodAt k) → lowest_bad σ ≡ k + 1
  bad_at k h f b = lowest_one (is_lowest_bad σ) found
    where
      found : LowestOf (length σ) (λ i. ¬ (GoodJob (job σ i))) (k + 1)
      found = record {
        within = omega arith;
        holds = λ a. let e : k + 1 - 1 ≡ k = omega arith in rw e b;
        below = λ i a l m. m (f (i - 1) (omega arith));
        none = λ e. absurd (omega arith);
      }

  pub none_bad : ((i : ℕ) → i < length σ → GoodAt i) → lowest_bad σ ≡ 0
  none_bad f = lowest_one (is_lowest_bad σ) found
    where
      found : LowestOf (length σ) (λ i. ¬ (GoodJob (job σ i))) 0
      found = record {
        within = omega arith;
        holds = λ a. absurd (omega arith);
        below = λ i a h. absurd (omega arith);
        none = λ e i h m. m (f (i - 1) (omega arith));
      }
