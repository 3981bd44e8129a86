-- The leeway as a whole number: its steps, its range with both ends met, and what leeway replies. Assumes nothing.
use Rattle.std.specs.Prelude.{ℕ, zero, suc, ◌+◌, ◌-◌, ◌≤◌, ◌<◌, ◌≡◌, refl, Bool, true, false, cond, ◌||◌, List, [], ◌∷◌, eqb, ltb, ℤ, pos, negsuc, ◌-ℤ◌, length, ◌≤ℤ◌, None, Some}
use Rattle.std.proofs.Common.{arith, ap, le→leb, SFits, le-ltb, le-leb, eq-eqb, ne_eqb}
use Rattle.std.specs.Int.Signed.{mag}
use Rattle.std.specs.Int.{w32}
use Rattle.std.proofs.lemmas.Bool.{lt-leb}
use Rattle.plant.specs.Reflect.{is_le, is_and, is_true, is_false}
use Rattle.sheet.specs.declared.Job.{Job}
use Rattle.sheet.specs.Model.{Sheet, Names, job, GoodJob, status, state_of}
use Rattle.sheet.specs.ModelTests.{named}
use Rattle.sheet.specs.Table.{Entry}
use Rattle.table.specs.Reading.{good}
use Rattle.table.specs.Places.{Finds}
use Rattle.table.specs.Replies.{ticks_left, is_row, no_leeway, leeway_reply}

pub sub_nonneg : (m n : ℕ) → n ≤ m → pos m -ℤ pos n ≡ pos (m - n)
sub_nonneg m zero h = ap pos (omega arith)
sub_nonneg m (suc n) h = rw (le-ltb m (suc n) h)

mag_cond : (b : Bool) (x y k : ℕ) → x < k → y < k → mag (cond b (negsuc x) (pos y)) < k
mag_cond true x y k h g = h
mag_cond false x y k h g = g

-- the difference of a number below k and one at most k is in the range of k
pub mag_sub : (m n k : ℕ) → m < k → n ≤ k → mag (pos m -ℤ pos n) < k
mag_sub m zero k h g = omega arith
mag_sub m (suc n) k h g = mag_cond (ltb m (suc n)) (suc n - suc m) (m - suc n) k (omega arith) (omega arith)

-- so the leeway fits in 32 bits with a sign
pub left_fits : (a d w now : ℕ) → a + d ≤ 255 → w ≤ d → now ≤ 255 → SFits w32 (ticks_left a d w now)
left_fits a d w now h l m = record { sfits = rw (sub_nonneg (a + d) w (omega arith)) (mag_sub (a + d - w) now 2147483648 (omega arith) (omega arith)) }

le_cond : (b : Bool) (x y l u : ℕ) → x ≤ l → y ≤ u → (negsuc l ≤ℤ cond b (negsuc x) (pos y)) × (cond b (negsuc x) (pos y) ≤ℤ pos u)
le_cond true x y l u h g = (record { le = le→leb x l h }, record { le = tt })
le_cond false x y l u h g = (record { le = tt }, record { le = le→leb y u g })

sub_range : (m n u l : ℕ) → m ≤ u → n ≤ l + 1 → (negsuc l ≤ℤ (pos m -ℤ pos n)) × ((pos m -ℤ pos n) ≤ℤ pos u)
sub_range m zero u l h g = (record { le = tt }, record { le = le→leb (m + 0) u (omega arith) })
sub_range m (suc n) u l h g = le_cond (ltb m (suc n)) (suc n - suc m) (m - suc n) l u (omega arith) (omega arith)

-- "from −255 to 254"
pub leeway_range : (j : Job) (now : ℕ) → GoodJob j → now ≤ 255 → (negsuc 254 ≤ℤ ticks_left j.arrives j.due j.most now) × (ticks_left j.arrives j.due j.most now ≤ℤ pos 254)
leeway_range j now g h =
    let a = g.early in
    let b = g.fits in
    let c = g.ordered in
    let d = g.some_ticks in
    rw (sub_nonneg (j.arrives + j.due) j.most (omega arith)) (sub_range (j.arrives + j.due - j.most) now 254 254 (omega arith) (omega arith))

-- both ends are met by jobs of good form, and zero is zero
pub highest : ticks_left 0 255 1 0 ≡ pos 254
highest = refl

pub lowest : ticks_left 0 1 1 255 ≡ negsuc 254
lowest = refl

pub even : ticks_left 0 7 4 3 ≡ pos 0
even = refl

-- The reply ------------------------------------------------------------------------------------------------------------

no_row : (w : ℕ) (rows : List Entry) → Finds rows w None → is_row w rows ≡ false
unfolding is_row
no_row w [] f = refl
no_row w (e ∷ rows) f = rw (ne_eqb e.word w (f 0 (omega arith))) (no_row w rows (λ i h. f (suc i) (omega arith)))

some_row : (w : ℕ) (rows : List Entry) (i : ℕ) → Finds rows w (Some i) → is_row w rows ≡ true
unfolding is_row
some_row w [] i f = absurd (omega (arith, f.0))
some_row w (e ∷ rows) zero f = rw (eq-eqb e.word w f.1) refl
some_row w (e ∷ rows) (suc i) f = rw (some_row w rows i (omega (arith, f.0), f.1)) (either e.word w)
  where
    either : (m n : ℕ) → eqb m n || true ≡ true
    either m n = go (eqb m n)
      where
        go : (b : Bool) → b || true ≡ true
        go true = refl
        go false = refl

module _ (σ : Sheet) (rows : List Entry) (w k : ℕ) where
  yes_named : Names σ k → named σ k ≡ true
  yes_named h = is_true (is_and (is_le 1 k) (is_le k (length σ))) (h.0, h.1)

  pub leeway_nine : ¬ (Names σ k) → no_leeway 9 0 ≡ leeway_reply w k (good σ rows)
  leeway_nine n = rw (is_false (is_and (is_le 1 k) (is_le k (length σ))) n) refl

  pub leeway_eight : Names σ k → Finds rows w None → no_leeway 8 0 ≡ leeway_reply w k (good σ rows)
  leeway_eight h f = rw (yes_named h, no_row w rows f) refl

  module _ (h : Names σ k) (i : ℕ) (f : Finds rows w (Some i)) where
    pub leeway_twelve : 2 ≤ status (state_of w) k → no_leeway 12 0 ≡ leeway_reply w k (good σ rows)
    leeway_twelve l = rw (yes_named h, some_row w rows i f, le-leb 2 (status (state_of w) k) l) refl

    pub leeway_told : status (state_of w) k < 2 → (t : ℤ) → t ≡ ticks_left (job σ k).arrives (job σ k).due (job σ k).most (state_of w).now
        → record { number = 0; detail = 0; leeway = t } ≡ leeway_reply w k (good σ rows)
    leeway_told l t e = rw (yes_named h, some_row w rows i f, lt-leb 2 (status (state_of w) k) l, e) refl
