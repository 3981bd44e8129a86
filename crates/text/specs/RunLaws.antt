-- Numbers one after the other: a text has at most one reading, and lines of four are such a run. Assumes nothing.
use Rattle.std.specs.Prelude.{ℕ, suc, ◌+◌, ◌%◌, ◌<◌, ◌≡◌, refl, List, [], ◌∷◌, ◌++◌, length, get_or, drop}
use Rattle.std.proofs.Common.{arith, add-zero, sym, ap, subst, ◌∙◌, append_assoc, length-append, eq-eqb, ne_eqb}
use Rattle.std.proofs.Math.Decide.{ℕ_discrete}
use Rattle.lines.specs.Digits.{Digit}
use Rattle.lines.specs.Lines.{space, line_end}
use Rattle.text.specs.Fields.{ending, run, Numbers}

-- The byte behind a number --------------------------------------------------------------------------------------------

pub ending_line : (k : ℕ) → k % 4 ≡ 3 → ending k ≡ line_end
ending_line k h = rw (eq-eqb (k % 4) 3 h) refl

pub ending_space : (k : ℕ) → ¬ (k % 4 ≡ 3) → ending k ≡ space
ending_space k h = rw (ne_eqb (k % 4) 3 h) refl

pub ending_other : (k : ℕ) → ¬ (Digit (ending k))
ending_other k = go (ℕ_discrete (k % 4) 3)
  where
    go : Dec (k % 4 ≡ 3) → ¬ (Digit (ending k))
    go (yes h) d = omega (arith, ending_line k h)
    go (no h) d = omega (arith, ending_space k h)

-- One reading ---------------------------------------------------------------------------------------------------------

-- digits with one other byte behind them: the digits are the same, and what follows
same_number : (e : ℕ) → ¬ (Digit e) → (s t x y : List ℕ) → ((i : ℕ) → i < length s → Digit (get_or s i 0)) → ((i : ℕ) → i < length t → Digit (get_or t i 0))
    → s ++ (e ∷ x) ≡ t ++ (e ∷ y) → (s ≡ t) × (x ≡ y)
same_number e n [] [] x y f g q = (refl, ap (λ (l : List ℕ). drop 1 l) q)
same_number e n [] (b ∷ t) x y f g q = absurd (n (subst (λ (c : ℕ). Digit c) (sym (ap (λ (l : List ℕ). get_or l 0 0) q)) (g 0 (omega arith))))
same_number e n (a ∷ s) [] x y f g q = absurd (n (subst (λ (c : ℕ). Digit c) (ap (λ (l : List ℕ). get_or l 0 0) q) (f 0 (omega arith))))
same_number e n (a ∷ s) (b ∷ t) x y f g q =
    let r = same_number e n s t x y (λ i h. f (suc i) (omega arith)) (λ i h. g (suc i) (omega arith)) (ap (λ (l : List ℕ). drop 1 l) q) in
    let h : a ≡ b = ap (λ (l : List ℕ). get_or l 0 0) q in
    ((λ i. h i ∷ r.0 i), r.1)

-- what follows the numbers `l` in a run
pub record GoesOn (k : ℕ) (l m : List (List ℕ)) (rest : List ℕ) : Type 0 where
  pub others : List (List ℕ)
  pub all : m ≡ l ++ others
  pub each : Numbers others
  pub follows : rest ≡ run (k + length l) others

-- a run that begins with the numbers `l` goes on with numbers
pub goes_on : (k : ℕ) (l m : List (List ℕ)) (rest : List ℕ) → Numbers l → Numbers m → run k l ++ rest ≡ run k m → GoesOn k l m rest
unfolding run
goes_on k [] m rest f g q = record { others = m; all = refl; each = g; follows = q ∙ ap (λ (j : ℕ). run j m) (sym (add-zero k)) }
goes_on k (s ∷ l) [] rest f g q = absurd (omega (arith, ap length q, length-append (s ++ (ending k ∷ run (suc k) l)) rest, length-append s (ending k ∷ run (suc k) l)))
goes_on k (s ∷ l) (t ∷ m) rest f g q =
    let a : s ++ (ending k ∷ (run (suc k) l ++ rest)) ≡ t ++ (ending k ∷ run (suc k) m) = sym (append_assoc s (ending k ∷ run (suc k) l) rest) ∙ q in
    let b = same_number (ending k) (ending_other k) s t (run (suc k) l ++ rest) (run (suc k) m) f.0.digits g.0.digits a in
    let r = goes_on (suc k) l m rest f.1 g.1 b.1 in
    let e : suc k + length l ≡ k + suc (length l) = omega arith in
    record { others = r.others; all = λ i. sym b.0 i ∷ r.all i; each = r.each; follows = r.follows ∙ ap (λ (j : ℕ). run j r.others) e }

pub run_snoc : (k : ℕ) (l : List (List ℕ)) (s : List ℕ) → run k (l ++ (s ∷ [])) ≡ run k l ++ (s ++ (ending (k + length l) ∷ []))
unfolding run
run_snoc k [] s = rw (add-zero k) refl
run_snoc k (t ∷ l) s =
    let e : suc k + length l ≡ k + suc (length l) = omega arith in
    rw (run_snoc (suc k) l s, e) (sym (append_assoc t (ending k ∷ run (suc k) l) (s ++ (ending (k + suc (length l)) ∷ []))))
