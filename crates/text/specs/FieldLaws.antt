-- One number of a text: digits passed one after the other, and what the first other byte decides. Assumes nothing.
use Rattle.std.specs.Prelude.{ℕ, zero, suc, ◌+◌, ◌-◌, ◌*◌, ◌^◌, ◌≤◌, ◌<◌, ◌≡◌, refl, List, ◌∷◌, ◌++◌, length, get_or, take, drop}
use Rattle.std.proofs.Common.{arith, pow-suc, add-one, sym, ap, subst, ◌∙◌, length-append, take-suc, length-take-le, get_or-take}
use Rattle.std.proofs.Math.Decide.{dec_lt}
use Rattle.std.proofs.Math.ListN.{get_or-append}
use Rattle.std.proofs.Math.Seq.{split_at, get_or-append_seam}
use Rattle.lines.specs.Digits.{digit, Digit, value_on}
use Rattle.lines.specs.DigitsLaws.{value_snoc}
use Rattle.text.specs.SheetText.{Number}
use Rattle.text.specs.Fields.{Passed, Fronted}

pub passed_none : (s : List ℕ) → Passed s 0 0
unfolding value_on
passed_none s = record { few = omega arith; within = omega arith; digits = λ i h. absurd (omega arith); worth = refl; small = omega arith }

module _ (s : List ℕ) (k v : ℕ) (p : Passed s k v) where
  -- room for one digit more
  pub passed_small : k < 3 → v ≤ 99
  passed_small h = go k h p.small
    where
      go : (k : ℕ) → k < 3 → v < 10 ^ k → v ≤ 99
      go zero h m = omega arith
      go (suc zero) h m = omega arith
      go (suc (suc zero)) h m = omega arith
      go (suc (suc (suc k))) h m = absurd (omega arith)

  pub passed_more : (b : ℕ) → get_or s k 0 ≡ b → k < 3 → k < length s → Digit b → Passed s (k + 1) (10 * v + (b - digit 0))
  passed_more b e h l d = record {
    few = omega arith;
    within = omega arith;
    digits = λ i j. go i (dec_lt i k) j;
    worth = rw (add-one k, take-suc s k 0 l, value_snoc 0 (take k s) (get_or s k 0)) (rw (e, ← p.worth) refl);
    small = rw (add-one k) (let x = pow-suc 10 k in omega (arith, p.small));
  }
    where
      go : (i : ℕ) → Dec (i < k) → i < k + 1 → Digit (get_or s i 0)
      go i (yes a) j = p.digits i a
      go i (no a) j = let x : i ≡ k = omega arith in rw (x, e) d

  -- a number, with the byte that was looked for behind it
  pub passed_found : (e : ℕ) → get_or s k 0 ≡ e → 1 ≤ k → k < length s → Fronted e s k v
  passed_found e q h l = record {
    within = l;
    number = record {
      some = omega (arith, length-take-le k s p.within);
      few = omega (arith, length-take-le k s p.within, p.few);
      digits = λ i j. let x : i < k = omega (arith, length-take-le k s p.within) in rw (get_or-take k s i 0 x) (p.digits i x);
    };
    ends = split_at s k 0 l ∙ ap (λ (b : ℕ). take k s ++ (b ∷ drop (suc k) s)) q;
    worth = p.worth;
  }

  -- neither a number that ends here, nor one that goes on
  passed_nothing : (e : ℕ) → ¬ (Digit e) → (k < length s → get_or s k 0 ≡ e → k < 1) → (k < length s → Digit (get_or s k 0) → 3 ≤ k)
      → (number rest : List ℕ) → Number number → ¬ (s ≡ number ++ (e ∷ rest))
  passed_nothing e n f g number rest m q = go (dec_lt (length number) k) (dec_lt k (length number))
    where
      size : length s ≡ length number + suc (length rest)
      size = ap length q ∙ length-append number (e ∷ rest)

      -- what stands behind it is no digit
      last : get_or s (length number) 0 ≡ e
      last = ap (λ (x : List ℕ). get_or x (length number) 0) q ∙ get_or-append_seam number e rest 0

      -- and what stands in it is one
      inside : (i : ℕ) → i < length number → Digit (get_or s i 0)
      inside i h = subst (λ (b : ℕ). Digit b) (sym (ap (λ (x : List ℕ). get_or x i 0) q ∙ get_or-append number (e ∷ rest) 0 i h)) (m.digits i h)

      go : Dec (length number < k) → Dec (k < length number) → ⊥
      go (yes a) b = n (subst (λ (b : ℕ). Digit b) last (p.digits (length number) a))
      go (no a) (yes b) = omega (arith, g (omega (arith, size)) (inside k b), m.few)
      go (no a) (no b) =
          let x : length number ≡ k = omega arith in
          omega (arith, f (omega (arith, size)) (ap (λ (i : ℕ). get_or s i 0) (sym x) ∙ last), m.some)

  -- the byte that stands here is neither the one behind a number, nor one digit more
  pub passed_other : (b e : ℕ) → get_or s k 0 ≡ b → ¬ (Digit e) → (b ≡ e → k < 1) → (Digit b → 3 ≤ k)
      → (number rest : List ℕ) → Number number → ¬ (s ≡ number ++ (e ∷ rest))
  passed_other b e h n f g = passed_nothing e n (λ _ q. f (sym h ∙ q)) (λ _ d. g (subst (λ (x : ℕ). Digit x) h d))

  -- no byte stands here
  pub passed_ended : (e : ℕ) → length s ≤ k → ¬ (Digit e) → (number rest : List ℕ) → Number number → ¬ (s ≡ number ++ (e ∷ rest))
  passed_ended e h n = passed_nothing e n (λ l _. absurd (omega arith)) (λ l _. absurd (omega arith))
