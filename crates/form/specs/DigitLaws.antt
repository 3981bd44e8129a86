-- Statuses read off the word: none past the last job, all of them 3. Assumes nothing.
use Rattle.std.specs.Prelude.{ℕ, zero, suc, ◌+◌, ◌-◌, ◌*◌, ◌/◌, ◌^◌, ◌≤◌, ◌<◌, ◌≡◌, refl, List, [], ◌∷◌, length, get_or}
use Rattle.std.proofs.Common.{arith, mod-lt, div-add-mod', zero-mul, sym, ap, ◌∙◌, lit<, shr-shr}
use Rattle.std.proofs.Math.Nat.{pow-succ', one-le-pow, div-eq_of_lt, zero-div}
use Rattle.std.proofs.Math.Decide.{ℕ_discrete, dec_le}
use Rattle.std.specs.Int.Bits.{bit_and}
use Rattle.std.proofs.lemmas.Nat.{and_mask, shr_le}
use Rattle.plant.specs.Range.{In}
use Rattle.plant.specs.Marks.{Has}
use Rattle.plant.proofs.MaskLaws.{byte_some}
use Rattle.sheet.specs.Model.{digits_word, status, digits, state_of}
use Rattle.sheet.proofs.WordLaws.{digits_lt, word_of_digits}
use Rattle.state.specs.BitLaws.{four_pow}

-- a word of statuses below 4 ^ n has none from place n on
pub none_from : (n : ℕ) (l : List ℕ) → digits_word l < 4 ^ n → (j : ℕ) → n ≤ j → get_or l j 0 ≡ 0
unfolding digits_word
none_from n [] h j k = refl
none_from zero (s ∷ l) h zero k = omega arith
none_from zero (s ∷ l) h (suc j) k = none_from zero l (omega arith) j (omega arith)
none_from (suc n) (s ∷ l) h zero k = absurd (omega arith)
none_from (suc n) (s ∷ l) h (suc j) k = let g : s + 4 * digits_word l < 4 * 4 ^ n = rw (pow-succ' 4 n) at h in none_from n l (omega arith) j (omega arith)

pub from_none : (n : ℕ) (l : List ℕ) → ((j : ℕ) → get_or l j 0 < 4) → ((j : ℕ) → n ≤ j → get_or l j 0 ≡ 0) → digits_word l < 4 ^ n
unfolding digits_word
from_none n [] small z = one-le-pow n 4 (lit< tt)
from_none zero (s ∷ l) small z = omega (arith, z 0 (omega arith), from_none zero l (λ j. small (suc j)) (λ j h. z (suc j) (omega arith)))
from_none (suc n) (s ∷ l) small z = rw (pow-succ' 4 n) (omega (arith, small 0, from_none n l (λ j. small (suc j)) (λ j h. z (suc j) (omega arith))))

-- the word of n statuses 3
pub threes : (n : ℕ) (l : List ℕ) → n ≤ length l → ((j : ℕ) → get_or l j 0 < 4) → digits_word l ≡ 4 ^ n - 1 → (j : ℕ) → j < n → get_or l j 0 ≡ 3
unfolding digits_word
threes zero l h small e j k = absurd (omega arith)
threes (suc n) [] h small e j k = absurd (omega arith)
threes (suc n) (s ∷ l) h small e j k =
    let p : 1 ≤ 4 ^ n = one-le-pow n 4 (lit< tt) in
    let g : s + 4 * digits_word l ≡ 4 * 4 ^ n - 1 = rw (pow-succ' 4 n) at e in
    let a : s ≡ 3 = omega (arith, small 0) in
    go j k a (threes n l (omega arith) (λ i. small (suc i)) (omega arith))
  where
    go : (j : ℕ) → j < suc n → s ≡ 3 → ((i : ℕ) → i < n → get_or l i 0 ≡ 3) → get_or (s ∷ l) j 0 ≡ 3
    go zero k a f = a
    go (suc j) k a f = f j (omega arith)

pub of_threes : (n : ℕ) (l : List ℕ) → n ≤ length l → ((j : ℕ) → get_or l j 0 < 4) → ((j : ℕ) → j < n → get_or l j 0 ≡ 3) → ((j : ℕ) → n ≤ j → get_or l j 0 ≡ 0) → digits_word l ≡ 4 ^ n - 1
unfolding digits_word
of_threes zero l h small f z = omega (arith, from_none zero l small z)
of_threes (suc n) [] h small f z = absurd (omega arith)
of_threes (suc n) (s ∷ l) h small f z =
    let p : 1 ≤ 4 ^ n = one-le-pow n 4 (lit< tt) in
    rw (pow-succ' 4 n) (omega (arith, f 0 (omega arith), of_threes n l (omega arith) (λ j. small (suc j)) (λ j k. f (suc j) (omega arith)) (λ j k. z (suc j) (omega arith))))

-- The same of a state word, and of a byte of starts, as shifts and masks tell it ----------------------------------------

lt_of_zero : (x y : ℕ) → 1 ≤ y → x / y ≡ 0 → x < y
lt_of_zero x y p e = let z : x / y * y ≡ 0 = rw e (zero-mul y) in omega (arith, mod-lt x p, div-add-mod' x y)

module _ (n w : ℕ) where
  low : bit_and w 65535 / 2 ^ (2 * n) ≡ digits_word (digits 8 w) / 4 ^ n
  low = rw (and_mask w 16, four_pow n, word_of_digits 8 w) refl

  pub past_none : bit_and w 65535 / 2 ^ (2 * n) ≡ 0 → (i : ℕ) → n < i → status (state_of w) i ≡ 0
  past_none e i h = none_from n (digits 8 w) (lt_of_zero (digits_word (digits 8 w)) (4 ^ n) (one-le-pow n 4 (lit< tt)) (sym low ∙ e)) (i - 1) (omega arith)

  pub none_past : ((i : ℕ) → n < i → status (state_of w) i ≡ 0) → bit_and w 65535 / 2 ^ (2 * n) ≡ 0
  none_past f = low ∙ div-eq_of_lt (from_none n (digits 8 w) (digits_lt 8 w) (λ j h. let e : suc j - 1 ≡ j = omega arith in rw e at (f (suc j) (omega arith))))

pub clear_from : (n b : ℕ) → b / 2 ^ n ≡ 0 → (i : ℕ) → n < i → ¬ (Has b i)
clear_from n b e i h s =
    let d : n + (i - 1 - n) ≡ i - 1 = omega arith in
    let z : b / 2 ^ (i - 1) ≡ 0 = ap (λ (m : ℕ). b / 2 ^ m) (sym d) ∙ sym (shr-shr b n (i - 1 - n)) ∙ ap (λ (m : ℕ). m / 2 ^ (i - 1 - n)) e ∙ zero-div (2 ^ (i - 1 - n)) in
    omega arith

module _ (n b : ℕ) where
  pub clear_past : b < 256 → ((i : ℕ) → In 8 i → n < i → ¬ (Has b i)) → b / 2 ^ n ≡ 0
  clear_past byte f = go (ℕ_discrete (b / 2 ^ n) 0)
    where
      at : (k : ℕ) → 1 ≤ k → Has (b / 2 ^ n) k → Has b (n + k)
      at k h s = let d : n + (k - 1) ≡ n + k - 1 = omega arith in rw (shr-shr b n (k - 1), d) at s

      high : (i : ℕ) → Dec (i ≤ 8) → n < i → Has b i → ⊥
      high i (yes l) h s = f i (omega arith) h s
      high i (no l) h s = clear_from 8 b (omega arith) i (omega arith) s

      go : Dec (b / 2 ^ n ≡ 0) → b / 2 ^ n ≡ 0
      go (yes e) = e
      go (no z) = let x = byte_some (b / 2 ^ n) (omega (arith, shr_le b n)) z in absurd (high (n + x.0) (dec_le (n + x.0) 8) (omega (arith, x.1.0)) (at x.0 x.1.0 x.2))
