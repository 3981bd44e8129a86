-- The state word: a bound, its two round trips, and that it tells states apart. Assumes nothing.
use Rattle.std.specs.Prelude.{ℕ, zero, suc, ◌+◌, ◌*◌, ◌/◌, ◌%◌, ◌^◌, ◌<◌, ◌≤◌, ◌≡◌, refl, List, [], ◌∷◌, get_or, length}
use Rattle.std.proofs.Common.{arith, pow-suc, mul_assoc, ap, sym, ◌∙◌, lit<}
use Rattle.std.proofs.Math.Nat.{one-le-pow, pow-succ'}
use Rattle.std.proofs.Math.Arith.{mod-mul}
use Rattle.sheet.specs.Model.{State, digits_word, word, digits, state_of}
use Rattle.sheet.specs.Wordy.{Wordy}

-- statuses below 4, at most k of them, make a word below 4 ^ k
pub digits_word_lt : (k : ℕ) (l : List ℕ) → length l ≤ k → ((j : ℕ) → get_or l j 0 < 4) → digits_word l < 4 ^ k
unfolding digits_word
digits_word_lt k [] h small = one-le-pow k 4 (lit< tt)
digits_word_lt zero (s ∷ l) h small = absurd (omega arith)
digits_word_lt (suc k) (s ∷ l) h small =
    let r : digits_word l < 4 ^ k = digits_word_lt k l (omega arith) (λ j. small (suc j)) in
    rw (pow-succ' 4 k) (omega (arith, small 0))

pub length_digits : (k w : ℕ) → length (digits k w) ≡ k
unfolding digits
length_digits zero w = refl
length_digits (suc k) w = ap suc (length_digits k (w / 4))

pub digits_lt : (k w j : ℕ) → get_or (digits k w) j 0 < 4
unfolding digits
digits_lt zero w j = lit< tt
digits_lt (suc k) w zero = omega arith
digits_lt (suc k) w (suc j) = digits_lt k (w / 4) j

-- the digits of a word of statuses are the statuses
pub digits_of_word : (l : List ℕ) → ((j : ℕ) → get_or l j 0 < 4) → digits (length l) (digits_word l) ≡ l
unfolding digits_word digits
digits_of_word [] small = refl
digits_of_word (s ∷ l) small =
    let m : (s + 4 * digits_word l) % 4 ≡ s = omega (arith, small 0) in
    let d : (s + 4 * digits_word l) / 4 ≡ digits_word l = omega (arith, small 0) in
    rw (m, d) (ap (λ (x : List ℕ). s ∷ x) (digits_of_word l (λ j. small (suc j))))

-- the word of a number's first k digits is its remainder by 4 ^ k
pub word_of_digits : (k w : ℕ) → digits_word (digits k w) ≡ w % 4 ^ k
unfolding digits_word digits
word_of_digits zero w = omega arith
word_of_digits (suc k) w =
    let r : digits_word (digits k (w / 4)) ≡ w / 4 % 4 ^ k = word_of_digits k (w / 4) in
    let m : w % (4 ^ k * 4) ≡ (w / 4 % 4 ^ k) * 4 + w % 4 = mod-mul w (one-le-pow k 4 (lit< tt)) (lit< tt) in
    rw (r, pow-suc 4 k, m) (omega arith)

-- what stands above the first k digits does not change them
pub digits_below : (k h v : ℕ) → digits k (h * 4 ^ k + v) ≡ digits k v
unfolding digits
digits_below zero h v = refl
digits_below (suc k) h v =
    let e : h * 4 ^ suc k + v ≡ (h * 4 ^ k) * 4 + v = rw (pow-suc 4 k, mul_assoc) in
    let a : ((h * 4 ^ k) * 4 + v) % 4 ≡ v % 4 = omega arith in
    let b : ((h * 4 ^ k) * 4 + v) / 4 ≡ h * 4 ^ k + v / 4 = omega arith in
    rw (e, a, b, digits_below k h (v / 4)) refl

-- the word of the state of a word is the word
pub word_of_state : (w : ℕ) → w < 2 ^ 32 → word (state_of w) ≡ w
word_of_state w h = rw (word_of_digits 8 w) (omega arith)

module _ (q : State) (f : Wordy q) where
  statuses_lt : digits_word q.statuses < 65536
  statuses_lt = digits_word_lt 8 q.statuses (omega (arith, f.eight)) f.statuses_fit

  pub word_lt : word q < 2 ^ 32
  word_lt = omega (arith, statuses_lt, f.now_fits, f.elapsed_fits)

  -- the state of the word of a state is the state
  pub state_of_word : state_of (word q) ≡ q
  state_of_word =
      let l = q.statuses in
      let low = statuses_lt in
      let a : word q / 2 ^ 24 ≡ q.now = omega (arith, f.elapsed_fits) in
      let b : word q / 2 ^ 16 % 256 ≡ q.elapsed = omega (arith, f.elapsed_fits) in
      let e : word q ≡ (q.now * 256 + q.elapsed) * 4 ^ 8 + digits_word l = omega arith in
      let d : digits 8 (word q) ≡ l = rw (e, digits_below 8 (q.now * 256 + q.elapsed) (digits_word l)) (rw f.eight at (digits_of_word l f.statuses_fit)) in
      λ i. record { now = a i; elapsed = b i; statuses = d i }

-- two states with one word are one state
pub word_one : (q r : State) → Wordy q → Wordy r → word q ≡ word r → q ≡ r
word_one q r f g e = sym (state_of_word q f) ∙ ap state_of e ∙ state_of_word r g
