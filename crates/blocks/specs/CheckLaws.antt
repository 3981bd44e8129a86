-- The check: the bytes passed from the last down, and how large it can be. Assumes nothing.
use Rattle.std.specs.Prelude.{ℕ, zero, suc, ◌+◌, ◌-◌, ◌*◌, ◌≤◌, ◌<◌, ◌≡◌, refl, List, [], ◌∷◌, ◌++◌, length, get_or, take, drop}
use Rattle.std.proofs.Common.{arith, mul-le-mul_left, suc-mul, ap, append-nil, append_assoc, length-append, get_or-append-add, sym, ◌∙◌, length-take, drop_of_length-le, drop-cons, get_or-take}
use Rattle.blocks.specs.Sizes.{block_bytes, body_bytes, most_check}
use Rattle.blocks.specs.Bytes.{weighted, check_of, EachByte}

-- the bytes, each counted once
unfoldable pub sum_of : List ℕ → ℕ
sum_of [] = 0
sum_of (b ∷ s) = b + sum_of s

-- each counted once more
weighted_suc : (k : ℕ) (s : List ℕ) → weighted (suc k) s ≡ weighted k s + sum_of s
unfolding weighted sum_of
weighted_suc k [] = refl
weighted_suc k (b ∷ s) = rw (weighted_suc (suc k) s, suc-mul k b) (omega arith)

-- Passed from the last byte down: what is left, the sum of the bytes passed, and 1 plus their weighted sum -----------------

pub record Counted (body left : List ℕ) (sum sums : ℕ) : Type 0 where
  pub passed : List ℕ
  pub whole : body ≡ left ++ passed
  pub once : sum ≡ sum_of passed
  pub often : sums ≡ 1 + weighted 1 passed
  pub once_le : sum ≤ 255 * length passed
  pub often_le : sums ≤ 1 + 255 * body_bytes * length passed

pub counted_none : (body left : List ℕ) → left ≡ body → Counted body left 0 1
unfolding sum_of weighted
counted_none body left e = record { passed = []; whole = sym (append-nil left ∙ e); once = refl; often = refl; once_le = omega arith; often_le = omega arith }

module _ {body left : List ℕ} {sum sums : ℕ} (c : Counted body left sum sums) (l : length body ≡ body_bytes) where
  few : length left + length c.passed ≡ body_bytes
  few = omega (arith, ap length c.whole, length-append left c.passed)

  pub once_fits : sum ≤ 255 * body_bytes
  once_fits = omega (arith, few, c.once_le)

  pub often_fits : sums ≤ 1 + 255 * body_bytes * body_bytes
  often_fits = omega (arith, few, c.often_le)

-- the last byte left is passed
pub counted_more : {body left : List ℕ} {sum sums : ℕ} → Counted body left sum sums → length body ≡ body_bytes → EachByte body
    → (rest : List ℕ) (b : ℕ) → left ≡ rest ++ (b ∷ []) → Counted body rest (sum + b) (sums + (sum + b))
unfolding sum_of weighted
counted_more {body} {left} {sum} {sums} c l small rest b e =
    let w : body ≡ rest ++ (b ∷ c.passed) = c.whole ∙ ap (λ (x : List ℕ). x ++ c.passed) e ∙ append_assoc rest (b ∷ []) c.passed in
    let n : length rest + suc (length c.passed) ≡ body_bytes = omega (arith, ap length w, length-append rest (b ∷ c.passed)) in
    let at : get_or body (length rest + 0) 0 ≡ b = ap (λ (x : List ℕ). get_or x (length rest + 0) 0) w ∙ get_or-append-add rest (b ∷ c.passed) 0 0 in
    let byte : b ≤ 255 = omega (arith, at, small (length rest + 0)) in
    record {
      passed = b ∷ c.passed;
      whole = w;
      once = omega (arith, c.once);
      often = omega (arith, c.once, c.often, weighted_suc 1 c.passed);
      once_le = omega (arith, c.once_le, byte);
      often_le = omega (arith, c.once_le, c.often_le, byte, n);
    }

-- after the last turn all are
pub counted_all : {body left : List ℕ} {sum sums : ℕ} → Counted body left sum sums → length left ≡ 0 → sums ≡ check_of body
counted_all {body} {left} {sum} {sums} c n = c.often ∙ ap check_of (sym (c.whole ∙ gone left n))
  where
    gone : (left : List ℕ) → length left ≡ 0 → left ++ c.passed ≡ c.passed
    gone [] n = refl
    gone (b ∷ left) n = absurd (omega arith)

-- The same by the place that the passing has come down to -----------------------------------------------------------------

-- the byte before `p` comes to those from `p` on
module _ (s : List ℕ) (p : ℕ) (z : 0 < p) (h : p ≤ length s) where
  up : suc (p - 1) ≡ p
  up = omega arith

  cons : drop (p - 1) s ≡ get_or s (p - 1) 0 ∷ drop p s
  cons = rw up at (drop-cons s (p - 1) 0 (omega arith))

  sum_before : sum_of (drop (p - 1) s) ≡ get_or s (p - 1) 0 + sum_of (drop p s)
  unfolding sum_of
  sum_before = rw cons refl

  weighted_before : weighted 1 (drop (p - 1) s) ≡ get_or s (p - 1) 0 + weighted 1 (drop p s) + sum_of (drop p s)
  unfolding weighted
  weighted_before = rw (cons, weighted_suc 1 (drop p s)) (omega arith)

-- a turn: the byte is added to the sum, and the sum to the sums
module _ (block : List ℕ) (p sum b : ℕ) (h : p ≤ body_bytes) (z : 0 < p) (l : length block ≡ block_bytes)
    (s : sum ≡ sum_of (drop p (take body_bytes block))) (q : b ≡ get_or block (p - 1) 0) where
  byte : b ≡ get_or (take body_bytes block) (p - 1) 0
  byte = q ∙ sym (get_or-take body_bytes block (p - 1) 0 (omega arith))

  inside : p ≤ length (take body_bytes block)
  inside = omega (arith, length-take body_bytes block)

  pub sum_down : sum + b ≡ sum_of (drop (p - 1) (take body_bytes block))
  sum_down = omega (arith, s, byte, sum_before (take body_bytes block) p z inside)

  pub sums_down : (sums : ℕ) → sums ≡ 1 + weighted 1 (drop p (take body_bytes block)) → sums + (sum + b) ≡ 1 + weighted 1 (drop (p - 1) (take body_bytes block))
  sums_down sums e = omega (arith, s, byte, weighted_before (take body_bytes block) p z inside)

-- before the first turn no byte is counted
module _ (block : List ℕ) (p : ℕ) (h : body_bytes ≤ p) where
  none : drop p (take body_bytes block) ≡ []
  none = drop_of_length-le (take body_bytes block) {i = p} (omega (arith, length-take body_bytes block))

  pub sum_none : (sum : ℕ) → sum ≡ 0 → sum ≡ sum_of (drop p (take body_bytes block))
  unfolding sum_of
  sum_none sum e = rw none e

  pub sums_none : (sums : ℕ) → sums ≡ 1 → sums ≡ 1 + weighted 1 (drop p (take body_bytes block))
  unfolding weighted
  sums_none sums e = rw none e

-- after the last all are
pub all_counted : (s : List ℕ) (p : ℕ) → p ≤ 0 → drop p s ≡ s
all_counted s zero h = refl
all_counted s (suc p) h = absurd (omega arith)

-- k + (k + 1) + .., n numbers
unfoldable weights : ℕ → ℕ → ℕ
weights k zero = 0
weights k (suc n) = k + weights (suc k) n

-- bytes are at most 255
weighted_le : (k : ℕ) (s : List ℕ) → EachByte s → weighted k s ≤ 255 * weights k (length s)
unfolding weighted weights
weighted_le k [] h = omega arith
weighted_le k (b ∷ s) h =
    let ih : weighted (suc k) s ≤ 255 * weights (suc k) (length s) = weighted_le (suc k) s (λ i. h (suc i)) in
    let m : k * b ≤ k * 255 = mul-le-mul_left k (omega (arith, h 0)) in
    omega arith

-- "It never exceeds 32,967,931."
pub check_le : (s : List ℕ) → length s ≡ body_bytes → EachByte s → check_of s ≤ most_check
unfolding weights
check_le s l h = let w : weighted 1 s ≤ 255 * weights 1 body_bytes = rw l at (weighted_le 1 s h) in omega arith
