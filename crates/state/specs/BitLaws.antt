-- Shifts and masks in plain arithmetic: one bit, and two bits; and that setting a bit adds its job and no other. Assumes nothing.
use Rattle.std.specs.Prelude.{ℕ, zero, suc, ◌+◌, ◌-◌, ◌*◌, ◌/◌, ◌%◌, ◌^◌, ◌<◌, ◌≤◌, max, ◌≡◌, refl, ◌≢◌, ◌⊎◌, ◌↔◌, not, eqb}
use Rattle.std.proofs.Math.Nat.{two-pow-succ, pow-succ', div-eq_of_lt, div_self, div-div-eq-div-mul}
use Rattle.std.proofs.Common.{pow-suc, mul-suc, mod-lt, zero-mul, one-mul, mod-eq_of_lt, one-add, arith, ap, inl, inr, ⊎_elim, pow-add, pow_pos, lit<, ne_eqb}
use Rattle.std.proofs.Math.Decide.{ℕ_discrete}
use Rattle.std.specs.Int.Bits.{bit_and, bit_or, or_add_and, or_step}
use Rattle.std.proofs.lemmas.Nat.Bits.{and_high}
use Rattle.std.proofs.lemmas.Nat.{and_mask, or_shr}
use Rattle.std.proofs.Math.Pow.{pow-lt}
use Rattle.plant.specs.Marks.{Has}
use Rattle.plant.specs.Reflect.{Is, is_eq}
use Rattle.state.specs.Bits.{with_start}

-- a bit, masked out where it stands
and_bit : (n k : ℕ) → bit_and n (2 ^ k) ≡ (n / 2 ^ k % 2) * 2 ^ k
and_bit n k =
    let d : 2 ^ (1 + k) - 2 ^ k ≡ 2 ^ k = rw (one-add k, two-pow-succ k) (omega arith) in
    rw d at (and_high n 1 k)

-- 1 << k loses nothing in w bits
pub one_shl : (w k : ℕ) → k < w → 1 * 2 ^ k % 2 ^ w ≡ 2 ^ k
one_shl w k h = rw (one-mul (2 ^ k)) (mod-eq_of_lt (pow-lt h))

-- a digit below 2, times a power, is 0 only where it is 0
test_digit : (d p : ℕ) → d < 2 → 0 < p → not (eqb (d * p) 0) ≡ eqb d 1
test_digit zero p h q = rw (zero-mul p)
test_digit (suc zero) p h q = rw (one-mul p, ne_eqb p 0 (λ e. omega arith))
test_digit (suc (suc d)) p h q = absurd (omega arith)

-- the test of a bit
pub test_bit : (n k : ℕ) → Is (not (eqb (bit_and n (2 ^ k)) 0)) (n / 2 ^ k % 2 ≡ 1)
test_bit n k = rw (and_bit n k, test_digit (n / 2 ^ k % 2) (2 ^ k) (mod-lt (n / 2 ^ k) (lit< tt)) (pow_pos k)) (is_eq (n / 2 ^ k % 2) 1)

set_digit : (n d p r : ℕ) → d < 2 → r + d * p ≡ n + p → r ≡ n + (1 - d) * p
set_digit n zero p r h e = rw (one-mul p) (omega (arith, zero-mul p))
set_digit n (suc zero) p r h e = rw (zero-mul p) (omega (arith, one-mul p))
set_digit n (suc (suc d)) p r h e = absurd (omega arith)

-- a bit set: added where it was clear
pub or_bit : (n k : ℕ) → bit_or n (2 ^ k) ≡ n + (1 - n / 2 ^ k % 2) * 2 ^ k
or_bit n k = set_digit n (n / 2 ^ k % 2) (2 ^ k) (bit_or n (2 ^ k)) (mod-lt (n / 2 ^ k) (lit< tt)) (rw (and_bit n k) at (or_add_and n (2 ^ k)))

-- two bits at a time
pub four_pow : (k : ℕ) → 2 ^ (2 * k) ≡ 4 ^ k
four_pow zero = refl
four_pow (suc k) = rw (mul-suc 2 k, pow-add 2 (2 * k) 2, four_pow k, pow-suc 4 k) refl

-- one in the place of job k + 1
pub one_at : (k : ℕ) → k ≤ 8 → 1 * 2 ^ (2 * k) % 2 ^ 32 ≡ 4 ^ k
one_at k h = rw (one_shl 32 (2 * k) (omega arith)) (four_pow k)

pub two_bits : (w k : ℕ) → bit_and (w / 2 ^ (2 * k)) 3 ≡ w / 4 ^ k % 4
two_bits w k = rw (and_mask (w / 2 ^ (2 * k)) 2, four_pow k) refl

-- of 2^a the bit at a is set, and no other
down : (a i : ℕ) → 2 ^ suc a / 2 ^ suc i ≡ 2 ^ a / 2 ^ i
down a i =
    let e : 2 ^ suc a / 2 ≡ 2 ^ a = rw (pow-suc 2 a) (omega arith) in
    rw (pow-succ' 2 i, ← div-div-eq-div-mul (2 ^ suc a) 2 (2 ^ i), e) refl

one_bit : (a : ℕ) → 2 ^ a / 2 ^ a % 2 ≡ 1
one_bit a = rw (div_self (pow_pos a)) refl

no_bit : (a i : ℕ) → a ≢ i → 2 ^ a / 2 ^ i % 2 ≡ 0
no_bit zero zero n = absurd (n refl)
no_bit zero (suc i) n = rw (div-eq_of_lt (pow-lt {i = 0} {j = suc i} (omega arith))) refl
no_bit (suc a) zero n = rw (pow-suc 2 a) (omega arith)
no_bit (suc a) (suc i) n = rw (down a i) (no_bit a i (λ e. n (ap suc e)))

-- the lowest bit of two numbers joined
or_low : (x y : ℕ) → bit_or x y % 2 ≡ max (x % 2) (y % 2)
or_low x y = rw (or_step x y) (omega arith)

-- "Bit k−1 of the byte of starts stands for job k": one job more, and the others as before
pub with_has : (b j k : ℕ) → 1 ≤ j → 1 ≤ k → Has (with_start b k) j ↔ ((j ≡ k) ⊎ Has b j)
with_has b j k h g = go (ℕ_discrete j k)
  where
    joined : with_start b k / 2 ^ (j - 1) % 2 ≡ max (b / 2 ^ (j - 1) % 2) (2 ^ (k - 1) / 2 ^ (j - 1) % 2)
    joined = rw (← or_bit b (k - 1), or_shr b (2 ^ (k - 1)) (j - 1)) (or_low (b / 2 ^ (j - 1)) (2 ^ (k - 1) / 2 ^ (j - 1)))

    go : Dec (j ≡ k) → Has (with_start b k) j ↔ ((j ≡ k) ⊎ Has b j)
    go (yes e) = ((λ _. inl e), (λ _. let o : 2 ^ (k - 1) / 2 ^ (j - 1) % 2 ≡ 1 = rw e (one_bit (k - 1)) in omega (arith, joined)))
    go (no n) =
        let o = no_bit (k - 1) (j - 1) (λ e. n (omega arith)) in
        ((λ t. inr (omega (arith, joined))), ⊎_elim (λ e. absurd (n e)) (λ t. omega (arith, joined)))
