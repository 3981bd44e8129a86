-- The byte of the jobs that pass a test, and that a byte is told by its bits. Assumes nothing.
use Rattle.std.specs.Prelude.{ℕ, zero, suc, ◌-◌, ◌/◌, ◌%◌, ◌^◌, ◌<◌, ◌≡◌, ◌≢◌, ◌⊎◌, ◌↔◌, Bool, true, false, cond}
use Rattle.std.proofs.Common.{arith, sym, ◌∙◌, inl, inr, lit<}
use Rattle.std.proofs.Math.Nat.{zero-div}
use Rattle.std.proofs.Math.Decide.{ℕ_discrete}
use Rattle.plant.specs.Range.{In}
use Rattle.plant.specs.Search.{find}
use Rattle.plant.specs.Reflect.{Is}
use Rattle.plant.specs.Marks.{Has, Byte}
use Rattle.plant.specs.Mask.{mask, mask_lt, mask_bit, same_bits}

-- the mask of a right test is the byte
pub mask_byte : (p : ℕ → Bool) (P : ℕ → Type 0) → ((k : ℕ) → In 8 k → Is (p k) (P k)) → Byte P (mask 8 p)
mask_byte p P right = record { fits = mask_lt 8 p; has = λ k h. go k h (p k) (mask_bit 8 p k h) (right k h) }
  where
    go : (k : ℕ) → In 8 k → (b : Bool) → mask 8 p / 2 ^ (k - 1) % 2 ≡ cond b 1 0 → Is b (P k) → Has (mask 8 p) k ↔ P k
    go k h true e r = ((λ _. r.holds tt), (λ _. e))
    go k h false e r = ((λ s. absurd (omega arith)), (λ x. absurd (r.passes x)))

pub byte_one : (P : ℕ → Type 0) (a b : ℕ) → Byte P a → Byte P b → a ≡ b
byte_one P a b x y = same_bits 8 a b x.fits y.fits bits
  where
    bits : (j : ℕ) → j < 8 → a / 2 ^ j % 2 ≡ b / 2 ^ j % 2
    bits j h =
        let k : In 8 (suc j) = omega arith in
        let s : suc j - 1 ≡ j = omega arith in
        let u : a / 2 ^ j % 2 ≡ 1 → b / 2 ^ j % 2 ≡ 1 = λ e. rw s at ((y.has (suc j) k).1 ((x.has (suc j) k).0 (rw s e))) in
        let v : b / 2 ^ j % 2 ≡ 1 → a / 2 ^ j % 2 ≡ 1 = λ e. rw s at ((x.has (suc j) k).1 ((y.has (suc j) k).0 (rw s e))) in
        go (a / 2 ^ j) (b / 2 ^ j) (ℕ_discrete (a / 2 ^ j % 2) 1) (ℕ_discrete (b / 2 ^ j % 2) 1) u v
      where
        go : (m n : ℕ) → Dec (m % 2 ≡ 1) → Dec (n % 2 ≡ 1) → (m % 2 ≡ 1 → n % 2 ≡ 1) → (n % 2 ≡ 1 → m % 2 ≡ 1) → m % 2 ≡ n % 2
        go m n (yes e) d u v = e ∙ sym (u e)
        go m n (no x) (yes e) u v = absurd (x (v e))
        go m n (no x) (no y) u v = omega arith

-- a byte that is not 0 has a job
pub byte_some : (b : ℕ) → b < 256 → b ≢ 0 → (k : ℕ) × In 8 k × Has b k
byte_some b h n = go (find 8 (Has b) (λ k. ℕ_discrete (b / 2 ^ (k - 1) % 2) 1))
  where
    none : (j : ℕ) → zero / 2 ^ j % 2 ≡ 0
    none j = let z : zero / 2 ^ j ≡ zero = zero-div (2 ^ j) in omega arith

    clear : ((k : ℕ) → In 8 k → ¬ (Has b k)) → (j : ℕ) → j < 8 → b / 2 ^ j % 2 ≡ zero / 2 ^ j % 2
    clear f j l =
        let e : suc j - 1 ≡ j = omega arith in
        let x : ¬ (b / 2 ^ j % 2 ≡ 1) = rw e at (f (suc j) (omega arith)) in
        omega (arith, none j)

    go : ((k : ℕ) × In 8 k × Has b k) ⊎ ((k : ℕ) → In 8 k → ¬ (Has b k)) → (k : ℕ) × In 8 k × Has b k
    go (inl w) = w
    go (inr f) = absurd (n (same_bits 8 b 0 h (lit< tt) (clear f)))
