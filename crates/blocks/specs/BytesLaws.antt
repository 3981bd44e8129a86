-- Bytes in their places: what is written is read, what is read was written, and the rest is left. Assumes nothing.
use Rattle.std.specs.Prelude.{ℕ, zero, suc, ◌+◌, ◌-◌, ◌/◌, ◌%◌, ◌^◌, ◌≤◌, ◌<◌, ◌≡◌, refl, List, [], ◌∷◌, ◌++◌, length, get_or, set, take, replicate}
use Rattle.std.specs.Int.{w32, to_le_bytes}
use Rattle.std.proofs.Common.{arith, add_assoc, zero-add, sym, ap, ◌∙◌, length-append, ext_get_or, get_or-append-add}
use Rattle.std.proofs.Math.Decide.{dec_lt}
use Rattle.std.proofs.lemmas.List.{length-replicate, get_or-replicate}
use Rattle.std.proofs.Math.ListN.{get_or-append}
use Rattle.std.proofs.Math.Seq.{paste, paste-suc}
use Rattle.blocks.specs.Bytes.{EachByte, le16, le32, u16_at, u32_at}

pub take_bytes : (n : ℕ) (s : List ℕ) → EachByte s → EachByte (take n s)
take_bytes zero s h i = omega arith
take_bytes (suc n) [] h i = omega arith
take_bytes (suc n) (b ∷ s) h zero = h 0
take_bytes (suc n) (b ∷ s) h (suc i) = take_bytes n s (λ j. h (suc j)) i

-- the bytes `l` stand at `p`
abbrev pub Stands : List ℕ → ℕ → List ℕ → Type 0
Stands s p l = (j : ℕ) → j < length l → get_or s (p + j) 0 ≡ get_or l j 0

-- what stands at `n + i`, in the second of two lists
get_or_second : {A : Type 0} (xs ys : List A) (n i : ℕ) (d : A) → length xs ≡ n → get_or (xs ++ ys) (n + i) d ≡ get_or ys i d
get_or_second xs ys n i d e = rw (← e) (get_or-append-add xs ys i d)

-- One after the other -------------------------------------------------------------------------------------------------

module _ (s : List ℕ) (p : ℕ) (a b : List ℕ) (n : ℕ) (l : length a ≡ n) where
  pub stands_first : Stands s p (a ++ b) → Stands s p a
  stands_first h j i = h j (omega (arith, length-append a b)) ∙ get_or-append a b 0 j i

  pub stands_rest : Stands s p (a ++ b) → Stands s (p + n) b
  stands_rest h j i = rw (add_assoc p n j) (h (n + j) (omega (arith, length-append a b)) ∙ get_or_second a b n j 0 l)

  pub stands_both : Stands s p a → Stands s (p + n) b → Stands s p (a ++ b)
  stands_both h k j i = go (dec_lt j n)
    where
      go : Dec (j < n) → get_or s (p + j) 0 ≡ get_or (a ++ b) j 0
      go (yes q) = h j (omega arith) ∙ sym (get_or-append a b 0 j (omega arith))
      go (no q) =
          let e : j ≡ n + (j - n) = omega arith in
          let d : p + j ≡ p + n + (j - n) = omega arith in
          ap (λ (m : ℕ). get_or s m 0) d ∙ (k (j - n) (omega (arith, length-append a b)) ∙ (sym (get_or_second a b n (j - n) 0 l) ∙ ap (λ (m : ℕ). get_or (a ++ b) m 0) (sym e)))

-- the whole list
pub stands_self : (s : List ℕ) → Stands s 0 s
stands_self s j i = ap (λ (m : ℕ). get_or s m 0) (zero-add j)

pub stands_whole : (s l : List ℕ) → length s ≡ length l → Stands s 0 l → s ≡ l
stands_whole s l e h = ext_get_or 0 s l e (λ i q. ap (λ (m : ℕ). get_or s m 0) (sym (zero-add i)) ∙ h i (omega arith))

-- zeros
pub stands_zeros : (s : List ℕ) (p m : ℕ) → ((i : ℕ) → p ≤ i → i < p + m → get_or s i 0 ≡ 0) → Stands s p (replicate m 0)
stands_zeros s p m h j i =
    let l : j < m = omega (arith, length-replicate {A = ℕ} m 0) in
    h (p + j) (omega arith) (omega arith) ∙ sym (get_or-replicate {A = ℕ} m j 0 0 l)

pub zeros_stand : (s : List ℕ) (p m : ℕ) → Stands s p (replicate m 0) → (i : ℕ) → p ≤ i → i < p + m → get_or s i 0 ≡ 0
zeros_stand s p m h i a b =
    let e : i ≡ p + (i - p) = omega arith in
    ap (λ (k : ℕ). get_or s k 0) e ∙ (h (i - p) (omega (arith, length-replicate {A = ℕ} m 0)) ∙ get_or-replicate {A = ℕ} m (i - p) 0 0 (omega arith))

-- Numbers: what is written is read, and what is read was written ------------------------------------------------------

module _ (s : List ℕ) (p : ℕ) where
  here : p + 0 ≡ p
  here = omega arith

  pub u16_of_le16 : (x : ℕ) → Stands s p (le16 x) → u16_at s p ≡ x
  u16_of_le16 x h = let a : get_or s p 0 ≡ x % 256 = rw here at (h 0 (omega arith)) in omega (arith, h 1 (omega arith))

  pub u32_of_le32 : (x : ℕ) → Stands s p (le32 x) → u32_at s p ≡ x
  u32_of_le32 x h = let a : get_or s p 0 ≡ x % 256 = rw here at (h 0 (omega arith)) in omega (arith, h 1 (omega arith), h 2 (omega arith), h 3 (omega arith))

  pub le16_of_u16 : EachByte s → Stands s p (le16 (u16_at s p))
  le16_of_u16 small zero h = rw here (omega (arith, small p, small (p + 1)))
  le16_of_u16 small (suc zero) h = omega (arith, small p, small (p + 1))
  le16_of_u16 small (suc (suc j)) h = absurd (omega arith)

  pub le32_of_u32 : EachByte s → Stands s p (le32 (u32_at s p))
  le32_of_u32 small zero h = rw here (omega (arith, small p, small (p + 1), small (p + 2), small (p + 3)))
  le32_of_u32 small (suc zero) h = omega (arith, small p, small (p + 1), small (p + 2), small (p + 3))
  le32_of_u32 small (suc (suc zero)) h = omega (arith, small p, small (p + 1), small (p + 2), small (p + 3))
  le32_of_u32 small (suc (suc (suc zero))) h = omega (arith, small p, small (p + 1), small (p + 2), small (p + 3))
  le32_of_u32 small (suc (suc (suc (suc j)))) h = absurd (omega arith)

-- one zero more
pub zero_more : (s : List ℕ) (at end p : ℕ) → at ≤ p → p < end → end ≤ length s
    → set (paste s at (replicate (end - at) 0) (p - at)) p 0 ≡ paste s at (replicate (end - at) 0) (p + 1 - at)
zero_more s at end p a b c =
    let z : List ℕ = replicate (end - at) 0 in
    let t : List ℕ = paste s at z (p - at) in
    let d : p ≡ at + (p - at) = omega arith in
    let v : get_or z (p - at) 0 ≡ 0 = get_or-replicate {A = ℕ} (end - at) (p - at) 0 0 (omega arith) in
    let e : suc (p - at) ≡ p + 1 - at = omega arith in
    ap (λ (k : ℕ). set t k 0) d
    ∙ (ap (λ (x : ℕ). set t (at + (p - at)) x) (sym v)
    ∙ (paste-suc s at z (p - at) 0 (omega arith) (omega (arith, length-replicate {A = ℕ} (end - at) 0)) ∙ ap (λ (k : ℕ). paste s at z k) e))

-- std's bytes of a number are these
pub le32_bytes : (x : ℕ) → x < 2 ^ 32 → to_le_bytes w32 x ≡ le32 x
le32_bytes x h = let top : x / 256 ^ 3 % 256 ≡ x / 16777216 = omega arith in rw top refl
