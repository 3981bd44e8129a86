-- What the shifts and masks of packing a state and unpacking a word come to in plain arithmetic, turn by turn. Assumes nothing.
use Rattle.std.specs.Prelude.{ℕ, zero, suc, ◌+◌, ◌-◌, ◌*◌, ◌/◌, ◌%◌, ◌^◌, ◌<◌, ◌≤◌, ◌≡◌, refl, List, [], ◌∷◌, ◌++◌, length, get_or, take, set}
use Rattle.std.specs.Int.Bits.{bit_or, bit_and, or_shifted}
use Rattle.std.proofs.Common.{arith, sym, ap, ◌∙◌, add-one, append_assoc, append-nil, pow-suc, length-take, lit≤}
use Rattle.std.proofs.lemmas.Nat.{and_mask}
use Rattle.std.proofs.Math.Seq.{take-suc-set, take_all}
use Rattle.sheet.specs.Model.{digits_word, digits}
use Rattle.state.specs.Statuses.{Known}
use Rattle.state.specs.BitLaws.{four_pow}
use Rattle.state.specs.WordBack.{statuses_lt}

take_known : (l : List ℕ) → Known l → (i : ℕ) → Known (take i l)
take_known l k zero j = lit≤ tt
take_known [] k (suc i) j = lit≤ tt
take_known (s ∷ l) k (suc i) zero = k zero
take_known (s ∷ l) k (suc i) (suc j) = take_known l (λ n. k (suc n)) i j

-- Packing: from the first status to the last --------------------------------------------------------------------------------

digits_word_take : (l : List ℕ) (i : ℕ) → i < length l → digits_word (take (suc i) l) ≡ digits_word (take i l) + get_or l i 0 * 4 ^ i
unfolding digits_word
digits_word_take [] i h = absurd (omega arith)
digits_word_take (s ∷ l) zero h = omega arith
digits_word_take (s ∷ l) (suc i) h = rw (digits_word_take l i (omega arith), pow-suc 4 i) (omega arith)

-- the word of the first `i` statuses
abbrev pub packed : List ℕ → ℕ → ℕ
packed l i = digits_word (take i l)

pub none_packed : (l : List ℕ) → packed l 0 ≡ 0
unfolding digits_word
none_packed l = refl

module _ (l : List ℕ) (eight : length l ≡ 8) (known : Known l) where
  pub packed_lt : (i : ℕ) → packed l i < 65536
  packed_lt i = statuses_lt 8 (take i l) (omega (arith, length-take i l)) (take_known l known i)

  -- one turn
  pub pack_turn : (i : ℕ) → i < 8 → packed l i + get_or l i 0 * 2 ^ (2 * i) % 4294967296 ≡ packed l (i + 1)
  pack_turn i h =
      let t : packed l (i + 1) ≡ packed l i + get_or l i 0 * 4 ^ i = rw (add-one i) (digits_word_take l i (omega arith)) in
      let m : get_or l i 0 * 4 ^ i % 4294967296 ≡ get_or l i 0 * 4 ^ i = omega (arith, t, packed_lt (i + 1)) in
      rw (four_pow i, m) (sym t)

  -- all of them
  pub all_packed : packed l 8 ≡ digits_word l
  all_packed = ap digits_word (take_all 8 l (omega arith))

-- the three parts, shifted and joined, are the sum
pub join : (n e w : ℕ) → n < 256 → e < 256 → w < 65536 → bit_or (bit_or (n * 16777216 % 4294967296) (e * 65536 % 4294967296)) w ≡ n * 16777216 + e * 65536 + w
join n e w hn he hw =
    let m : n * 16777216 % 4294967296 ≡ n * 16777216 = omega arith in
    let k : e * 65536 % 4294967296 ≡ e * 65536 = omega arith in
    let o : bit_or (n * 16777216) (e * 65536) ≡ n * 16777216 + e * 65536 = or_shifted n 24 (e * 65536) (omega arith) in
    let s : n * 16777216 + e * 65536 ≡ (n * 256 + e) * 65536 = omega arith in
    let p : bit_or ((n * 256 + e) * 65536) w ≡ (n * 256 + e) * 65536 + w = or_shifted (n * 256 + e) 16 w hw in
    rw (m, k, o, s, p) refl

-- Unpacking: from the first status to the last ------------------------------------------------------------------------------

pub low_two : (n : ℕ) → bit_and n 3 ≡ n % 4
low_two n = and_mask n 2

pub low_byte : (n : ℕ) → bit_and n 255 ≡ n % 256
low_byte n = and_mask n 8

-- the digits of a word are known statuses
digits_known : (n w : ℕ) → Known (digits n w)
unfolding digits
digits_known zero w j = lit≤ tt
digits_known (suc n) w zero = omega arith
digits_known (suc n) w (suc j) = digits_known n (w / 4) j

module _ (all l : List ℕ) (i rest : ℕ) (eight : length l ≡ 8) (e : all ≡ take i l ++ digits (8 - i) rest) where
  -- one turn
  pub unpack_turn : i < 8 → all ≡ take (i + 1) (set l i (bit_and rest 3)) ++ digits (8 - (i + 1)) (rest / 4)
  unfolding digits
  unpack_turn h =
      let a : i < length l = omega arith in
      let k : 8 - i ≡ suc (8 - (i + 1)) = omega arith in
      let t : take (suc i) (set l i (rest % 4)) ≡ take i l ++ (rest % 4 ∷ []) = take-suc-set l i (rest % 4) a in
      let f : all ≡ take i l ++ (rest % 4 ∷ digits (8 - (i + 1)) (rest / 4)) = rw k at e in
      rw (low_two rest, add-one i, t, append_assoc, ← add-one i) f

  -- at the end all are taken
  pub unpacked : 8 ≤ i → l ≡ all
  unfolding digits
  unpacked h =
      let k : 8 - i ≡ 0 = omega arith in
      let t : take i l ≡ l = take_all i l (omega arith) in
      let f : all ≡ l ++ [] = rw (k, t) at e in
      sym (f ∙ append-nil l)

-- so what was unpacked is known
pub unpacked_known : (w : ℕ) (l : List ℕ) → l ≡ digits 8 w → Known l
unpacked_known w l e = rw e (digits_known 8 w)
