-- Decimal digits: the digits of a number are those without leading zeros that have its value, and no others. Assumes nothing.
use Rattle.std.specs.Prelude.{ℕ, zero, suc, ◌+◌, ◌-◌, ◌*◌, ◌/◌, ◌%◌, ◌^◌, ◌≤◌, ◌<◌, ◌≡◌, refl, List, [], ◌∷◌, ◌++◌, length, get_or}
use Rattle.std.proofs.Common.{arith, pow-suc, sym, ap, ◌∙◌, append_assoc, append-nil, length-append, lt-ltb, le-ltb}
use Rattle.std.proofs.Math.ListN.{get_or-append}
use Rattle.std.proofs.Math.Seq.{get_or-append_seam}
use Rattle.std.proofs.Math.Decide.{dec_lt}
use Rattle.lines.specs.Digits.{digit, Digit, value_on, Numeral, last_digits, decimal}

-- How a number is written ---------------------------------------------------------------------------------------------

-- more than enough digits is enough
enough : (k m n : ℕ) → n < k → n < m → last_digits k n ≡ last_digits m n
unfolding last_digits
enough zero m n h i = absurd (omega arith)
enough (suc k) zero n h i = absurd (omega arith)
enough (suc k) (suc m) n h i = go (dec_lt n 10) (λ e. enough k m (n / 10) (omega arith) (omega arith))
  where
    go : Dec (n < 10) → (10 ≤ n → last_digits k (n / 10) ≡ last_digits m (n / 10)) → last_digits (suc k) n ≡ last_digits (suc m) n
    go (yes l) f = rw (lt-ltb n 10 l, last_digits) refl
    go (no l) f = rw (le-ltb n 10 (omega arith), last_digits) (ap (λ (x : List ℕ). x ++ (digit (n % 10) ∷ [])) (f (omega arith)))

pub one_digit : (n : ℕ) → n < 10 → decimal n ≡ digit n ∷ []
unfolding last_digits
one_digit n h = rw (lt-ltb n 10 h, last_digits) refl

pub more_digits : (n : ℕ) → 10 ≤ n → decimal n ≡ decimal (n / 10) ++ (digit (n % 10) ∷ [])
unfolding last_digits
more_digits n h = rw (le-ltb n 10 h, last_digits) (ap (λ (x : List ℕ). x ++ (digit (n % 10) ∷ [])) (enough n (suc (n / 10)) (n / 10) (omega arith) (omega arith)))

pub one_more : (n : ℕ) → 10 ≤ n → length (decimal n) ≡ length (decimal (n / 10)) + 1
one_more n h = rw (more_digits n h) (length-append (decimal (n / 10)) (digit (n % 10) ∷ []))

pub decimal_length : (k n : ℕ) → n < 10 ^ suc k → length (decimal n) ≤ suc k
decimal_length zero n h = rw (one_digit n (omega arith)) (omega arith)
decimal_length (suc k) n h = go (dec_lt n 10) (decimal_length k (n / 10) (let e = pow-suc 10 (suc k) in omega arith))
  where
    go : Dec (n < 10) → length (decimal (n / 10)) ≤ suc k → length (decimal n) ≤ suc (suc k)
    go (yes l) r = rw (one_digit n l) (omega arith)
    go (no l) r = omega (arith, one_more n (omega arith))

-- of a byte, of 32 bits
pub length_8 : (n : ℕ) → n < 2 ^ 8 → length (decimal n) ≤ 3
length_8 n h = decimal_length 2 n (omega arith)

pub length_32 : (n : ℕ) → n < 2 ^ 32 → length (decimal n) ≤ 10
length_32 n h = decimal_length 9 n (omega arith)

-- What digits are worth -----------------------------------------------------------------------------------------------

pub value_snoc : (v : ℕ) (s : List ℕ) (b : ℕ) → value_on v (s ++ (b ∷ [])) ≡ 10 * value_on v s + (b - digit 0)
unfolding value_on
value_snoc v [] b = refl
value_snoc v (c ∷ s) b = value_snoc (10 * v + (c - digit 0)) s b

-- digits behind those of a number that is not 0
behind : (v : ℕ) (s : List ℕ) → 1 ≤ v → ((i : ℕ) → i < length s → Digit (get_or s i 0)) → decimal (value_on v s) ≡ decimal v ++ s
unfolding value_on
behind v [] h d = sym (append-nil (decimal v))
behind v (b ∷ s) h d =
    let x = d 0 (omega arith) in
    let w : ℕ = 10 * v + (b - digit 0) in
    let t : w / 10 ≡ v = omega arith in
    let u : digit (w % 10) ≡ b = omega arith in
    let e : decimal w ≡ decimal v ++ (b ∷ []) = more_digits w (omega arith) ∙ rw (t, u) refl in
    behind w s (omega arith) (λ i k. d (suc i) (omega arith)) ∙ (ap (λ (y : List ℕ). y ++ s) e ∙ append_assoc (decimal v) (b ∷ []) s)

-- Exactly the digits of a number ---------------------------------------------------------------------------------------

pub numeral_decimal : (n : ℕ) (s : List ℕ) → Numeral n s → s ≡ decimal n
unfolding value_on
numeral_decimal n [] m = absurd (omega (arith, m.some))
numeral_decimal n (b ∷ []) m =
    let x = m.digits 0 (omega arith) in
    let e : digit (10 * 0 + (b - digit 0)) ≡ b = omega arith in
    sym (ap decimal (sym m.worth) ∙ (one_digit (10 * 0 + (b - digit 0)) (omega arith) ∙ rw e refl))
numeral_decimal n (b ∷ c ∷ s) m =
    let x = m.digits 0 (omega arith) in
    let y = m.led (omega arith) in
    let v : ℕ = 10 * 0 + (b - digit 0) in
    let e : digit v ≡ b = omega arith in
    let f : decimal v ≡ b ∷ [] = one_digit v (omega arith) ∙ rw e refl in
    let g : decimal n ≡ b ∷ c ∷ s =
    ap decimal (sym m.worth) ∙ (behind v (c ∷ s) (omega arith) (λ i k. m.digits (suc i) (omega arith)) ∙ ap (λ (z : List ℕ). z ++ (c ∷ s)) f) in
    sym g

alone : (n : ℕ) → n < 10 → Numeral n (digit n ∷ [])
unfolding value_on
alone n a = record { some = omega arith; digits = λ i j. let e : i ≡ 0 = omega arith in rw e (omega arith); led = λ j. absurd (omega arith); worth = omega arith }

-- one digit more
more : (n : ℕ) (s : List ℕ) → 10 ≤ n → Numeral (n / 10) s → digit 1 ≤ get_or s 0 0 → Numeral n (s ++ (digit (n % 10) ∷ []))
more n s h m l = record {
  some = omega (arith, k);
  digits = λ i j. go i (dec_lt i (length s)) j;
  led = λ j. rw (get_or-append s (digit (n % 10) ∷ []) 0 0 m.some) l;
  worth = value_snoc 0 s (digit (n % 10)) ∙ (rw m.worth (omega arith));
}
  where
    k : length (s ++ (digit (n % 10) ∷ [])) ≡ length s + 1
    k = length-append s (digit (n % 10) ∷ [])

    go : (i : ℕ) → Dec (i < length s) → i < length (s ++ (digit (n % 10) ∷ [])) → Digit (get_or (s ++ (digit (n % 10) ∷ [])) i 0)
    go i (yes a) j = rw (get_or-append s (digit (n % 10) ∷ []) 0 i a) (m.digits i a)
    go i (no a) j = let e : i ≡ length s = omega (arith, k) in rw (e, get_or-append_seam s (digit (n % 10)) [] 0) (omega arith)

-- and the first is not 0, where the number is not
led_by : (k n : ℕ) → n < k → Numeral n (decimal n) × (1 ≤ n → digit 1 ≤ get_or (decimal n) 0 0)
led_by zero n h = absurd (omega arith)
led_by (suc k) n h = go (dec_lt n 10) (λ a. led_by k (n / 10) (omega arith))
  where
    go : Dec (n < 10) → (10 ≤ n → Numeral (n / 10) (decimal (n / 10)) × (1 ≤ n / 10 → digit 1 ≤ get_or (decimal (n / 10)) 0 0))
        → Numeral n (decimal n) × (1 ≤ n → digit 1 ≤ get_or (decimal n) 0 0)
    go (yes a) f = rw (one_digit n a) (alone n a, λ b. omega arith)
    go (no a) f =
        let r = f (omega arith) in
        let l = r.1 (omega arith) in
        rw (more_digits n (omega arith)) (more n (decimal (n / 10)) (omega arith) r.0 l, λ b. rw (get_or-append (decimal (n / 10)) (digit (n % 10) ∷ []) 0 0 r.0.some) l)

pub decimal_numeral : (n : ℕ) → Numeral n (decimal n)
decimal_numeral n = (led_by (suc n) n (omega arith)).0
