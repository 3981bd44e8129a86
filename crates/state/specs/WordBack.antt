-- The sheet's laws of words, said of statuses as the code knows them; and each digit of a word by itself. Assumes nothing.
use Rattle.std.specs.Prelude.{ℕ, zero, suc, ◌/◌, ◌%◌, ◌^◌, ◌<◌, ◌≤◌, ◌≡◌, List, length, get_or}
use Rattle.std.proofs.Math.Nat.{pow-succ', div-div-eq-div-mul}
use Rattle.std.proofs.Common.{arith}
use Rattle.sheet.specs.Model.{State, digits_word, word, digits, state_of}
use Rattle.sheet.proofs.WordLaws.{digits_word_lt, state_of_word}
use Rattle.state.specs.Statuses.{Known}

-- the digit at j
pub digit_at : (n w j : ℕ) → j < n → get_or (digits n w) j 0 ≡ w / 4 ^ j % 4
unfolding digits
digit_at zero w j h = absurd (omega arith)
digit_at (suc n) w zero h = omega arith
digit_at (suc n) w (suc j) h = rw (pow-succ' 4 j, ← div-div-eq-div-mul w 4 (4 ^ j)) (digit_at n (w / 4) j (omega arith))

-- at most n statuses make a word below 4^n
pub statuses_lt : (n : ℕ) (l : List ℕ) → length l ≤ n → Known l → digits_word l < 4 ^ n
statuses_lt n l h k = digits_word_lt n l h (λ j. omega (arith, k j))

-- the state of the word of a state is the state
pub state_back : (q : State) → q.now ≤ 255 → q.elapsed ≤ 255 → length q.statuses ≡ 8 → Known q.statuses → state_of (word q) ≡ q
state_back q n e l k = state_of_word q (record { now_fits = omega arith; elapsed_fits = omega arith; eight = l; statuses_fit = λ j. omega (arith, k j) })
