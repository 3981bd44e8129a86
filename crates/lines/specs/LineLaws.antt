-- Lines as they are printed, piece after piece, and how long their pieces are. Assumes nothing.
use Rattle.std.specs.Prelude.{ℕ, zero, suc, ◌+◌, ◌-◌, ◌/◌, ◌%◌, ◌^◌, ◌≤◌, ◌<◌, ◌≡◌, refl, ◌≢◌, Bool, true, false, cond, List, [], ◌∷◌, ◌++◌, map, length, get_or, take, eqb}
use Rattle.std.proofs.Common.{arith, add-one, sym, subst, ◌∙◌, append_assoc, length-append, take-suc, length-take-le, eq-eqb, ne_eqb}
use Rattle.std.proofs.lemmas.List.{map-append, length-map}
use Rattle.plant.specs.Marks.{Has}
use Rattle.sheet.specs.Model.{State, digits, state_of}
use Rattle.sheet.specs.Table.{Entry}
use Rattle.sheet.proofs.WordLaws.{length_digits, digits_lt}
use Rattle.blocks.specs.Sizes.{most_jobs}
use Rattle.lines.specs.Digits.{digit, decimal}
use Rattle.lines.specs.Lines.{line, statuses_text, job_text, jobs_text, or_dash, tick_word, header_line, row_line, line_bytes}
use Rattle.lines.specs.Parts.{state_part, marks_part, state_bytes, marks_bytes}
use Rattle.lines.specs.DigitsLaws.{length_8, length_32}

pub row_parts : (n : ℕ) (e : Entry) → row_line n e ≡ state_part n (state_of e.word) ++ marks_part n e.starts e.tick
unfolding line
row_parts n e = simp append_assoc

-- The fields of a row, piece after piece -----------------------------------------------------------------------------

pub statuses_more : (l : List ℕ) (i : ℕ) → i < length l → map digit (take (i + 1) l) ≡ map digit (take i l) ++ (digit (get_or l i 0) ∷ [])
statuses_more l i h = rw (add-one i, take-suc l i 0 h) (map-append digit (take i l) (get_or l i 0 ∷ []))

pub statuses_length : (l : List ℕ) (i : ℕ) → i ≤ length l → length (map digit (take i l)) ≡ i
statuses_length l i h = length-map (take i l) digit ∙ length-take-le i l h

pub job_yes : (starts k : ℕ) → Has starts k → job_text starts k ≡ digit k ∷ []
job_yes starts k h = rw (eq-eqb (starts / 2 ^ (k - 1) % 2) 1 h) refl

pub job_no : (starts k : ℕ) → ¬ (Has starts k) → job_text starts k ≡ []
job_no starts k h = rw (ne_eqb (starts / 2 ^ (k - 1) % 2) 1 h) refl

job_length : (starts k : ℕ) → length (job_text starts k) ≤ 1
job_length starts k = go (eqb (starts / 2 ^ (k - 1) % 2) 1)
  where
    go : (b : Bool) → length (cond b (digit k ∷ []) []) ≤ 1
    go true = omega arith
    go false = omega arith

pub jobs_more : (starts k : ℕ) → jobs_text (k + 1) starts ≡ jobs_text k starts ++ job_text starts (k + 1)
unfolding jobs_text
jobs_more starts k = rw (add-one k) refl

pub jobs_length : (starts k : ℕ) → length (jobs_text k starts) ≤ k
unfolding jobs_text
jobs_length starts zero = omega arith
jobs_length starts (suc k) = omega (arith, length-append (jobs_text k starts) (job_text starts (suc k)), jobs_length starts k, job_length starts (suc k))

pub dash_none : (l : List ℕ) → length l ≡ 0 → or_dash l ≡ l ++ or_dash []
dash_none [] e = refl
dash_none (c ∷ l) e = absurd (omega arith)

pub dash_some : (l : List ℕ) → 1 ≤ length l → or_dash l ≡ l
dash_some [] h = absurd (omega arith)
dash_some (c ∷ l) h = refl

dash_length : (l : List ℕ) (m : ℕ) → 1 ≤ m → length l ≤ m → length (or_dash l) ≤ m
dash_length [] m h k = h
dash_length (c ∷ l) m h k = k

pub tick_length : (tick : ℕ) → length (tick_word tick) ≡ 4
tick_length zero = refl
tick_length (suc zero) = refl
tick_length (suc (suc k)) = refl

pub else_held : (tick : ℕ) → tick ≢ 0 → tick ≢ 1 → tick_word tick ≡ tick_word 2
else_held zero a b = absurd (a refl)
else_held (suc zero) a b = absurd (b refl)
else_held (suc (suc k)) a b = refl

-- a state of a word has clocks of three digits and known statuses
module _ (w : ℕ) (fits : w < 2 ^ 32) (q : State) (e : q ≡ state_of w) where
  pub now_length : length (decimal q.now) ≤ 3
  now_length = subst (λ (r : State). length (decimal r.now) ≤ 3) (sym e) (length_8 (w / 2 ^ 24) (omega arith))

  pub elapsed_length : length (decimal q.elapsed) ≤ 3
  elapsed_length = subst (λ (r : State). length (decimal r.elapsed) ≤ 3) (sym e) (length_8 (w / 2 ^ 16 % 256) (omega arith))

  pub known_statuses : (k : ℕ) → get_or q.statuses k 0 ≤ 3
  known_statuses k = subst (λ (r : State). get_or r.statuses k 0 ≤ 3) (sym e) (omega (arith, digits_lt 8 w k))

  pub so_many_statuses : (n : ℕ) → n ≤ most_jobs → length (statuses_text n q) ≡ n
  so_many_statuses n h = subst (λ (r : State). length (statuses_text n r) ≡ n) (sym e) (statuses_length (digits 8 w) n (omega (arith, length_digits 8 w)))

-- No line is longer than `line_bytes` --------------------------------------------------------------------------------

pub header_length : (n rows : ℕ) → n < 2 ^ 8 → rows < 2 ^ 32 → length (header_line n rows) ≤ line_bytes
unfolding line
header_length n rows h k = simp length-append (omega (arith, length_8 n h, length_32 rows k))

pub state_length : (n w : ℕ) → n ≤ most_jobs → w < 2 ^ 32 → length (state_part n (state_of w)) ≤ state_bytes
state_length n w h k =
    simp length-append (omega (arith, now_length w k (state_of w) refl, elapsed_length w k (state_of w) refl, so_many_statuses w k (state_of w) refl n h))

pub starts_length : (n starts : ℕ) → n ≤ most_jobs → length (or_dash (jobs_text n starts)) ≤ most_jobs
starts_length n starts h = dash_length (jobs_text n starts) most_jobs (omega arith) (omega (arith, jobs_length starts n))

pub row_length : (n : ℕ) (e : Entry) → n ≤ most_jobs → e.word < 2 ^ 32 → length (row_line n e) ≤ line_bytes
row_length n e h k =
    rw (row_parts n e, length-append (state_part n (state_of e.word)) (marks_part n e.starts e.tick))
    (let m : length (marks_part n e.starts e.tick) ≤ marks_bytes = simp length-append (omega (arith, starts_length n e.starts h, tick_length e.tick)) in
    omega (arith, state_length n e.word h k))
