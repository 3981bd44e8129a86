-- What is lent, as the code reads it: how many jobs, which, and whether they are good. Assumes nothing.
use Rattle.std.specs.Prelude.{ℕ, ◌/◌, ◌≤◌, ◌≡◌, refl, ◌≢◌, List, length}
use Rattle.std.proofs.Common.{arith, inl, inr}
use Rattle.sheet.specs.Model.{Good}
use Rattle.sheet.specs.Arrays.{sheet_of, arrays}
use Rattle.state.specs.Lent.{WholeJobs, lent, JobsIn}
use Rattle.state.specs.Lowest.{lowest_bad}
use Rattle.state.specs.LowestLaws.{is_lowest_bad, good_sheet}
use Rattle.sheet.proofs.ArraysLaws.{length_sheet}

pub jobs_none : (most : ℕ) (numbers : List ℕ) (r : ℕ) → JobsIn most (length numbers) r → r ≡ 0 → ¬ (WholeJobs most numbers)
jobs_none most numbers r (inl x) e s = x.1 (s.whole, s.some, s.few)
jobs_none most numbers r (inr x) e s = omega (arith, x.0, s.some)

pub jobs_some : (most : ℕ) (numbers : List ℕ) (r : ℕ) → JobsIn most (length numbers) r → r ≢ 0 → (r ≡ length numbers / 4) × WholeJobs most numbers × ((1 ≤ r) × (r ≤ most))
jobs_some most numbers r (inl x) n = absurd (n x.0)
jobs_some most numbers r (inr x) n = (x.0, record { whole = x.1.0; some = x.1.1; few = x.1.2 }, omega (arith, x.0, x.1.1, x.1.2))

module _ (numbers : List ℕ) (jobs : List (List ℕ)) (count : ℕ) (j : jobs ≡ arrays numbers) (c : count ≡ length numbers / 4) (some : 1 ≤ count) (few : count ≤ 8) where
  pub lent_is : sheet_of jobs count ≡ lent numbers
  lent_is = rw (j, c) refl

  lent_length : length (sheet_of jobs count) ≡ count
  unfolding arrays
  lent_length = length_sheet jobs count (rw j (omega arith))

  -- a lowest bad job is one of them, and where there is none the sheet is good
  pub lent_bad : lowest_bad (sheet_of jobs count) ≤ count
  lent_bad = omega (arith, (is_lowest_bad (sheet_of jobs count)).within, lent_length)

  pub lent_good : lowest_bad (sheet_of jobs count) ≡ 0 → Good (sheet_of jobs count)
  lent_good e = (good_sheet (sheet_of jobs count) (omega (arith, lent_length)) (omega (arith, lent_length))).0 e
