-- The sheet that a call is lent: "unsigned 16-bit numbers, job after job" (01, "Sheet").
use Rattle.std.specs.Prelude.{ℕ, ◌*◌, ◌/◌, ◌%◌, ◌≤◌, ◌≡◌, ◌≢◌, ◌⊎◌, List, length, Result, MatchResult}
use Rattle.sheet.specs.Model.{Sheet, Good}
use Rattle.sheet.specs.Arrays.{sheet_of, arrays}
use Rattle.state.specs.Lowest.{lowest_bad}
use Rattle.state.specs.declared.refusal.Refusal.{Refusal}
use Rattle.state.specs.declared.refusal.Refusal.TheVariants.{NoSheet, BadJob}

-- "sheet length is not 4, 8, .. 32 numbers" is refusal 1 (01), where `most` is 8
pub record WholeJobs (most : ℕ) (numbers : List ℕ) : Type 0 where
  pub whole : length numbers % 4 ≡ 0
  pub some : 4 ≤ length numbers
  pub few : length numbers ≤ 4 * most

-- the jobs lent, job after job
abbrev pub lent : List ℕ → Sheet
lent numbers = sheet_of (arrays numbers) (length numbers / 4)

-- `r` jobs are in `m` numbers, or 0 where these are no sheet of at most so many jobs
abbrev pub JobsIn : (most m r : ℕ) → Type 0
JobsIn most m r = ((r ≡ 0) × (((m % 4 ≡ 0) × (4 ≤ m) × (m ≤ 4 * most)) → ⊥)) ⊎ ((r ≡ m / 4) × ((m % 4 ≡ 0) × (4 ≤ m) × (m ≤ 4 * most)))

-- refusal 1, or 2 with the lowest job of bad form
abbrev pub NotLent : ℕ → List ℕ → Refusal → Type 0
NotLent most numbers e =
    ((e ≡ NoSheet) × ¬ (WholeJobs most numbers))
    ⊎ ((e ≡ BadJob (lowest_bad (lent numbers))) × WholeJobs most numbers × (lowest_bad (lent numbers) ≢ 0))

-- the sheet lent, where it is of good form
abbrev pub Lent : ℕ → List ℕ → Result Sheet Refusal → Type 0
Lent most numbers r = MatchResult r (λ σ. (σ ≡ lent numbers) × WholeJobs most numbers × Good σ) (NotLent most numbers)
