-- What the tests of block 0 and of a block more tell of the blocks read. Assumes nothing.
use Rattle.std.specs.Prelude.{ℕ, suc, ◌+◌, ◌-◌, ◌%◌, ◌≤◌, ◌<◌, ◌≡◌, refl, List, [], length, get_or}
use Rattle.std.proofs.Common.{arith, inl, inr, sym, ◌∙◌, ext_get_or}
use Rattle.std.proofs.Math.Decide.{dec_le, ℕ_discrete}
use Rattle.sheet.specs.declared.Job.{Job}
use Rattle.sheet.specs.Model.{Sheet, no_job}
use Rattle.sheet.specs.Arrays.{sheet_of}
use Rattle.blocks.specs.Fields.{slot_at, job_from}
use Rattle.blocks.specs.TabLaws.{length_tab, get_or_tab}
use Rattle.sheet.specs.Table.{Entry}
use Rattle.blocks.specs.Sizes.{block_bytes}
use Rattle.blocks.specs.Bytes.{EachByte}
use Rattle.form.specs.BlockTest.{RowsBlock, JobsBlock, fours, jobs_in}
use Rattle.table.specs.Reading.{total, block_at, Sized, Reads, GoodTo, good, bad, Says}
use Rattle.table.specs.ReadingLaws.{good_below, jobs_count, job_there}
use Rattle.table.specs.BlockRight.{before, goes_on, went_on}
use Rattle.table.specs.JobsRight.{sheet_in, jobs_open, opens_jobs}
use Rattle.table.specs.Judging.{Opens}
use Rattle.table.specs.Places.{GoodFile}

-- the blocks below b are read
abbrev pub SoFar : List ℕ → ℕ → Type 0
SoFar file b = (k : ℕ) × (rows : List Entry) × (b ≡ suc k) × Reads file k (jobs_in (block_at file 0)) rows

pub sheet_is : (block : List ℕ) (js : List (List ℕ)) (n : ℕ) → js ≡ fours block → n ≡ get_or block 3 0 → n ≤ 8 → sheet_of js n ≡ jobs_in block
sheet_is block js n e d h = rw (e, ← d) (sheet_in block n h)

module _ (file : List ℕ) where
  pub sized_of : length file % block_bytes ≡ 0 → 1024 ≤ length file → length file ≤ 65536 → Sized file
  sized_of h l s = record { whole = omega arith; long = omega arith; short = omega arith }

  pub length_bad : ¬ (Sized file) → Says file (bad 0)
  length_bad n = inl (n, refl)

  module _ (sized : Sized file) where
    pub first_bad : ¬ (JobsBlock (total file) (block_at file 0)) → Says file (bad 0)
    first_bad n = inr (sized, omega (arith, sized.long), (λ a h. absurd (omega arith)), λ g. n (opens_jobs file sized g))

    pub first_good : EachByte file → JobsBlock (total file) (block_at file 0) → SoFar file 1
    first_good small t = (0, [], refl, jobs_open file sized small t)

    module _ (b : ℕ) (s : SoFar file b) where
      abbrev J : Sheet
      J = jobs_in (block_at file 0)

      pub next_not : b < total file → ¬ (RowsBlock J (total file) b (before file b) (block_at file b)) → ¬ (GoodTo file b)
      next_not h n g = n (rw s.2 (went_on sized s.3 (omega (arith, s.2)) (rw s.2 at g)))

      pub next_bad : b < total file → ¬ (RowsBlock J (total file) b (before file b) (block_at file b)) → Says file (bad b)
      next_bad h n = inr (sized, h, (λ a l. good_below a s.0 (omega (arith, s.2)) (J, s.1, s.3)), next_not h n)

      pub next_good : EachByte file → b < total file → RowsBlock J (total file) b (before file b) (block_at file b) → SoFar file (b + 1)
      next_good small h t = (b, _, omega arith, rw (← s.2) at (goes_on sized s.3 (omega (arith, s.2)) small (rw s.2 at t)))

      pub all_good : b ≡ total file → Says file (good J s.1)
      all_good e = let d : total file - 1 ≡ s.0 = omega (arith, s.2) in (sized, rw d s.3)

-- a good file opens, and block 0 has the jobs that it says
pub good_opens : (file : List ℕ) → GoodFile file → Opens file
good_opens file g = (g.2.0, opens_jobs file g.2.0 (good_below 0 (total file - 1) (omega (arith, g.2.0.long)) (g.0, g.1, g.2.1)))

pub jobs_said : (file : List ℕ) (σ : Sheet) (rows : List Entry) → Says file (good σ rows) → jobs_in (block_at file 0) ≡ σ
jobs_said file σ rows s = ext_get_or no_job (jobs_in (block_at file 0)) σ (size ∙ sym n) (λ i h. get_or_tab (get_or (block_at file 0) 3 0) read no_job i (omega (arith, size)) ∙ job_there s.0 s.1 i (omega (arith, size, n)))
  where
    read : ℕ → Job
    read i = job_from (block_at file 0) (slot_at i)

    n : length σ ≡ get_or (block_at file 0) 3 0
    n = jobs_count s.0 s.1

    size : length (jobs_in (block_at file 0)) ≡ get_or (block_at file 0) 3 0
    size = length_tab (get_or (block_at file 0) 3 0) read

-- a file that does not open is bad
pub not_opens : (file : List ℕ) → ¬ (Opens file) → Says file (bad 0)
not_opens file n = go (ℕ_discrete (length file % block_bytes) 0) (dec_le 1024 (length file)) (dec_le (length file) 65536)
  where
    go : Dec (length file % block_bytes ≡ 0) → Dec (1024 ≤ length file) → Dec (length file ≤ 65536) → Says file (bad 0)
    go (yes a) (yes b) (yes c) = let s = sized_of file a b c in first_bad file s (λ t. n (s, t))
    go (no n) b c = length_bad file (λ s. n (omega (arith, s.whole)))
    go (yes a) (no n) c = length_bad file (λ s. n (omega (arith, s.whole, s.long)))
    go (yes a) (yes b) (no n) = length_bad file (λ s. n (omega (arith, s.whole, s.short)))
