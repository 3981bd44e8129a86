-- The sheet of eight arrays: how many jobs it has, and which. Assumes nothing.
use Rattle.std.specs.Prelude.{ℕ, suc, ◌-◌, ◌≤◌, ◌<◌, ◌≡◌, List, [], length, map, get_or, take}
use Rattle.std.proofs.Common.{arith, sym, ap, ◌∙◌, length-take, get_or-take}
use Rattle.std.proofs.lemmas.List.{length-map}
use Rattle.std.proofs.Math.ListN.{get_or-map}
use Rattle.plant.specs.Range.{In}
use Rattle.sheet.specs.Model.{Sheet, no_job, job}
use Rattle.sheet.specs.Arrays.{job_of, sheet_of}

-- the job at a place of the arrays, counted from 0, as a loop over them reads it; the same of a sheet that they are; and how many jobs they are
pub job_read : (l : List (List ℕ)) (i : ℕ) → get_or (map job_of l) i no_job ≡ job_of (get_or l i [])
job_read l i = get_or-map job_of l i []

pub job_there : (l : List (List ℕ)) (σ : Sheet) (i : ℕ) → map job_of l ≡ σ → job_of (get_or l i []) ≡ get_or σ i no_job
job_there l σ i e = sym (job_read l i) ∙ ap (λ (s : Sheet). get_or s i no_job) e

pub jobs_many : (l : List (List ℕ)) → length (map job_of l) ≡ length l
jobs_many l = length-map l job_of

module _ (jobs : List (List ℕ)) (n : ℕ) where
  pub length_sheet : n ≤ length jobs → length (sheet_of jobs n) ≡ n
  length_sheet h = length-map (take n jobs) job_of ∙ omega (arith, length-take n jobs)

  -- the job at place `k`, counted from 0
  pub job_placed : (k : ℕ) → k < n → get_or (sheet_of jobs n) k no_job ≡ job_of (get_or jobs k [])
  job_placed k h = job_read (take n jobs) k ∙ ap job_of (get_or-take n jobs k [] h)

  -- job `i`, counted from 1
  pub job_at : (i : ℕ) → In n i → job (sheet_of jobs n) i ≡ job_of (get_or jobs (i - 1) [])
  job_at i h = get_or-map job_of (take n jobs) (i - 1) [] ∙ ap job_of (get_or-take n jobs (i - 1) [] (omega arith))

  -- the job at place `k`, counted from 0
  pub job_suc : (k : ℕ) → k < n → job (sheet_of jobs n) (suc k) ≡ job_of (get_or jobs k [])
  job_suc k h = let e : suc k - 1 ≡ k = omega arith in job_at (suc k) (omega arith) ∙ ap (λ (m : ℕ). job_of (get_or jobs m [])) e
