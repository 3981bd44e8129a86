-- The detail of refusal 2: "a job is of bad form", "lowest such job" (01, "Calls, numbers and order").
use Rattle.std.specs.Prelude.{ℕ, zero, suc, ◌+◌, Bool, not, cond, ◌&&◌, length, eqb, leb}
use Rattle.sheet.specs.declared.Job.{Job}
use Rattle.sheet.specs.Model.{Sheet, job}

-- the lowest of 1, .., n that passes the test `p`, and 0 where there is none
unfoldable pub lowest : ℕ → (ℕ → Bool) → ℕ
lowest zero p = 0
lowest (suc n) p = cond (eqb (lowest n p) 0) (cond (p (suc n)) (suc n) 0) (lowest n p)

-- "Good form: 1 ≤ B ≤ W ≤ D and A + D ≤ 255, in true sums"
abbrev pub good : Job → Bool
good j = leb 1 j.fewest && (leb j.fewest j.most && (leb j.most j.due && leb (j.arrives + j.due) 255))

abbrev pub lowest_bad : Sheet → ℕ
lowest_bad σ = lowest (length σ) (λ i. not (good (job σ i)))
