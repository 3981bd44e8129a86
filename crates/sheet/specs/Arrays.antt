-- A sheet as numbers: jobs as arrays of four, and the numbers that a call is lent as such arrays.
use Rattle.std.specs.Prelude.{ℕ, ◌+◌, ◌≡◌, List, [], ◌∷◌, map, get_or, take}
use Rattle.sheet.specs.declared.Job.{Job}
use Rattle.sheet.specs.Model.{Sheet}

-- "four numbers each .. arrival tick A, fewest ticks B, most ticks W, due ticks D" (01, "Sheet")
abbrev pub job_of : List ℕ → Job
job_of l = record { arrives = get_or l 0 0; fewest = get_or l 1 0; most = get_or l 2 0; due = get_or l 3 0 }

-- the code's `from`: the job of four numbers
abbrev pub IsJobOf : List ℕ → Job → Type 0
IsJobOf l j = j ≡ job_of l

-- the first `n` of the arrays are the sheet
abbrev pub sheet_of : List (List ℕ) → ℕ → Sheet
sheet_of jobs n = map job_of (take n jobs)

-- the four numbers from place `i` on, 0 past the end
abbrev pub four : List ℕ → ℕ → List ℕ
four l i = get_or l i 0 ∷ get_or l (i + 1) 0 ∷ get_or l (i + 2) 0 ∷ get_or l (i + 3) 0 ∷ []

-- "1 to 8 jobs of four numbers each, lent as unsigned 16-bit numbers, job after job", zeros past the last
unfoldable pub arrays : List ℕ → List (List ℕ)
arrays l = four l 0 ∷ four l 4 ∷ four l 8 ∷ four l 12 ∷ four l 16 ∷ four l 20 ∷ four l 24 ∷ four l 28 ∷ []
