-- A status as the code has it, and the number that the rules give it.
use Rattle.std.specs.Prelude.{ℕ, ◌≡◌, ◌≤◌, ◌<◌, List, get_or, Result, MatchResult}
use Rattle.state.specs.declared.status.Status.{Status}
use Rattle.state.specs.declared.status.Status.TheVariants.{Coming, Ready, Running, Done}
use Rattle.state.specs.declared.status.UnknownStatus.{UnknownStatus}

-- "Each job is 0 not arrived, 1 ready, 2 running or 3 done."
abbrev pub number_of : Status → ℕ
number_of Coming = 0
number_of Ready = 1
number_of Running = 2
number_of Done = 3

-- the same of the numbers of eight jobs
abbrev pub Known : List ℕ → Type 0
Known l = (k : ℕ) → get_or l k 0 ≤ 3

-- the status that has the number, or none has it
abbrev pub Numbers : ℕ → Result Status UnknownStatus → Type 0
Numbers n r = MatchResult r (λ s. number_of s ≡ n) (λ _. 3 < n)
