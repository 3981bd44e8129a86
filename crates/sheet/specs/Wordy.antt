-- The states that have a word.
use Rattle.std.specs.Prelude.{ℕ, ◌<◌, ◌≡◌, get_or, length}
use Rattle.sheet.specs.Model.{State}

-- what a word can hold: a byte for now and for elapsed, eight statuses of two bits
pub record Wordy (q : State) : Type 0 where
  pub now_fits : q.now < 256
  pub elapsed_fits : q.elapsed < 256
  pub eight : length q.statuses ≡ 8
  pub statuses_fit : (j : ℕ) → get_or q.statuses j 0 < 4
