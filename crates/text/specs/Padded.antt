-- Numbers held at the front of an array, with zeros past the last.
use Rattle.std.specs.Prelude.{ℕ, ◌-◌, ◌≤◌, ◌≡◌, List, length, drop, replicate}
use Rattle.text.specs.SheetText.{most_numbers}

-- the first `count` of so many
pub record Padded (numbers : List ℕ) (count : ℕ) : Type 0 where
  pub few : count ≤ most_numbers
  pub room : length numbers ≡ most_numbers
  pub zeros : drop count numbers ≡ replicate (most_numbers - count) 0
