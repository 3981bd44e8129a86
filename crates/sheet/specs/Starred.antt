-- The starred sheets of 01, "Sheets worked by hand", that speak of the definitions: one table under one claim. `StarredLaws` has that each holds.
use Rattle.std.specs.Prelude.{ℕ}
use mathlib.Core.List.{List, [], ◌∷◌}
use Rattle.plant.specs.Plant.{Live, Safe}
use Rattle.plant.specs.Number.{Number}
use Rattle.sheet.specs.declared.Job.{Job}
use Rattle.sheet.specs.Model.{Sheet, Good, initial, plant}
use Rattle.sheet.specs.Table.{Entry, Rows}

-- The table ---------------------------------------------------------------------------------------------------------------

-- a sheet, how many live states it has, and its rows; none where it is impossible
pub record Star : Type 0 where
  pub sheet : Sheet
  pub live : ℕ
  pub rows : List Entry

abbrev j : ℕ → ℕ → ℕ → ℕ → Job
j a b w d = record { arrives = a; fewest = b; most = w; due = d }

abbrev r : ℕ → ℕ → ℕ → Entry
r w s t = record { word = w; starts = s; tick = t }

unfoldable pub stars : List Star
stars =
    -- 1: S1, 5 rows, 7 live states
    record { sheet = j 0 1 1 1 ∷ []; live = 7; rows = r 0 0 0 ∷ r 1 1 2 ∷ r 2 0 1 ∷ r 3 0 1 ∷ r 16842754 0 0 ∷ [] }
    -- 3 to 7: S2, 20 rows; at word 1 only the tick, at 16777221 job 2 held, at 33554445 job 1 or the tick, at 50331661 job 1 held
    ∷ record {
      sheet = j 0 2 4 7 ∷ j 1 1 2 4 ∷ [];
      live = 81;
      rows =
          r 0 0 0 ∷ r 1 0 1 ∷ r 15 0 1 ∷ r 16777217 0 0 ∷ r 16777221 2 2 ∷ r 16777225 0 1 ∷ r 33554445 1 1 ∷ r 33554446 0 1 ∷ r 33619977 0 1
          ∷ r 50331661 1 2 ∷ r 50331662 0 1 ∷ r 50397198 0 1 ∷ r 50462729 0 0 ∷ r 67174414 0 1 ∷ r 67239950 0 1 ∷ r 84017166 0 1
          ∷ r 84082702 0 1 ∷ r 100859918 0 1 ∷ r 100925454 0 0 ∷ r 117702670 0 0 ∷ [];
    }
    -- 8: impossible, though a lucky run meets both
    ∷ record { sheet = j 0 1 2 2 ∷ j 0 1 1 2 ∷ []; live = 28; rows = [] }
    -- 9: the same line twice, 15 rows (02, #101)
    ∷ record {
      sheet = j 0 1 1 2 ∷ j 0 1 1 2 ∷ [];
      live = 27;
      rows =
          r 0 0 0 ∷ r 1 0 0 ∷ r 4 0 0 ∷ r 5 3 2 ∷ r 6 0 1 ∷ r 9 0 1 ∷ r 15 0 1 ∷ r 16777223 2 2
          ∷ r 16777227 0 1 ∷ r 16777229 1 2 ∷ r 16777230 0 1 ∷ r 16842758 0 0 ∷ r 16842761 0 0 ∷ r 33619979 0 0 ∷ r 33619982 0 0 ∷ [];
    }
    ∷ []

-- The claim ---------------------------------------------------------------------------------------------------------------

-- refusal 5 where there is no row, and else exactly these rows
abbrev pub Outcome : Sheet → List Entry → Type 0
Outcome σ [] = ¬ (Safe (plant σ) initial)
Outcome σ (e ∷ l) = Rows σ (e ∷ l)

pub record Claim (x : Star) : Type 0 where
  pub good_form : Good x.sheet
  pub live_states : Number (Live (plant x.sheet)) x.live
  pub outcome : Outcome x.sheet x.rows
