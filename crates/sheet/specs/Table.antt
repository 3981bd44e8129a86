-- The table of a sheet as a list of rows, each as it is written: word, byte of starts, tick code (01, "Safe states", "Table file").
use Rattle.std.specs.Prelude.{ℕ, suc, ◌<◌, ◌≡◌, length, get_or}
use mathlib.Core.List.{List, Memᴰ}
use Rattle.plant.specs.Plant.{Row}
use Rattle.plant.specs.Marks.{Starts, Code}
use Rattle.sheet.specs.Model.{Sheet, State, word, plant}

pub record Entry : Type 0 where
  pub word : ℕ
  pub starts : ℕ
  pub tick : ℕ

-- the entry at place `i`, from 0; what stands past the last is no entry
abbrev pub no_entry : Entry
no_entry = record { word = 0; starts = 0; tick = 0 }

abbrev pub at : List Entry → ℕ → Entry
at l i = get_or l i no_entry

-- "in strictly ascending order of word"
abbrev pub Ascending : List Entry → Type 0
Ascending l = (i : ℕ) → suc i < length l → (at l i).word < (at l (suc i)).word

-- the row of a state
pub record EntryOf (σ : Sheet) (q : State) (e : Entry) : Type 0 where
  pub word : e.word ≡ word q
  pub starts : Starts (plant σ) q e.starts
  pub tick : Code (plant σ) q e.tick

-- "a row for each state reached from the start by possible events that lead from safe to safe states", and no other
pub record Rows (σ : Sheet) (l : List Entry) : Type 0 where
  pub ascending : Ascending l
  pub each : (e : Entry) → Memᴰ e l → (q : State) × Row (plant σ) q × EntryOf σ q e
  pub every : (q : State) → Row (plant σ) q → (e : Entry) × Memᴰ e l × EntryOf σ q e
