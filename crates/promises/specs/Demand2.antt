-- Demand 2 of the calls, a field a sentence with the user's words above it.
use Rattle.std.specs.Prelude.{ℕ, ◌-◌, ◌≤◌, ◌≡◌, ◌≢◌, ◌↔◌, List, length}
use Rattle.plant.specs.Plant.{Row}
use Rattle.plant.specs.Marks.{Starts, Code}
use Rattle.sheet.specs.Model.{Sheet, State, word, plant}
use Rattle.sheet.specs.Table.{Entry, at, Rows}
use Rattle.blocks.specs.File.{bytes_of}
use Rattle.table.specs.Reading.{Table, good}
use Rattle.table.specs.Read.{reading}
use Rattle.table.specs.Replies.{refused, row_reply, listed, listing_reply}
use Rattle.table.specs.declared.row.RowReply.{RowReply}
use Rattle.state.specs.Lent.{lent}
use Rattle.quick.specs.Quick.{Quick}

-- of the file that make left at the front of the output, in reply to these numbers
pub record Demand2 (numbers file : List ℕ) : Type 0 where
  pub rows : List Entry
  -- "The table is the one that timed supervisory control defines ..: a row for each state met under it and no other, with exactly the
  -- starts and the tick allowed there."
  pub right : Rows (lent numbers) rows
  -- "A table file read back gives the same jobs and rows"
  pub read : reading file ≡ good (lent numbers) rows
  -- so the row call answers, for the word of each state met, the starts and the tick of the definitions, and for another word 8
  pub row : (q : State) → Row (plant (lent numbers)) q → ((row_reply (word q) (reading file)).number ≡ 0)
      × Starts (plant (lent numbers)) q (row_reply (word q) (reading file)).starts
      × Code (plant (lent numbers)) q (row_reply (word q) (reading file)).tick
  pub no_row : (w : ℕ) → ((q : State) → Row (plant (lent numbers)) q → word q ≢ w) → row_reply w (reading file) ≡ refused 8 0
  -- "For every file of good form the reply equals the full row call's." (02, #104)
  pub quick_row : (w : ℕ) (r : RowReply) → Quick file w r → r ≡ row_reply w (reading file)
  -- and the listing call has the jobs and the rows, one after the other
  pub listing : (i : ℕ) → 1 ≤ i → i ≤ length rows → listing_reply i (reading file) ≡ listed (lent numbers) rows (at rows (i - 1))

-- "and a file that breaks a rule of form is not read": the files that are read are those of jobs and rows of good form
abbrev pub ReadExactly : Type 0
ReadExactly = (file : List ℕ) (σ : Sheet) (rows : List Entry) → (reading file ≡ good σ rows) ↔ (Table σ rows × (file ≡ bytes_of σ rows))
