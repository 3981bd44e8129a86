-- What the reading of a file's blocks for a word answers: their rows, or the block that is bad.
use Rattle.std.specs.Prelude.{ℕ, ◌≤◌, ◌≡◌, List, Result, Ok, Err}
use Rattle.sheet.specs.Model.{Sheet}
use Rattle.sheet.specs.Table.{Entry}
use Rattle.state.specs.declared.refusal.Refusal.{Refusal}
use Rattle.state.specs.declared.refusal.Refusal.TheVariants.{BadBlock as RefusedBlock}
use Rattle.form.specs.BlockTest.{JobsBlock}
use Rattle.table.specs.Reading.{total, block_at, Sized, Reads, good, bad}
use Rattle.table.specs.ReadFor.{ReadFor}
use Rattle.table.specs.declared.judge.BadBlock.{BadBlock}
use Rattle.table.specs.declared.place.Rows.{Rows}

-- a length that files have, and a good block 0
abbrev pub Opens : List ℕ → Type 0
Opens file = Sized file × JobsBlock (total file) (block_at file 0)

-- the last block read, or the "lowest bad block"
abbrev pub JudgedTo : List ℕ → ℕ → Result ℕ BadBlock → Type 0
JudgedTo file w (Ok b) = (1 ≤ b) × (σ : Sheet) × (rows : List Entry) × Reads file b σ rows × ReadFor file w (good σ rows)
JudgedTo file w (Err e) = ReadFor file w (bad e.0)

-- the rows of the blocks read, or the lowest bad block
abbrev pub Judged : List ℕ → ℕ → Result Rows BadBlock → Type 0
Judged file w (Ok rows) = (σ : Sheet) × ReadFor file w (good σ rows)
Judged file w (Err e) = ReadFor file w (bad e.0)

-- it is refusal 7, with that block
abbrev pub IsRefusalFor : BadBlock → Refusal → Type 0
IsRefusalFor b e = e ≡ RefusedBlock b.0
