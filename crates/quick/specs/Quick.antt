-- What the row call that stops reading early replies (02, #104).
use Rattle.std.specs.Prelude.{ℕ, List}
use Rattle.table.specs.ReadFor.{AnswersFor}
use Rattle.table.specs.Replies.{row_reply}
use Rattle.table.specs.declared.row.RowReply.{RowReply}

-- "7 exactly if a block read is bad, with that block; otherwise the row if a block read has it, else 8"
abbrev pub Quick : List ℕ → ℕ → RowReply → Type 0
Quick file w r = AnswersFor file w (row_reply w) r
