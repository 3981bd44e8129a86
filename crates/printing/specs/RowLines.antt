-- The lines of a table's rows, the first so many. `RowLinesLaws` says that all of them are the listing's.
use Rattle.std.specs.Prelude.{ℕ, List, map, take}
use Rattle.sheet.specs.Table.{Entry}
use Rattle.blocks.specs.File.{joined}
use Rattle.lines.specs.Lines.{row_line}

abbrev pub lines_of : (n : ℕ) (rows : List Entry) (count : ℕ) → List ℕ
lines_of n rows count = joined (map (row_line n) (take count rows))
