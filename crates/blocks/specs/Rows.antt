-- A row as the code holds it is the rules' entry.
use Rattle.sheet.specs.Table.{Entry}
use Rattle.blocks.specs.declared.row.Row.{Row}

-- "Row: word (4 bytes), starts, tick code" (01, "Table file")
abbrev pub entry_of : Row → Entry
entry_of r = record { word = r.word; starts = r.starts; tick = r.tick }
