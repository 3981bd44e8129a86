-- `reading`: the one thing that a file says (`says_reading`, `says_one`).
use Rattle.std.specs.Prelude.{ℕ, List}
use Rattle.table.specs.Reading.{Reading, bad}
use Rattle.table.specs.Decide.{dec_bytes}
use Rattle.table.specs.SomeReading.{says_some}

-- what a file says; a list that is no list of bytes is no file, and counts as bad
unfoldable pub reading : List ℕ → Reading
reading file = elim (dec_bytes file) [ yes small ↦ (says_some file small).0 | no n ↦ bad 0 ]
