-- The rows of the blocks up to the last. Assumes nothing.
use Rattle.std.proofs.Common.{arith}
use Rattle.table.proofs.place.count_rows.Goals as goal

pub rows_to-requires : goal.rows_to-requires
rows_to-requires c = (c.requires, (omega (arith, c.requires.long), omega (arith, c.requires.long)))

pub returns : goal.returns
returns c = omega (arith, c.rows_to.ensures, c.requires.long)
