-- The byte of slots used, in its block. Assumes nothing.
use Rattle.std.proofs.Common.{arith}
use Rattle.table.specs.ReadingLaws.{at_block}
use Rattle.table.proofs.place.rows_to.Goals as goal

pub returns : goal.returns
returns c = omega (arith, c.from.ensures, at_block c.args.file.now c.args.b 3 (omega arith))
