-- Before each turn the header and the slots so far stand in front.
use Rattle.std.proofs.Common.{length, get_or}
use Rattle.blocks.specs.File.{row_slot}
use Rattle.writer.specs.WriteLaws.{Filled}
use Rattle.filing.specs.Filing.{entry_at}
use Rattle.filing.proofs.write_rows.Given as goal

abbrev pub invariant-loop-s : goal.invariant-loop-s
invariant-loop-s l = Filled row_slot l.fn.header.jobs l.fn.header.number l.fn.header.total (length l.places) (λ i. entry_at l.work (get_or l.places i 0)) l.part l.s
