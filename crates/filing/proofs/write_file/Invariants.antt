-- Before each turn the blocks so far stand in front, and the rest is as it was.
use Rattle.std.proofs.Common.{◌*◌, ◌≡◌, ◌++◌, length, drop}
use Rattle.blocks.specs.Sizes.{block_bytes}
use Rattle.blocks.specs.File.{written}
use Rattle.filing.specs.Filing.{entries_at}
use Rattle.filing.proofs.write_file.Given as goal

abbrev pub invariant-loop-b : goal.invariant-loop-b
invariant-loop-b l =
    (length l.out ≡ length l.fn.out) × (l.out ≡ written l.total l.sheet (entries_at l.work l.places) l.b ++ drop (block_bytes * l.b) l.fn.out)
