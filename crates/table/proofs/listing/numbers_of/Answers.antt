-- Each number passed stands in its place. Assumes nothing.
use Rattle.std.proofs.Common.{◌+◌, ◌*◌, arith}
use Rattle.blocks.specs.Sizes.{header_bytes}
use Rattle.blocks.specs.Bytes.{u16_at}
use Rattle.blocks.specs.TabLaws.{tab_is}
use Rattle.table.proofs.listing.numbers_of.Goals as goal

pub returns : goal.returns
returns c =
    let l = c.loop-i in
    tab_is l.number-items 32 (λ i. u16_at c.args.file.now (header_bytes + 2 * i)) 0 l.invariant.0 (λ k h. l.invariant.1 k (omega arith))
