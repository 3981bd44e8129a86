-- The part from the block's place on. Assumes nothing.
use Rattle.std.proofs.Common.{◌≡◌, ◌+◌, ◌-◌, ◌*◌, arith}
use Rattle.blocks.specs.Sizes.{block_bytes}
use Rattle.table.proofs.judge.block_at.Goals as goal

pub returns : goal.returns
returns c =
    let e : block_bytes * c.args.b + block_bytes - block_bytes * c.args.b ≡ block_bytes = omega arith in
    rw e at c.as_block.ensures
