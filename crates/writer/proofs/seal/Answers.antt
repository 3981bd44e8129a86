-- `seal`: the zeros, then the check of what stands before it. Assumes nothing.
use Rattle.std.proofs.Common.{arith, ◌∙◌}
use Rattle.blocks.specs.BytesLaws.{le32_bytes}
use Rattle.writer.specs.WriteLaws.{sealed_is}
use Rattle.writer.proofs.seal.Goals as goal

pub returns : goal.returns
returns c =
    let bytes = c.to_le_bytes.ensures ∙ le32_bytes c.check_of-check.result (omega arith) in
    let p = rw (bytes, c.check_of-check.ensures.0, c.as_block.ensures) at c.put.ensures in
    sealed_is c.args.part.now c.put_zeros.new.out c.put.new.out c.args.at c.requires.0 c.requires.1 c.put_zeros.ensures p
