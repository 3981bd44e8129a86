-- 1 << (k − 1) is 2^(k − 1), and joining it adds it where that bit is clear.
use Prim.Native.Nat.{◌-◌}
use borrow.Author.Rules.{rules}
use Rattle.state.specs.BitLaws.{one_shl, or_bit}
use Rattle.state.proofs.bits.with.Goals as goal

pub returns : goal.returns
returns c = rw (one_shl 8 (c.args.k - 1) (search rules)) (or_bit c.args.starts (c.args.k - 1))
