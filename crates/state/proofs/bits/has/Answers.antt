-- 1 << (k − 1) is 2^(k − 1), and the masked byte is zero exactly where that bit is clear.
use Prim.Native.Nat.{◌-◌}
use borrow.Author.Rules.{rules}
use Rattle.state.specs.BitLaws.{one_shl, test_bit}
use Rattle.state.proofs.bits.has.Goals as goal

pub returns : goal.returns
returns c = rw (one_shl 8 (c.args.k - 1) (search rules)) (test_bit c.args.starts (c.args.k - 1))
