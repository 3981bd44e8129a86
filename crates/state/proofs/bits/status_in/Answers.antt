-- The word shifted by 2 (k − 1) has its base-four digit at k − 1 in its lowest two bits.
use Rattle.std.proofs.Common.{◌-◌, sym, ◌∙◌, arith}
use Rattle.state.specs.BitLaws.{four_pow}
use Rattle.state.specs.WordBack.{digit_at}
use Rattle.state.proofs.bits.status_in.Goals as goal

pub returns : goal.returns
returns c = c.in_low_bits.ensures ∙ rw (four_pow (c.args.k - 1)) (sym (digit_at 8 c.args.word (c.args.k - 1) (omega arith)))
