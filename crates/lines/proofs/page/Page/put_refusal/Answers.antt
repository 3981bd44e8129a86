-- `put_refusal`: the two numbers and their words are the refusal's fields. Assumes nothing.
use Rattle.std.proofs.Common.{arith, length-append}
use Rattle.lines.specs.Lines.{line}
use Rattle.lines.specs.DigitsLaws.{length_32}
use Rattle.lines.proofs.page.Page.put_refusal.Goals as goal

pub put_pair-requires : goal.put_pair-requires
put_pair-requires c = simp length-append (omega (arith, length_32 c.args.number c.ranges.number.fits, length_32 c.args.detail c.ranges.detail.fits))

pub returns : goal.returns
unfolding line
returns c = c.put_pair.ensures
