-- A status is its own lowest two bits. Assumes nothing.
use Rattle.std.proofs.Common.{arith, ◌∙◌}
use Rattle.state.proofs.word.State.status.Goals as goal

pub returns : goal.returns
returns c = rw c.from.ensures at c.in_low_bits.ensures ∙ omega (arith, c.args.self.known c.args.i)
