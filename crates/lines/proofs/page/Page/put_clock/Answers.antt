-- `put_clock`: a byte has three digits at most. Assumes nothing.
use Rattle.std.proofs.Common.{arith}
use Rattle.lines.specs.DigitsLaws.{length_8}
use Rattle.lines.specs.PagesLaws.{adds_then}
use Rattle.lines.proofs.page.Page.put_clock.Goals as goal

pub put_number-requires : goal.put_number-requires
put_number-requires c = rw c.from.ensures (omega (arith, length_8 c.args.ticks c.ranges.ticks.fits))

pub put-requires : goal.put-requires
put-requires c = let a = rw c.from.ensures at c.put_number.ensures in omega (arith, a.printed.behind, length_8 c.args.ticks c.ranges.ticks.fits)

pub returns : goal.returns
returns c =
    let a = rw c.from.ensures at c.put_number.ensures in
    record { prints = adds_then a c.put.ensures; few = omega (arith, a.printed.behind, length_8 c.args.ticks c.ranges.ticks.fits) }
