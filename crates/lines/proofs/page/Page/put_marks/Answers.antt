-- `put_marks`: each piece stands behind the one before. Assumes nothing.
use native.Mathlib.Omega.{arith}
use Rattle.lines.specs.LineLaws.{starts_length, tick_length}
use Rattle.lines.specs.PagesLaws.{adds_then}
use Rattle.lines.proofs.page.Page.put_marks.Goals as goal

pub put-requires : goal.put-requires
put-requires c = omega (arith, starts_length c.args.n c.args.starts c.requires.0)

pub put_tick-requires : goal.put_tick-requires
put_tick-requires c = omega (arith, starts_length c.args.n c.args.starts c.requires.0, tick_length c.args.tick)

pub put-requires-2 : goal.put-requires-2
put-requires-2 c = omega (arith, starts_length c.args.n c.args.starts c.requires.0, tick_length c.args.tick)

pub returns : goal.returns
returns c = adds_then c.put_starts.ensures (adds_then c.put.ensures (adds_then c.put_tick.ensures c.put-2.ensures))
