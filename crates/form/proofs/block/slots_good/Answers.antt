-- Each slot passed is good. Assumes nothing.
use Rattle.std.proofs.Common.{below_more}
use Rattle.state.specs.Tell.{told_yes}
use Rattle.form.proofs.block.slots_good.Goals as goal

pub loop-s-preserved : goal.loop-s-preserved
loop-s-preserved c = below_more _ _ c.loop-s.invariant (told_yes c.slot_good.ensures c.if-not-slot_good.false)
