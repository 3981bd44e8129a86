-- A bit of the look is the test of its event. Assumes nothing.
use Rattle.std.proofs.Common.{subst}
use Rattle.state.specs.Clocks.{model}
use Rattle.desk.specs.Moving.{JobFits}
use Rattle.desk.specs.MoveLaws.{look_tick, look_arrival, look_start, look_ending}
use Rattle.desk.proofs.moves.may.Goals as goal

pub returns-in-Tick : goal.returns-in-Tick
returns-in-Tick c = rw c.in-Tick.is (look_tick c.args.sheet.now (model c.args.s) _ c.look_at-look.ensures)

pub returns-in-Arrival : goal.returns-in-Arrival
returns-in-Arrival c =
    let e = c.in-Arrival.is in
    rw e (look_arrival c.args.sheet.now (model c.args.s) _ c.look_at-look.ensures _ (subst JobFits e c.requires) c.has.ensures)

pub returns-in-Start : goal.returns-in-Start
returns-in-Start c =
    let e = c.in-Start.is in
    rw e (look_start c.args.sheet.now (model c.args.s) _ c.look_at-look.ensures _ (subst JobFits e c.requires) c.has-in-Start.ensures)

pub returns-in-Ending : goal.returns-in-Ending
returns-in-Ending c =
    let e = c.in-Ending.is in
    rw e (look_ending c.args.sheet.now (model c.args.s) _ c.look_at-look.ensures _ (subst JobFits e c.requires) c.has-in-Ending.ensures)
