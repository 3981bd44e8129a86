-- As many as there are places. Assumes nothing.
use Rattle.table.specs.PlaceLaws.{count_seen}
use Rattle.table.proofs.place.Rows.count.Goals as goal

pub returns-clause-same : goal.returns-clause-same
returns-clause-same c = count_seen _ _ _ c.self.view_is
