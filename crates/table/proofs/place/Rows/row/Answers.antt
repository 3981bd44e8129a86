-- The row at its place. Assumes nothing.
use Rattle.std.proofs.Common.{ℕ, arith, ap, ◌∙◌}
use Rattle.blocks.specs.Fields.{row_from}
use Rattle.table.specs.PlaceLaws.{count_seen, row_seen}
use Rattle.table.proofs.place.Rows.row.Goals as goal

pub place_of-requires : goal.place_of-requires
place_of-requires c = omega (arith, count_seen _ _ _ c.self.view_is, c.self.invariant.few)

pub read-requires : goal.read-requires
read-requires c = omega (arith, c.self.invariant.inside c.args.i (omega (arith, count_seen _ _ _ c.self.view_is)), c.place_of.ensures)

pub returns : goal.returns
returns c =
    c.read.ensures
    ∙ (ap (λ (p : ℕ). row_from c.self.inside.file.now p) c.place_of.ensures
    ∙ row_seen _ _ _ c.self.view_is c.args.i c.requires)
