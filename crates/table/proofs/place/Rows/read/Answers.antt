-- The rows of good blocks, in their places. Assumes nothing.
use Rattle.std.proofs.Common.{ℕ, ◌≡◌, length, List, sym, ap, subst, ◌∙◌}
use Rattle.sheet.specs.Model.{Sheet}
use Rattle.sheet.specs.Table.{Entry}
use Rattle.table.specs.Reading.{Reads}
use Rattle.table.specs.Places.{rows_in, Placed}
use Rattle.table.specs.PlaceLaws.{rows_read, rows_are, rows_placed}
use Rattle.table.proofs.place.Rows.read.Goals as goal

counted : (c : goal.After-rows_to) (σ : Sheet) (rows : List Entry) → Reads c.args.file.now c.args.b σ rows → length rows ≡ c.rows_to.result
counted c σ rows r = rows_read c.requires.0 r c.requires.1.0 ∙ sym c.rows_to.ensures

pub rows_to-requires : goal.rows_to-requires
rows_to-requires c = (c.requires.0, (c.requires.1.0, c.requires.1.1.2.here))

pub invariant_of-result : goal.invariant_of-result
invariant_of-result c =
    let g = c.requires.1.1 in
    subst (Placed c.args.file.now) (counted c g.0 g.1 g.2) (rows_placed c.requires.0 g.2)

pub returns : goal.returns
returns c =
    λ σ rows r. ap (λ (n : ℕ). rows_in c.args.file.now n) (sym (counted c σ rows r)) ∙ rows_are c.requires.0 r
