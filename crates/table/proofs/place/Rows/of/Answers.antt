-- The rows of a good file, in their places. Assumes nothing.
use Rattle.std.proofs.Common.{ℕ, ◌≡◌, length, List, sym, ap, subst, ◌∙◌}
use Rattle.sheet.specs.Model.{Sheet}
use Rattle.sheet.specs.Table.{Entry}
use Rattle.table.specs.Reading.{good, Says}
use Rattle.table.specs.Places.{rows_in, Placed}
use Rattle.table.specs.PlaceLaws.{rows_number, all_rows, all_placed}
use Rattle.table.proofs.place.Rows.of.Goals as goal

counted : (c : goal.After-count_rows) (σ : Sheet) (rows : List Entry) → Says c.args.file.now (good σ rows) → length rows ≡ c.count_rows.result
counted c σ rows s = rows_number s ∙ sym c.count_rows.ensures

pub count_rows-requires : goal.count_rows-requires
count_rows-requires c = c.requires.2.0

pub invariant_of-result : goal.invariant_of-result
invariant_of-result c =
    let g = c.requires in
    subst (Placed c.args.file.now) (counted c g.0 g.1 g.2) (all_placed g.2)

pub returns : goal.returns
returns c =
    λ σ rows s. ap (λ (n : ℕ). rows_in c.args.file.now n) (sym (counted c σ rows s)) ∙ all_rows s
