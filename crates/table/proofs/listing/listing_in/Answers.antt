-- A row number from 1 to the count is that of a row. Assumes nothing.
use Rattle.std.proofs.Common.{arith, sym, ◌∙◌}
use Rattle.table.specs.PlaceLaws.{jobs_number}
use Rattle.table.specs.ListingLaws.{list_none, list_found}
use Rattle.table.proofs.listing.listing_in.Goals as goal

pub returns-then-row_number-lt1 : goal.returns-then-row_number-lt1
returns-then-row_number-lt1 c = list_none c.requires.1 c.args.row_number (λ h. omega (arith, c.count-count.ensures.same))

pub returns : goal.returns
returns c =
    let n = c.count-count.ensures.same in
    list_found c.requires.1 c.args.row_number _ _ _ c.row-row.result (c.from.ensures ∙ sym (jobs_number c.requires.1)) n c.numbers_of.ensures c.row-row.ensures (omega arith) (omega arith)
