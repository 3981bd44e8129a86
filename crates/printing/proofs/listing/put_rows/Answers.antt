-- `put_rows`: one row more is printed. Assumes nothing.
use Rattle.std.proofs.Common.{arith, ◌<◌, length}
use Rattle.blocks.specs.Rows.{entry_of}
use Rattle.lines.specs.LineLaws.{row_length}
use Rattle.lines.specs.PagesLaws.{adds_none, adds_then}
use Rattle.printing.specs.RowLinesLaws.{lines_none, lines_more}
use borrow.Author.Rules.{rules}
use Rattle.printing.proofs.listing.put_rows.Goals as goal

pub loop-i-init : goal.loop-i-init
loop-i-init c = (omega arith, rw (lines_none c.args.n c.args.rows.now) (adds_none c.args.page.now (omega arith)))

pub loop-i-preserved : goal.loop-i-preserved
loop-i-preserved c =
    let l = c.loop-i in
    let a = c.args in
    let p = c.put_row.ensures in
    let within : l.i < length a.rows.now = omega (arith, c.count-i-end.ensures.same) in
    let short = row_length a.n (entry_of c.row.result) c.requires.0 (search rules) in
    (omega (arith, l.invariant.0, p.printed.behind, short), rw (lines_more a.n a.rows.now l.i within, ← c.row.ensures) (adds_then l.invariant.1 p))
