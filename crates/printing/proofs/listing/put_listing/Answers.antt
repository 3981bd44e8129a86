-- `put_listing`: header and rows are the listing of what the file says. Assumes nothing.
use Rattle.std.proofs.Common.{arith, ℕ, List, length, get_or, sym, ap, subst, ◌∙◌}
use Rattle.table.specs.PlaceLaws.{jobs_number}
use Rattle.lines.specs.LineLaws.{header_length}
use Rattle.lines.specs.Pages.{Adds}
use Rattle.lines.specs.PagesLaws.{adds_then}
use Rattle.printing.specs.RowLinesLaws.{jobs_few, lines_listing}
use Rattle.printing.proofs.listing.put_listing.Goals as goal

pub put_rows-requires : goal.put_rows-requires
put_rows-requires c =
    let s = c.requires.0.2 in
    let n = jobs_number s in
    let k = jobs_few s in
    let l = header_length (get_or c.args.file.now 3 0) c.count.result (omega arith) (omega (arith, c.count.ensures.few)) in
    (omega arith, omega (arith, l, c.count.ensures.same, c.count.ensures.few))

pub returns : goal.returns
returns c = λ σ rows s.
    let a = c.args in
    let n = get_or a.file.now 3 0 in
    let r = c.of-rows.ensures σ rows s in
    let count = c.count.ensures.same ∙ ap length r in
    subst (λ (t : List ℕ). Adds a.page.now t c.put_rows.new.page) (lines_listing σ rows n c.count.result (sym (jobs_number s)) count)
    (adds_then c.put_header.ensures (rw r at c.put_rows.ensures))
