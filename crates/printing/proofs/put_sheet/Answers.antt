-- `put_sheet`: what the maker answered is what is printed. Assumes nothing.
use Rattle.std.proofs.Common.{refl, sym, length-take-le}
use Rattle.printing.specs.MadeLaws.{made_refused, made_listed, refusal_some}
use borrow.Author.Rules.{rules}
use Rattle.printing.proofs.put_sheet.Goals as goal

pub slice_bounds-file-end : goal.slice_bounds-file-end
slice_bounds-file-end c = (made_listed c.in-Ok.ensures c.requires.0 (search rules) (search rules) refl).within

pub slice_bounds-put_listing-end : goal.slice_bounds-put_listing-end
slice_bounds-put_listing-end c =
    sym (length-take-le c.in-Ok.length c.make_file.new.out (made_listed c.in-Ok.ensures c.requires.0 (search rules) (search rules) refl).within)

pub put_listing-requires : goal.put_listing-requires
put_listing-requires c =
    let l = made_listed c.in-Ok.ensures c.requires.0 (search rules) (search rules) refl in
    ((_, l.rows, l.says), search rules)

pub returns-in-Ok : goal.returns-in-Ok
returns-in-Ok c =
    let l = made_listed c.in-Ok.ensures c.requires.0 (search rules) (search rules) refl in
    (_, l.text, c.put_listing.ensures _ l.rows l.says)

pub returns-in-Err : goal.returns-in-Err
returns-in-Err c =
    (_, made_refused c.in-Err.ensures c.requires.0 (search rules) (search rules) (refusal_some c.in-Err.refusal), rw (c.number.ensures, c.detail.ensures) at c.put_refusal.ensures)
