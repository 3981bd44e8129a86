-- `put_text`: the numbers of a text that is a sheet go to the maker; any other is refused. Assumes nothing.
use Rattle.std.proofs.Common.{refl, inl, inr}
use Rattle.printing.specs.MadeLaws.{spelled_length}
use borrow.Author.Rules.{rules}
use Rattle.printing.proofs.put_text.Goals as goal

pub put_sheet-requires : goal.put_sheet-requires
put_sheet-requires c = (rw c.as_slice.ensures (spelled_length c.args.text.now c.in-Some.numbers c.in-Some.ensures), search rules)

pub returns-in-Some : goal.returns-in-Some
returns-in-Some c =
    let e = c.put_sheet.ensures in
    (e.0, inl (c.in-Some.numbers, c.in-Some.ensures, rw c.as_slice.ensures at e.1), e.2)

pub returns-in-None : goal.returns-in-None
returns-in-None c = (_, inr (c.in-None.ensures, refl), rw (c.number.ensures, c.detail.ensures) at c.put_refusal.ensures)
