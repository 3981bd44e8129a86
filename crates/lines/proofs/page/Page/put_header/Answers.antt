-- `put_header`: the two numbers and their words are the header's fields. Assumes nothing.
use Rattle.std.proofs.Common.{arith, ◌≡◌, ◌≤◌, length, length-append}
use Rattle.lines.specs.Digits.{decimal}
use Rattle.lines.specs.Lines.{line}
use Rattle.lines.specs.DigitsLaws.{length_8, length_32}
use borrow.Author.Rules.{rules}
use Rattle.lines.proofs.page.Page.put_header.Goals as goal

-- of two numbers, whichever they are, so that a wrong one is refused by the text and not for want of room
pub put_pair-requires : goal.put_pair-requires
put_pair-requires c =
    let e : c.from-jobs.result ≡ c.args.n = search rules in
    let d : length (decimal c.from-jobs.result) ≤ 3 = length_8 c.from-jobs.result (omega (arith, e, c.ranges.n.fits)) in
    simp length-append (omega (arith, d, length_32 c.args.rows c.ranges.rows.fits))

pub returns : goal.returns
unfolding line
returns c = let e : c.from-jobs.result ≡ c.args.n = search rules in rw e at c.put_pair.ensures
