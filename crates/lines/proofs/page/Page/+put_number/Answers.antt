-- `put_number`: a number below ten is its one digit; the digits of a greater one are those of its tenth and the last. Assumes nothing.
use Rattle.std.proofs.Common.{arith, ◌≡◌, ◌%◌, ap, length}
use Rattle.lines.specs.DigitsLaws.{one_digit, more_digits, one_more}
use Rattle.lines.specs.PagesLaws.{adds_then}
use Rattle.lines.proofs.page.Page.+put_number.Goals as goal
use Rattle.lines.proofs.page.Page.+put_number.Goals.{then-n-ge10, else-n-ge10}

pub put_number-requires : goal.put_number-requires
put_number-requires t c = (omega arith, omega (arith, one_more c.args.n c.if-n-ge10.true))

pub put_digit-requires : goal.put_digit-requires
put_digit-requires t c =
    let which = c.if-n-ge10.branch in (
      omega arith,
      elim which [
        | then-n-ge10 w ↦ rw w.self-is (omega (arith, one_more c.args.n w.if-n-ge10.true))
        | else-n-ge10 w ↦ rw w.self-is (omega (arith, ap length (one_digit c.args.n w.if-n-ge10.false)))
      ],
    )

pub returns : goal.returns
returns t c =
    elim c.if-n-ge10.branch [
      | then-n-ge10 w ↦ rw (more_digits c.args.n w.if-n-ge10.true) (adds_then w.put_number.ensures (rw w.self-is at c.put_digit.ensures))
      | else-n-ge10 d ↦
          let e : c.args.n % 10 ≡ c.args.n = omega (arith, d.if-n-ge10.false) in
          rw (one_digit c.args.n d.if-n-ge10.false, ← e, ← d.self-is) c.put_digit.ensures
    ]
