-- `number_in_front`: before each turn the bytes passed are digits. Assumes nothing.
use Rattle.std.proofs.Common.{arith, refl}
use Rattle.text.specs.FieldLaws.{passed_none, passed_more, passed_other, passed_ended}
use Rattle.text.proofs.read.number_in_front.Goals as goal
use Rattle.text.proofs.read.number_in_front.Goals.{then-digits-eq-MOST_DIGITS-via-then-digits-eq-MOST_DIGITS, then-digits-eq-MOST_DIGITS-via-else-digits-eq-MOST_DIGITS+then-not-is_ascii_digit}

pub loop-digits-init : goal.loop-digits-init
loop-digits-init c = passed_none c.args.text.now

pub returns-then-digits-eq-MOST_DIGITS : goal.returns-then-digits-eq-MOST_DIGITS
returns-then-digits-eq-MOST_DIGITS c =
    let l = c.loop-digits in
    passed_other c.args.text.now l.digits l.value l.invariant _ c.args.end refl c.requires (λ q. absurd (c.if-b-end.false q)) (λ d.
    elim c.then-digits-eq-MOST_DIGITS.branch [
      | then-digits-eq-MOST_DIGITS-via-then-digits-eq-MOST_DIGITS w ↦ omega arith
      | then-digits-eq-MOST_DIGITS-via-else-digits-eq-MOST_DIGITS+then-not-is_ascii_digit w ↦
          absurd (omega (arith, w.if-not-is_ascii_digit.ensures.cases))
    ])

pub loop-digits-preserved : goal.loop-digits-preserved
loop-digits-preserved c =
    let l = c.loop-digits in
    rw c.from.ensures (passed_more c.args.text.now l.digits l.value l.invariant _ refl (omega arith) (omega arith) c.if-not-is_ascii_digit.ensures.cases)

pub returns : goal.returns
returns c = let l = c.loop-digits in passed_ended c.args.text.now l.digits l.value l.invariant c.args.end (omega arith) c.requires
