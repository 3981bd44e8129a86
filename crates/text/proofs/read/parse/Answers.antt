-- `parse`: before each turn the numbers read so far stand in front, and zeros past them. Assumes nothing.
use Rattle.std.proofs.Common.{arith, refl, inl, inr}
use Rattle.std.proofs.lemmas.Bool.Decides.{nat_tests}
use Rattle.std.proofs.lemmas.List.{take_rest}
use Rattle.text.specs.PaddedLaws.{padded_none, padded_more}
use Rattle.text.specs.ReadLaws.{so_far_none, so_far_more, so_far_stuck, so_far_full, so_far_short, so_far_whole}
use Rattle.text.proofs.read.parse.Goals as goal
use Rattle.text.proofs.read.parse.Goals.{then-count-eq0-via-then-count-eq0, then-count-eq0-via-else-count-eq0+then-count-ne0}

pub loop-rest-init : goal.loop-rest-init
loop-rest-init c = (so_far_none c.args.text.now _ refl, padded_none)

pub returns-then-count-eq-MOST : goal.returns-then-count-eq-MOST
returns-then-count-eq-MOST c =
    let l = c.loop-rest in
    so_far_full c.args.text.now l.numbers l.count l.rest.now l.invariant.0 (grind (arith, nat_tests)) (omega arith)

pub returns-in_err-digits : goal.returns-in_err-digits
returns-in_err-digits c =
    let l = c.loop-rest in
    let f = rw c.end_of.ensures at c.in_err-digits.ensures in
    rw c.from_residual.ensures (so_far_stuck c.args.text.now l.numbers l.count l.rest.now l.invariant.0 (grind (arith, nat_tests)) f)

pub loop-rest-preserved : goal.loop-rest-preserved
loop-rest-preserved c =
    let l = c.loop-rest in
    let d = c.in_ok-digits.field-0 in
    let f = rw c.end_of.ensures at c.in_ok-digits.ensures in
    (rw take_rest (so_far_more c.args.text.now l.numbers l.count l.rest.now l.invariant.0 d.digits d.value (omega arith) f), padded_more l.invariant.1 d.value (omega arith))

pub returns-then-count-eq0 : goal.returns-then-count-eq0
returns-then-count-eq0 c =
    let l = c.loop-rest in
    so_far_short c.args.text.now l.numbers l.count l.rest.now l.invariant.0 (grind (arith, nat_tests))
    (elim c.then-count-eq0.branch [
      | then-count-eq0-via-then-count-eq0 w ↦ inl w.if-count-eq0.true
      | then-count-eq0-via-else-count-eq0+then-count-ne0 w ↦ inr w.if-count-ne0.true
    ])

pub returns : goal.returns
returns c =
    let l = c.loop-rest in
    so_far_whole c.args.text.now l.numbers l.count l.rest.now l.invariant.0 (grind (arith, nat_tests)) (omega arith) c.if-count-ne0.false
