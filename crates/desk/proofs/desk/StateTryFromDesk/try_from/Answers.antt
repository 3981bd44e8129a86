-- The desk's statuses are known, or the first that is above 3 ends the search. Assumes nothing.
use Rattle.std.proofs.Common.{arith, ◌≡◌, length}
use Rattle.desk.specs.StepLaws.{all_known}
use borrow.Author.Rules.{rules}
use Rattle.desk.proofs.desk.StateTryFromDesk.try_from.Goals as goal

pub invariant_of-result : goal.invariant_of-result
invariant_of-result c =
    let d = c.args.desk in
    let n : length d.statuses ≡ 8 = search (rules, c.well_formed) in
    record { known = all_known d.statuses 8 n (λ k h. c.loop-byte.invariant k (omega (arith, c.loop-byte-test.false))) }
