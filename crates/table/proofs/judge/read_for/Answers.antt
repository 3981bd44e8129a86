-- The rows up to the last block read. Assumes nothing.
use Rattle.std.proofs.Common.{refl}
use Rattle.std.proofs.lemmas.Result.{err_from_is_err_and}
use Rattle.table.specs.PastLaws.{same_said}
use Rattle.table.proofs.judge.read_for.Goals as goal

pub returns-in_err-b : goal.returns-in_err-b
returns-in_err-b c =
    let p = err_from_is_err_and c.from_residual.result c.from_residual.ensures.1 in
    rw (p.1, p.2) c.in_err-b.ensures

pub read-requires : goal.read-requires
read-requires c = let e = c.in_ok-b.ensures in (e.4.1, (e.0, (e.1, e.2, e.3)))

pub returns : goal.returns
returns c = let e = c.in_ok-b.ensures in (e.1, same_said refl (c.read.ensures _ _ e.3) e.4)
