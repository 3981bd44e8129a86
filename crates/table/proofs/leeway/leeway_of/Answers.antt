-- The whole file says one thing only, and the reply is the reply to that. Assumes nothing.
use Rattle.std.proofs.Common.{arith, refl}
use Rattle.std.proofs.lemmas.Result.{err_from_is_err_and}
use Rattle.table.specs.Reading.{bad}
use Rattle.table.specs.ReadLaws.{answer_is}
use Rattle.table.specs.ReadForLaws.{whole_answer}
use Rattle.table.specs.Replies.{leeway_reply}
use Rattle.table.proofs.leeway.leeway_of.Goals as goal

pub returns-in_err-rows : goal.returns-in_err-rows
returns-in_err-rows c =
    let p = err_from_is_err_and c.from_residual.result c.from_residual.ensures.1 in
    whole_answer c.args.file.now (λ i. omega (arith, c.type_inv.file i)) (leeway_reply c.args.word c.args.job) _
    (bad _, c.in_err-rows.ensures, rw (p.1, p.2) refl)

pub returns : goal.returns
returns c = answer_is c.args.file.now (λ i. omega (arith, c.type_inv.file i)) (leeway_reply c.args.word c.args.job) _ c.leeway_in.ensures
