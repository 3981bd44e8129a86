-- The whole file says one thing only, and the reply is the reply to that. Assumes nothing.
use Rattle.std.proofs.Common.{arith}
use Rattle.table.specs.ReadForLaws.{whole_answer}
use Rattle.table.specs.Replies.{row_reply}
use Rattle.table.proofs.row.row.Goals as goal

pub returns : goal.returns
returns c =
    let a = c.args in
    whole_answer a.file.now (λ i. omega (arith, c.type_inv.file i)) (row_reply a.word) _ c.row_read.ensures
