-- A file that does not open is bad in block 0; another is read on. Assumes nothing.
use Rattle.state.specs.Tell.{told_no}
use Rattle.table.specs.FileRight.{not_opens}
use Rattle.table.specs.PastLaws.{not_opened}
use Rattle.table.proofs.judge.last_block.Goals as goal

pub returns-then-not-opens : goal.returns-then-not-opens
returns-then-not-opens c =
    let file = c.args.file.now in
    not_opened file c.args.word (not_opens file (told_no c.opens.ensures c.if-not-opens.true))
