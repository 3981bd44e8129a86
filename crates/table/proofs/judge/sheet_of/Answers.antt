-- A good file opens, and its block 0 has the jobs. Assumes nothing.
use Rattle.std.proofs.Common.{arith, ap, ◌∙◌}
use Rattle.form.specs.BlockTest.{jobs_in}
use Rattle.table.specs.FileRight.{good_opens, jobs_said}
use Rattle.table.proofs.judge.sheet_of.Goals as goal

pub block_at-requires : goal.block_at-requires
block_at-requires c = let s = c.requires.2.0 in omega (arith, s.whole, s.long)

pub sheet_in-requires : goal.sheet_in-requires
sheet_in-requires c = let o = good_opens c.args.file.now c.requires in rw c.block_at.ensures o.1.few

pub returns : goal.returns
returns c = λ σ rows s. c.sheet_in.ensures ∙ (ap jobs_in c.block_at.ensures ∙ jobs_said c.args.file.now σ rows s)
