-- The word's lowest 16 bits against n statuses 3. Assumes nothing.
use Rattle.std.proofs.Common.{rules, refl}
use Rattle.std.proofs.lemmas.Nat.{and_mask}
use Rattle.state.specs.BitLaws.{one_at}
use Rattle.form.proofs.row.all_done.Goals as goal

pub returns : goal.returns
returns c = rw (one_at c.args.n (search rules), and_mask c.args.word 16) refl
