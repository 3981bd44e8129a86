-- The number at the row's place. Assumes nothing.
use Rattle.std.proofs.Common.{ℕ, ap, ◌∙◌}
use Rattle.blocks.specs.Bytes.{u32_at}
use Rattle.table.proofs.place.word_at.Goals as goal

pub returns : goal.returns
returns c = c.read32.ensures ∙ ap (λ (p : ℕ). u32_at c.args.file.now p) c.place_of.ensures
