-- The slot of the row that its key and its note make. Assumes nothing.
use Rattle.std.proofs.Common.{refl}
use Rattle.filing.proofs.slot_at.Goals as goal

pub returns : goal.returns
returns c = rw (c.row_slot.ensures, c.note_at.ensures, c.key_at.ensures, c.from-p.ensures) refl
