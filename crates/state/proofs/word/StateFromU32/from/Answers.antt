-- After i turns the first i statuses are the word's first i digits, and the others are the digits of the rest. Assumes nothing.
use Rattle.std.proofs.Common.{rules, refl, ◌/◌}
use Rattle.sheet.specs.Model.{digits}
use Rattle.state.proofs.Packing.{low_byte, unpack_turn, unpacked, unpacked_known}
use Rattle.state.proofs.word.StateFromU32.from.Goals as goal

pub loop-status-preserved : goal.loop-status-preserved
loop-status-preserved c =
    let l = c.loop-status in
    (search rules, unpack_turn (digits 8 c.args.word) l.status-items l.status-index l.rest l.invariant.0 l.invariant.1 c.loop-status-test.true)

pub invariant_of-result : goal.invariant_of-result
invariant_of-result c =
    let w = c.args.word in
    let l = c.loop-status in
    record { known = unpacked_known w l.status-items (unpacked (digits 8 w) l.status-items l.status-index l.rest l.invariant.0 l.invariant.1 c.loop-status-test.false) }

pub returns : goal.returns
returns c =
    let w = c.args.word in
    let l = c.loop-status in
    rw (low_byte (w / 65536), unpacked (digits 8 w) l.status-items l.status-index l.rest l.invariant.0 l.invariant.1 c.loop-status-test.false) refl
