-- What is left above n is 0 exactly if nothing stands there. Assumes nothing.
use Rattle.std.proofs.Common.{rules, ◌*◌, ◌/◌, ◌^◌, bit_and}
use Rattle.plant.specs.Reflect.{is_map, is_eq}
use Rattle.form.specs.DigitLaws.{past_none, none_past, clear_from, clear_past}
use Rattle.form.proofs.row.ends.Goals as goal

pub returns-then-row-n-eq0 : goal.returns-then-row-n-eq0
returns-then-row-n-eq0 c =
    let a = c.args in
    rw c.from.ensures (is_map
    (λ z. record { statuses = past_none a.n a.row.word c.if-row-n-eq0.true; bits = λ i h l. clear_from a.n a.row.starts z i l })
    (λ e. clear_past a.n a.row.starts (search rules) e.bits)
    (is_eq (a.row.starts / 2 ^ a.n) 0))

pub returns-else-row-n-eq0 : goal.returns-else-row-n-eq0
returns-else-row-n-eq0 c =
    let a = c.args in
    is_map (λ z. absurd (c.if-row-n-eq0.false z)) (λ e. none_past a.n a.row.word e.statuses) (is_eq (bit_and a.row.word 65535 / 2 ^ (2 * a.n)) 0)
