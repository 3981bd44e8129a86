-- Each status is added in its place; at the end the three parts are joined. Assumes nothing.
use Rattle.std.proofs.Common.{ℕ, ◌+◌, ◌*◌, ◌≡◌, ap, sym, ◌∙◌, rules, arith, length}
use Rattle.state.proofs.Packing.{packed, none_packed, packed_lt, pack_turn, all_packed, join}
use Rattle.state.proofs.word.State.word.Goals as goal

pub loop-i-init : goal.loop-i-init
loop-i-init c = sym (none_packed c.args.self.statuses)

pub overflow_add-word : goal.overflow_add-word
overflow_add-word c =
    let l = c.args.self.statuses in
    let i = c.loop-i.i in
    let eight : length l ≡ 8 = search rules in
    record { fits = rw (c.loop-i.invariant, c.from.ensures, pack_turn l eight c.args.self.known i c.loop-i-test.true) (omega (arith, packed_lt l eight c.args.self.known (i + 1))) }

pub loop-i-preserved : goal.loop-i-preserved
loop-i-preserved c =
    let l = c.args.self.statuses in
    let i = c.loop-i.i in
    let eight : length l ≡ 8 = search rules in
    rw (c.loop-i.invariant, c.from.ensures) (pack_turn l eight c.args.self.known i c.loop-i-test.true)

pub returns : goal.returns
returns c =
    let l = c.args.self.statuses in
    let eight : length l ≡ 8 = search rules in
    let i : c.loop-i.i ≡ 8 = omega arith in
    let w : c.loop-i.word ≡ packed l 8 = rw i at c.loop-i.invariant in
    rw (c.from-2.ensures, c.from-3.ensures, w) (join c.args.self.now c.args.self.elapsed.0 (packed l 8) (search rules) (search rules) (packed_lt l eight c.args.self.known 8) ∙ ap (λ (w : ℕ). c.args.self.now * 16777216 + c.args.self.elapsed.0 * 65536 + w) (all_packed l eight c.args.self.known))
