-- What is below stays below, and what is not stays not. Assumes nothing.
use Rattle.std.proofs.Common.{arith, ◌∙◌}
use Rattle.table.specs.PlaceLaws.{count_seen, word_seen, ascend_seen, search_up, search_down}
use Rattle.table.proofs.place.Rows.lower.Goals as goal

pub loop-lo-init : goal.loop-lo-init
loop-lo-init c =
    let n = count_seen _ _ _ c.self.view_is in
    record { ordered = omega arith; inside = omega arith; below = λ i h. absurd (omega arith); above = λ i h l. absurd (omega arith) }

pub word_at-requires : goal.word_at-requires
word_at-requires c =
    let n = count_seen _ _ _ c.self.view_is in
    (omega (arith, c.self.invariant.few), c.self.invariant.inside _ (omega arith))

pub loop-lo-preserved-then-word_at-word : goal.loop-lo-preserved-then-word_at-word
loop-lo-preserved-then-word_at-word c =
    let v = c.loop-lo.invariant in
    let w = c.word_at.ensures ∙ word_seen _ _ _ c.self.view_is _ (omega arith) in
    record {
      ordered = omega arith;
      inside = v.inside;
      below = search_up c.args.self.now c.args.word _ (ascend_seen _ _ _ c.self.view_is c.self.invariant.ascend) (omega arith) (omega arith);
      above = v.above;
    }

pub loop-lo-preserved : goal.loop-lo-preserved
loop-lo-preserved c =
    let v = c.loop-lo.invariant in
    let w = c.word_at.ensures ∙ word_seen _ _ _ c.self.view_is _ (omega arith) in
    record {
      ordered = omega arith;
      inside = omega arith;
      below = v.below;
      above = search_down c.args.self.now c.args.word _ (ascend_seen _ _ _ c.self.view_is c.self.invariant.ascend) (omega arith) (omega arith);
    }
