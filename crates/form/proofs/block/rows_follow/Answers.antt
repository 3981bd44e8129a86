-- The four tests of a block of rows, one after the other. Assumes nothing.
use Rattle.plant.specs.Reflect.{is_map}
use Rattle.std.proofs.Common.{sym, ◌∙◌}
use Rattle.state.specs.Tell.{told_yes}
use Rattle.form.proofs.block.rows_follow.Goals as goal
use Rattle.form.proofs.block.rows_follow.Goals.{then-count_fits, else-count_fits, then-framed, else-framed}

pub returns-then-follows : goal.returns-then-follows
returns-then-follows c =
    elim c.if-framed.branch [
      | then-framed w ↦ elim c.if-count_fits.branch [
        | then-count_fits v ↦
            is_map
            (λ s. record {
              count = told_yes c.count_fits.ensures v.if-count_fits.true;
              frame = rw c.count.ensures.same at (told_yes v.framed.ensures (sym v.value-is ∙ w.if-framed.true));
              slots = s;
              follows = rw w.read32.ensures at (told_yes w.follows.ensures (sym w.value-is ∙ c.if-follows.true));
            })
            (λ p. p.slots)
            c.slots_good.ensures
        | else-count_fits v ↦ absurd (cc)
      ]
      | else-framed w ↦ absurd (cc)
    ]
