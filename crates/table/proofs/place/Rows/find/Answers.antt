-- Ascending rows: the first that is not below has the word, or none has. Assumes nothing.
use Rattle.std.proofs.Common.{◌<◌, ◌≢◌, length, ap, arith, ◌∙◌}
use Rattle.sheet.specs.Table.{Entry, at}
use Rattle.table.specs.PlaceLaws.{count_seen, ascend_seen, found_none}
use Rattle.table.proofs.place.Rows.find.Goals as goal
use Rattle.table.proofs.place.Rows.find.Goals.{else-i-self-via-then-i-self+else-row-word, else-i-self-via-else-i-self}

pub row-requires : goal.row-requires
row-requires c = let n = count_seen _ _ _ c.self.view_is in omega arith

pub returns-then-row-word : goal.returns-then-row-word
returns-then-row-word c =
    let n = count_seen _ _ _ c.self.view_is in
    let w = ap (λ (x : Entry). x.word) c.row.ensures in
    (omega arith, omega arith)

pub returns-else-i-self : goal.returns-else-i-self
returns-else-i-self c =
    let n = count_seen _ _ _ c.self.view_is in
    let low = c.lower-i.ensures in
    found_none c.args.self.now c.args.word c.lower-i.result low.below low.above other (ascend_seen _ _ _ c.self.view_is c.self.invariant.ascend)
  where
    other : c.lower-i.result < length c.args.self.now → (at c.args.self.now c.lower-i.result).word ≢ c.args.word
    other h e =
        let n = count_seen _ _ _ c.self.view_is in
        elim c.else-i-self.branch [
          | else-i-self-via-then-i-self+else-row-word w ↦ w.if-row-word.false (ap (λ (x : Entry). x.word) w.row.ensures ∙ e)
          | else-i-self-via-else-i-self w ↦ absurd (omega (arith, w.if-i-self.false))
        ]
