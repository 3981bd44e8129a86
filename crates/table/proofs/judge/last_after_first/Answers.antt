-- The blocks passed end below the word; the next one is bad, ends the reading, or is passed too. Assumes nothing.
use Rattle.std.proofs.Common.{length, arith, ap, ◌∙◌}
use Rattle.form.specs.BlockTest.{jobs_in}
use Rattle.table.specs.Reading.{block_at}
use Rattle.table.specs.ReadFor.{last_word}
use Rattle.table.specs.PastLaws.{block_bad, past_first, next_refused, next_rows, some_row, next_stops, next_past, all_read, past_last}
use Rattle.table.proofs.judge.last_after_first.Goals as goal

pub loop-b-init : goal.loop-b-init
loop-b-init c = past_first c.args.file.now c.args.word c.requires.0 (λ i. omega (arith, c.type_inv.file i)) c.requires.1

pub returns-then-not-rows_good : goal.returns-then-not-rows_good
returns-then-not-rows_good c =
    let sheet = c.sheet_in-sheet.ensures ∙ ap jobs_in c.block_at.ensures in
    let bad = block_bad c.args.file.now _ _ _ sheet c.rows_good.ensures c.if-not-rows_good.true in
    next_refused c.args.file.now c.args.word c.requires.0 c.loop-b.b c.loop-b.invariant c.loop-b-test.true bad

pub read-requires : goal.read-requires
read-requires c =
    let sheet = c.sheet_in-sheet.ensures ∙ ap jobs_in c.block_at.ensures in
    let r = next_rows c.args.file.now c.args.word c.requires.0 c.loop-b.b c.loop-b.invariant c.loop-b-test.true (λ i. omega (arith, c.type_inv.file i))
    _ _ sheet c.rows_good.ensures c.if-not-rows_good.false in
    (c.requires.0, (omega arith, (jobs_in (block_at c.args.file.now 0), r.0, r.1)))

pub last_word-requires : goal.last_word-requires
last_word-requires c =
    let sheet = c.sheet_in-sheet.ensures ∙ ap jobs_in c.block_at.ensures in
    let r = next_rows c.args.file.now c.args.word c.requires.0 c.loop-b.b c.loop-b.invariant c.loop-b-test.true (λ i. omega (arith, c.type_inv.file i))
    _ _ sheet c.rows_good.ensures c.if-not-rows_good.false in
    let n = ap length (c.read.ensures _ _ r.1) in
    omega (arith, some_row c.args.file.now c.args.word c.requires.0 c.loop-b.b c.loop-b.invariant c.loop-b-test.true r.0 r.1)

pub returns-then-word-from : goal.returns-then-word-from
returns-then-word-from c =
    let sheet = c.sheet_in-sheet.ensures ∙ ap jobs_in c.block_at.ensures in
    let r = next_rows c.args.file.now c.args.word c.requires.0 c.loop-b.b c.loop-b.invariant c.loop-b-test.true (λ i. omega (arith, c.type_inv.file i))
    _ _ sheet c.rows_good.ensures c.if-not-rows_good.false in
    let last = ap last_word (c.read.ensures _ _ r.1) in (
      omega arith,
      jobs_in (block_at c.args.file.now 0),
      r.0,
      r.1,
      next_stops c.args.file.now c.args.word c.requires.0 c.loop-b.b c.loop-b.invariant c.loop-b-test.true r.0 r.1 (omega arith),
    )

pub loop-b-preserved : goal.loop-b-preserved
loop-b-preserved c =
    let sheet = c.sheet_in-sheet.ensures ∙ ap jobs_in c.block_at.ensures in
    let r = next_rows c.args.file.now c.args.word c.requires.0 c.loop-b.b c.loop-b.invariant c.loop-b-test.true (λ i. omega (arith, c.type_inv.file i))
    _ _ sheet c.rows_good.ensures c.if-not-rows_good.false in
    let last = ap last_word (c.read.ensures _ _ r.1) in
    next_past c.args.file.now c.args.word c.requires.0 c.loop-b.b c.loop-b.invariant c.loop-b-test.true r.0 r.1 (omega arith)

pub returns : goal.returns
returns c =
    let long = c.requires.0.long in
    let past = c.loop-b.invariant in
    let file = c.args.file.now in
    let word = c.args.word in (
      omega arith,
      jobs_in (block_at file 0),
      past.0.1,
      all_read file word c.requires.0 c.loop-b.b past (omega arith),
      past_last file word c.requires.0 c.loop-b.b past (omega arith),
    )
