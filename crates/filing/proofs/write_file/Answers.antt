-- Before each turn the blocks so far stand in front, and the rest is as it was. Assumes nothing.
use Rattle.std.proofs.Common.{ℕ, ◌+◌, ◌-◌, ◌*◌, ◌≤◌, ◌≡◌, refl, ap, ◌∙◌, arith, List, ◌++◌, length, drop, take, length-append, length-drop, length-take}
use borrow.Rule.Slice.PartMut.{same_len_mid}
use Rattle.blocks.specs.Sizes.{block_bytes, block_slots}
use Rattle.blocks.specs.File.{blocks_of}
use Rattle.blocks.specs.FileLaws.{block_more, block_first}
use Rattle.filing.specs.Filing.{entries_at}
use Rattle.filing.specs.FilingLaws.{part_of, rows_block, all_filed}
use Rattle.filing.specs.PlaceLaws.{part_in}
use Rattle.filing.proofs.write_file.Goals as goal

pub slice_bounds-write_jobs-end-2 : goal.slice_bounds-write_jobs-end-2
slice_bounds-write_jobs-end-2 c = omega (arith, length-take block_bytes c.args.out.now, c.requires.room)

pub write_jobs-requires : goal.write_jobs-requires
write_jobs-requires c = omega (arith, length-take block_bytes c.args.out.now, c.requires.room)

pub loop-b-init : goal.loop-b-init
loop-b-init c =
    let a = c.args in
    let few : length a.sheet.now ≤ block_slots = omega (arith, c.count-n.ensures.same, c.count-n.ensures.few) in (
      omega (arith, length-append c.write_jobs.new.part (drop block_bytes a.out.now), length-drop block_bytes a.out.now, length-take block_bytes a.out.now, c.write_jobs.auto.part, c.requires.room),
      block_first c.blocks_of-total.result a.sheet.now (entries_at a.work.now a.places.now) few a.out.now c.write_jobs.new.part _ c.write_jobs.ensures refl,
    )

pub write_rows-requires-clause-places_in : goal.write_rows-requires-clause-places_in
write_rows-requires-clause-places_in c =
    let from = block_slots * (c.loop-b.b - 1) in
    let l = c.args.places.now in (
      part_in c.requires.places_in (c.min-end.result - from) from,
      omega (arith, length-take (c.min-end.result - from) (drop from l), c.min-end.ensures),
    )

pub loop-b-preserved : goal.loop-b-preserved
loop-b-preserved c =
    let a = c.args in
    let l = c.loop-b in
    let w = c.write_rows in
    let t = c.blocks_of-total.result in
    let σ = a.sheet.now in
    let from = block_slots * (l.b - 1) in
    let e : (block_bytes * l.b + block_bytes) - block_bytes * l.b ≡ block_bytes = omega arith in
    let part : take (c.min-end.result - from) (drop from a.places.now) ≡ take block_slots (drop from a.places.now) =
    rw c.min-end.ensures (part_of a.places.now from (omega (arith, c.loop-b-test.true, c.blocks_of-total.ensures))) in
    let few : length σ ≤ block_slots = omega (arith, c.count-n.ensures.same, c.count-n.ensures.few) in
    let block = rows_block c.count-n.result t l.b a.work.now a.places.now _ σ w.new.part (omega arith) c.count-n.ensures.same part w.ensures in (
      same_len_mid (block_bytes * l.b) (block_bytes * l.b + block_bytes - block_bytes * l.b) l.out w.new.part w.auto.part ∙ l.invariant.0,
      block_more t σ (entries_at a.work.now a.places.now) few a.out.now l.out w.new.part _ l.b l.invariant.1 block (rw e refl),
    )

pub returns : goal.returns
returns c =
    let a = c.args in
    let l = c.loop-b in
    let t = c.blocks_of-total in
    let e : l.b ≡ blocks_of (length a.places.now) = omega (arith, t.ensures) in
    rw (e, t.ensures) at l.invariant.1
    ∙ ap (λ (w : List ℕ). w ++ drop (block_bytes * blocks_of (length a.places.now)) a.out.now) (all_filed a.work.now a.places.now a.sheet.now)
