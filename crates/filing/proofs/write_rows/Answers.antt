-- Before each turn the header and the slots so far stand in front. Assumes nothing.
use Rattle.std.proofs.Common.{refl, ap, ◌∙◌, List, map}
use Rattle.sheet.specs.Table.{Entry}
use Rattle.blocks.specs.File.{block_of, row_slot}
use Rattle.writer.specs.WriteLaws.{filled_none, filled_more, filled_all}
use Rattle.filing.specs.FilingLaws.{rows_at}
use Rattle.filing.specs.PlaceLaws.{place_small}
use Rattle.filing.proofs.write_rows.Goals as goal

pub loop-s-init : goal.loop-s-init
loop-s-init c = filled_none c.args.part.now c.requires.part_len (rw (c.to_bytes.ensures, c.requires.used) at c.put.ensures)

pub slot_at-requires : goal.slot_at-requires
slot_at-requires c = (place_small c.requires.places_in.0 c.loop-s.s c.loop-s-test.true, c.requires.places_in.0.words)

pub loop-s-preserved : goal.loop-s-preserved
loop-s-preserved c =
    filled_more (λ x. refl) c.requires.places_in.1 c.loop-s.invariant c.loop-s-test.true c.slot_at.ensures c.put-in-loop-s.ensures

pub returns : goal.returns
returns c =
    let a = c.args in
    filled_all c.loop-s.invariant c.loop-s-test.false c.seal.ensures
    ∙ ap (λ (l : List Entry). block_of a.header.jobs a.header.number a.header.total (map row_slot l)) (rows_at a.work.now a.places.now)
