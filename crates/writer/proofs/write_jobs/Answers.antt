-- `write_jobs`: before each turn the header and the slots so far stand in front. Assumes nothing.
use Rattle.std.proofs.Common.{arith, List, length, map, refl, sym, ap, ◌∙◌}
use Rattle.sheet.specs.declared.Job.{Job}
use Rattle.sheet.specs.Model.{no_job}
use Rattle.sheet.proofs.ArraysLaws.{job_there}
use Rattle.blocks.specs.File.{block_of, job_slot}
use Rattle.blocks.specs.TabLaws.{is_tab}
use Rattle.writer.specs.WriteLaws.{filled_none, filled_more, filled_all}
use Rattle.writer.proofs.write_jobs.Goals as goal

pub loop-s-init : goal.loop-s-init
loop-s-init c = filled_none c.args.part.now c.requires (rw (c.to_bytes.ensures, c.count-count.ensures.same) at c.put.ensures)

pub loop-s-preserved : goal.loop-s-preserved
loop-s-preserved c =
    let n = c.jobs-numbers-items.ensures.many in
    let here = c.from.ensures ∙ job_there c.jobs-numbers-items.result.now c.args.sheet.now c.loop-s.s c.jobs-numbers-items.ensures.same in
    filled_more (λ x. refl) (omega arith) c.loop-s.invariant (omega arith)
    (rw here at c.job_slot.ensures) c.put-in-loop-s.ensures

pub returns : goal.returns
returns c =
    let s = c.args.sheet.now in
    let n = c.jobs-numbers-items.ensures.many in
    filled_all c.loop-s.invariant (omega arith) (rw c.count-count.ensures.same at c.seal.ensures)
    ∙ ap (λ (jobs : List Job). block_of (length s) 0 c.args.total (map job_slot jobs)) (sym (is_tab s no_job))
