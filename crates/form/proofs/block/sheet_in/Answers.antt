-- The first of the eight jobs are those of the sheet. Assumes nothing.
use Rattle.std.proofs.Common.{◌≤◌, ◌≡◌, arith, ap, ◌∙◌}
use Rattle.sheet.specs.Model.{no_job}
use Rattle.sheet.specs.Arrays.{job_of, sheet_of}
use Rattle.sheet.proofs.ArraysLaws.{length_sheet, job_placed}
use Rattle.blocks.specs.Fields.{slot_at, job_from}
use Rattle.blocks.specs.Tab.{tab}
use Rattle.blocks.specs.TabLaws.{tab_is}
use Rattle.form.proofs.block.sheet_in.Goals as goal

pub returns : goal.returns
returns c =
    let block = c.args.block.now in
    let jobs = c.loop-s.job-items in
    let n = c.from.result in
    let few : n ≤ 8 = omega arith in
    let front : sheet_of jobs n ≡ tab n (λ s. job_from block (slot_at s)) =
    tab_is (sheet_of jobs n) n (λ s. job_from block (slot_at s)) no_job (length_sheet jobs n (omega (arith, c.loop-s.invariant.0)))
    (λ i h. job_placed jobs n i h ∙ ap job_of (c.loop-s.invariant.1 i (omega arith))) in
    rw c.from.ensures at (c.from_jobs.ensures ∙ front)
