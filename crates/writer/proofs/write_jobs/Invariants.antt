-- `write_jobs`: before each turn the header and the slots so far stand in front. Assumes nothing.
use Rattle.std.proofs.Common.{length, get_or}
use Rattle.sheet.specs.Model.{no_job}
use Rattle.blocks.specs.File.{job_slot}
use Rattle.writer.specs.WriteLaws.{Filled}
use Rattle.writer.proofs.write_jobs.Given as goal

abbrev pub invariant-loop-s : goal.invariant-loop-s
invariant-loop-s l = Filled job_slot (length l.sheet) 0 l.total (length l.sheet) (λ i. get_or l.sheet i no_job) l.part l.s
