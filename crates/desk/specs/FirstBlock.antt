-- The sheet of a good file as the code reads it off block 0. Assumes nothing.
use Rattle.std.specs.Prelude.{ℕ, ◌≡◌, List, length, get_or, take}
use Rattle.std.proofs.Common.{arith, sym, subst, ◌∙◌, ext_get_or}
use Rattle.sheet.specs.declared.Job.{Job}
use Rattle.sheet.specs.Model.{Sheet, no_job}
use Rattle.sheet.specs.Table.{Entry}
use Rattle.blocks.specs.Sizes.{block_bytes}
use Rattle.blocks.specs.Bytes.{EachByte}
use Rattle.blocks.specs.Fields.{slot_at, job_from}
use Rattle.blocks.specs.TabLaws.{length_tab, get_or_tab}
use Rattle.form.specs.BlockTest.{jobs_in}
use Rattle.table.specs.Reading.{block_at, good, Says}
use Rattle.table.specs.ReadingLaws.{jobs_count, job_there}
use Rattle.table.specs.Read.{reading}
use Rattle.table.specs.ReadLaws.{says_reading}

-- what a file whose reading is good says
pub said : (file : List ℕ) → EachByte file → {σ : Sheet} {rows : List Entry} → reading file ≡ good σ rows → Says file (good σ rows)
said file small e = subst (Says file) e (says_reading file small)

module _ {file : List ℕ} {σ : Sheet} {rows : List Entry} (s : Says file (good σ rows)) where
  pub sheet_read : jobs_in (take block_bytes file) ≡ σ
  sheet_read = ext_get_or no_job (jobs_in (block_at file 0)) σ (size ∙ sym n) (λ i h. get_or_tab (get_or (block_at file 0) 3 0) read no_job i (omega (arith, size)) ∙ job_there s.0 s.1 i (omega (arith, size, n)))
    where
      read : ℕ → Job
      read i = job_from (block_at file 0) (slot_at i)

      n : length σ ≡ get_or (block_at file 0) 3 0
      n = jobs_count s.0 s.1

      size : length (jobs_in (block_at file 0)) ≡ get_or (block_at file 0) 3 0
      size = length_tab (get_or (block_at file 0) 3 0) read
