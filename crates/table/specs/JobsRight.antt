-- Block 0 that passes the test opens a reading, and one that opens a reading passes. Assumes nothing.
use Rattle.std.specs.Prelude.{ℕ, zero, suc, ◌-◌, ◌≤◌, ◌<◌, ◌≡◌, refl, List, [], map, length, get_or}
use Rattle.std.proofs.Common.{arith, ap, ◌∙◌}
use Rattle.sheet.specs.Model.{no_job}
use Rattle.sheet.specs.Arrays.{job_of, sheet_of}
use Rattle.blocks.specs.Sizes.{slot_bytes, most_jobs}
use Rattle.blocks.specs.Bytes.{EachByte}
use Rattle.blocks.specs.File.{job_slot, block_for}
use Rattle.blocks.specs.Fields.{slot_at, job_from}
use Rattle.blocks.specs.Tab.{tab}
use Rattle.blocks.specs.TabLaws.{length_tab, get_or_tab, take_tab, map_tab}
use Rattle.blocks.specs.BlockLaws.{framed}
use Rattle.blocks.specs.SlotLaws.{jobs_made}
use Rattle.form.specs.BlockTest.{JobsBlock, four_at, fours, jobs_in}
use Rattle.table.specs.Reading.{total, block_at, Sized, Reads, GoodTo}
use Rattle.table.specs.ReadingLaws.{jobs_count, job_there}
use Rattle.table.specs.BlockRight.{small_block}

-- the first n of the jobs of the first eight slots
pub sheet_in : (block : List ℕ) (n : ℕ) → n ≤ most_jobs → sheet_of (fours block) n ≡ tab n (λ s. job_from block (slot_at s))
unfolding fours
sheet_in block n h =
    ap (map job_of) (take_tab n most_jobs (λ s. four_at block (slot_at s)) h) ∙ map_tab job_of n (λ s. four_at block (slot_at s))

-- a block that passes opens a reading
pub jobs_open : (file : List ℕ) → Sized file → EachByte file → JobsBlock (total file) (block_at file 0) → Reads file 0 (jobs_in (block_at file 0)) []
jobs_open file sized small t =
    let block = block_at file 0 in
    let used = get_or block 3 0 in
    let l : length (jobs_in block) ≡ used = length_tab used (λ s. job_from block (slot_at s)) in
    record {
      here = omega (arith, sized.long);
      sheet = record {
        some_job = omega (arith, t.some);
        few_jobs = omega (arith, t.few);
        each = λ i h. let k : i - 1 < used = omega arith in rw (get_or_tab used (λ s. job_from block (slot_at s)) no_job (i - 1) k) (t.slots (i - 1) k);
      };
      form = record { each = λ i h. absurd (omega arith); ascending = λ i h. absurd (omega arith); first = refl };
      some = omega arith;
      few = omega arith;
      full = λ h. omega arith;
      blocks = λ b h. zero_block b h (rw l (jobs_made used 0 (total file) block used (omega (arith, t.few)) (small_block file small 0) t.frame));
    }
  where
    zero_block : (b : ℕ) → b ≤ 0 → block_at file 0 ≡ block_for (total file) (jobs_in (block_at file 0)) [] 0 → block_at file b ≡ block_for (total file) (jobs_in (block_at file 0)) [] b
    zero_block zero h e = e
    zero_block (suc b) h e = absurd (omega arith)

pub opens_jobs : (file : List ℕ) → Sized file → GoodTo file 0 → JobsBlock (total file) (block_at file 0)
opens_jobs file sized g =
    let r = g.2 in
    let σ = g.0 in
    let e : length σ ≡ get_or (block_at file 0) 3 0 = jobs_count sized r in
    record {
      some = omega (arith, r.sheet.some_job);
      few = omega (arith, r.sheet.few_jobs);
      frame = rw (← e) (framed slot_bytes job_slot (λ x. refl) (length σ) 0 (total file) σ (omega (arith, r.sheet.few_jobs)) (block_at file 0) (r.blocks 0 (omega arith)));
      slots = λ s h. let k : suc s - 1 ≡ s = omega arith in rw (job_there sized r s (omega arith)) (rw k at (r.sheet.each (suc s) (omega arith)));
    }
