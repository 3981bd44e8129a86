-- Every list of bytes says something, which is found block by block. Assumes nothing.
use Rattle.std.specs.Prelude.{ℕ, zero, suc, ◌+◌, ◌-◌, ◌%◌, ◌≤◌, ◌≡◌, List, length}
use Rattle.std.proofs.Common.{arith}
use Rattle.std.proofs.Math.Decide.{dec_le, ℕ_discrete}
use Rattle.blocks.specs.Sizes.{block_bytes}
use Rattle.blocks.specs.Bytes.{EachByte}
use Rattle.form.specs.BlockTest.{RowsBlock, JobsBlock, jobs_in}
use Rattle.table.specs.Reading.{total, block_at, Sized, Reading, good, bad, Says}
use Rattle.table.specs.BlockRight.{before}
use Rattle.table.specs.FileRight.{SoFar, sized_of, length_bad, first_bad, first_good, next_bad, next_good, all_good}
use Rattle.table.specs.Decide.{dec_rows_block, dec_jobs_block}

module _ (file : List ℕ) (small : EachByte file) where
  abbrev Read : Type 0
  Read = (x : Reading) × Says file x

  rest : Sized file → (m b : ℕ) → b + m ≡ total file → SoFar file b → Read
  rest sized zero b e s = (good (jobs_in (block_at file 0)) s.1, all_good file sized b s (omega arith))
  rest sized (suc m) b e s = go (dec_rows_block (block_at file b) (jobs_in (block_at file 0)) (total file) b (before file b)) (λ t. rest sized m (b + 1) (omega arith) t)
    where
      go : Dec (RowsBlock (jobs_in (block_at file 0)) (total file) b (before file b) (block_at file b)) → (SoFar file (b + 1) → Read) → Read
      go (yes t) f = f (next_good file sized b s small (omega arith) t)
      go (no n) f = (bad b, next_bad file sized b s (omega arith) n)

  first : Sized file → Dec (JobsBlock (total file) (block_at file 0)) → Read
  first sized (yes t) = rest sized (total file - 1) 1 (omega (arith, sized.long)) (first_good file sized small t)
  first sized (no n) = (bad 0, first_bad file sized n)

  pub says_some : Read
  says_some = go (ℕ_discrete (length file % block_bytes) 0) (dec_le 1024 (length file)) (dec_le (length file) 65536)
    where
      go : Dec (length file % block_bytes ≡ 0) → Dec (1024 ≤ length file) → Dec (length file ≤ 65536) → Read
      go (yes a) (yes b) (yes c) = let s = sized_of file a b c in first s (dec_jobs_block (block_at file 0) (total file))
      go (no n) b c = (bad 0, length_bad file (λ s. n (omega (arith, s.whole))))
      go (yes a) (no n) c = (bad 0, length_bad file (λ s. n (omega (arith, s.whole, s.long))))
      go (yes a) (yes b) (no n) = (bad 0, length_bad file (λ s. n (omega (arith, s.whole, s.short))))
