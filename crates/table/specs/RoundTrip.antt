-- What is written is read, and what is read was written. Assumes nothing.
use Prim.Native.Nat.{ℕ, zero, suc, ◌+◌, ◌*◌, ◌≤◌, ◌<◌}
use native.Mathlib.Omega.{arith}
use Rattle.std.proofs.Math.Decide.{dec_lt}
use Rattle.std.specs.Prelude.{◌≡◌, length, take, drop}
use Rattle.std.proofs.Math.Path.{refl}
use Rattle.std.proofs.Common.{sym, ◌∙◌, length-drop, drop_at, take_all}
use mathlib.Core.List.{List, ◌++◌}
use Rattle.std.proofs.lemmas.List.{take-append-le, drop-append-le}
use Rattle.std.proofs.Math.Seq.{take-add}
use Rattle.sheet.specs.Model.{Sheet}
use Rattle.sheet.specs.Table.{Entry}
use Rattle.blocks.specs.Sizes.{block_bytes, block_slots}
use Rattle.blocks.specs.File.{block_for, written, blocks_of, bytes_of}
use Rattle.blocks.specs.FileLaws.{length_block, length_written, length_bytes}
use Rattle.table.specs.Reading.{Table, total, block_at, good, Says}

module _ (t : ℕ) (σ : Sheet) (rows : List Entry) (few : length σ ≤ block_slots) where
  pub block_written : (k b : ℕ) → b < k → block_at (written t σ rows k) b ≡ block_for t σ rows b
  unfolding written
  block_written zero b h = absurd (omega arith)
  block_written (suc k) b h = go (dec_lt b k) (block_written k b)
    where
      W : List ℕ
      W = written t σ rows k

      go : Dec (b < k) → (b < k → block_at W b ≡ block_for t σ rows b) → block_at (W ++ block_for t σ rows k) b ≡ block_for t σ rows b
      go (yes l) f =
          let w = length_written t σ rows few k in
          let a : block_bytes * b ≤ length W = omega arith in
          let c : block_bytes ≤ length (drop (block_bytes * b) W) = omega (arith, length-drop (block_bytes * b) W) in
          rw (drop-append-le (block_bytes * b) W (block_for t σ rows k) a, take-append-le block_bytes (drop (block_bytes * b) W) (block_for t σ rows k) c) (f l)
      go (no n) f =
          let e : b ≡ k = omega arith in
          rw (e, drop_at W (block_for t σ rows k) (block_bytes * k) (length_written t σ rows few k)) (take_all block_bytes (block_for t σ rows k) (omega (arith, length_block t σ rows few k)))

  -- a file whose blocks are these is these
  pub blocks_written : (file : List ℕ) (k : ℕ) → ((b : ℕ) → b < k → block_at file b ≡ block_for t σ rows b) → take (block_bytes * k) file ≡ written t σ rows k
  unfolding written
  blocks_written file zero f = refl
  blocks_written file (suc k) f =
      let e : block_bytes * suc k ≡ block_bytes * k + block_bytes = omega arith in
      rw (e, take-add (block_bytes * k) block_bytes file, blocks_written file k (λ b h. f b (omega arith)), f k (omega arith)) refl

-- LAW: a table that is written is read
pub table_says : (σ : Sheet) (rows : List Entry) → Table σ rows → Says (bytes_of σ rows) (good σ rows)
table_says σ rows t =
    let l : length (bytes_of σ rows) ≡ block_bytes * blocks_of (length rows) = length_bytes σ rows (omega (arith, t.sheet.few_jobs)) in
    let n : total (bytes_of σ rows) ≡ blocks_of (length rows) = omega arith in (
      record { whole = omega arith; long = omega arith; short = omega arith },
      record {
        here = omega arith;
        sheet = t.sheet;
        form = t.form;
        some = omega arith;
        few = omega arith;
        full = λ h. absurd (omega arith);
        blocks = λ b h. rw n (block_written (blocks_of (length rows)) σ rows (omega (arith, t.sheet.few_jobs)) (blocks_of (length rows)) b (omega arith));
      },
    )

-- LAW: what a good file says is a table, and the file is the table's bytes
pub says_table : (file : List ℕ) (σ : Sheet) (rows : List Entry) → Says file (good σ rows) → Table σ rows × (file ≡ bytes_of σ rows)
says_table file σ rows s =
    let r = s.1 in
    let long = s.0.long in
    let n : total file ≡ blocks_of (length rows) = omega (arith, r.some, r.few) in
    (record { sheet = r.sheet; form = r.form; some = omega (arith, r.some); few = omega (arith, r.few, s.0.short) }, back n)
  where
    back : total file ≡ blocks_of (length rows) → file ≡ bytes_of σ rows
    back n =
        let w : take (block_bytes * blocks_of (length rows)) file ≡ written (blocks_of (length rows)) σ rows (blocks_of (length rows)) =
        blocks_written (blocks_of (length rows)) σ rows (omega (arith, s.1.sheet.few_jobs)) file (blocks_of (length rows)) (λ b h. rw n at (s.1.blocks b (omega arith))) in
        sym (take_all (block_bytes * blocks_of (length rows)) file (omega (arith, s.0.whole))) ∙ w
