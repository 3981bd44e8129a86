-- The loop over blocks is the reading for a word. Assumes nothing.
use Rattle.std.specs.Prelude.{ℕ, ◌+◌, ◌-◌, ◌≤◌, ◌<◌, ◌≡◌, Bool, true, false, List, [], length}
use Rattle.std.proofs.Common.{arith, sym, subst, inl, inr}
use Rattle.std.proofs.Math.Decide.{dec_lt}
use Rattle.plant.specs.Reflect.{Is}
use Rattle.sheet.specs.Model.{Sheet}
use Rattle.sheet.specs.Table.{Entry}
use Rattle.state.specs.Tell.{told_yes, told_no}
use Rattle.blocks.specs.Bytes.{EachByte}
use Rattle.form.specs.BlockTest.{RowsBlock, JobsBlock, jobs_in}
use Rattle.table.specs.Reading.{total, block_at, Sized, Reads, good, bad, Says}
use Rattle.table.specs.ReadFor.{last_word, GoesPast, ReadFor}
use Rattle.table.specs.BlockRight.{before}
use Rattle.table.specs.JobsRight.{jobs_open}
use Rattle.table.specs.FileRight.{SoFar, first_good, next_not, next_good}

-- the blocks below `b` are read and gone past
abbrev pub Past : List ℕ → ℕ → ℕ → Type 0
Past file w b = SoFar file b × ((a : ℕ) → a < b → GoesPast file w a)

-- what the test of block `b` told, said of the sheet of block 0
module _ (file : List ℕ) (σ : Sheet) (b : ℕ) (r : Bool) (e : σ ≡ jobs_in (block_at file 0)) (told : Is r (RowsBlock σ (total file) b (before file b) (block_at file b))) where
  abbrev GoodBlock : Sheet → Type 0
  GoodBlock τ = RowsBlock τ (total file) b (before file b) (block_at file b)

  pub block_good : r ≡ true → GoodBlock (jobs_in (block_at file 0))
  block_good t = subst GoodBlock e (told_yes told t)

  pub block_bad : r ≡ false → ¬ (GoodBlock (jobs_in (block_at file 0)))
  block_bad t = subst (λ (τ : Sheet). ¬ (GoodBlock τ)) e (told_no told t)

-- no length of a file, or block 0 is bad
pub not_opened : (file : List ℕ) (w : ℕ) → Says file (bad 0) → ReadFor file w (bad 0)
not_opened file w (inl v) = inl v
not_opened file w (inr v) = inr (v.0, v.1, (λ a h. absurd (omega arith)), v.3)

module _ (file : List ℕ) (w : ℕ) (sized : Sized file) where
  -- block 0
  pub past_first : EachByte file → JobsBlock (total file) (block_at file 0) → Past file w 1
  past_first small t = (first_good file sized small t, only)
    where
      only : (a : ℕ) → a < 1 → GoesPast file w a
      only a h = let e : 0 ≡ a = omega arith in subst (GoesPast file w) e (jobs_in (block_at file 0), [], jobs_open file sized small t, λ l. absurd (omega arith))

  -- a block more
  module _ (b : ℕ) (s : Past file w b) (h : b < total file) where
    pub next_refused : ¬ (RowsBlock (jobs_in (block_at file 0)) (total file) b (before file b) (block_at file b)) → ReadFor file w (bad b)
    next_refused n = inr (sized, h, s.1, next_not file sized b s.0 h n)

    pub next_read : EachByte file → RowsBlock (jobs_in (block_at file 0)) (total file) b (before file b) (block_at file b) → (rows : List Entry) × Reads file b (jobs_in (block_at file 0)) rows
    next_read small t =
        let x = next_good file sized b s.0 small h t in
        let d : x.0 ≡ b = omega (arith, x.2) in
        (x.1, subst (λ (m : ℕ). Reads file m (jobs_in (block_at file 0)) x.1) d x.3)

    -- as the test of the block told it, of a sheet that is block 0's
    pub next_rows : EachByte file → (σ : Sheet) (r : Bool) → σ ≡ jobs_in (block_at file 0) → Is r (RowsBlock σ (total file) b (before file b) (block_at file b)) → r ≡ true
        → (rows : List Entry) × Reads file b (jobs_in (block_at file 0)) rows
    next_rows small σ r e told t = next_read small (block_good file σ b r e told t)

    module _ (rows : List Entry) (r : Reads file b (jobs_in (block_at file 0)) rows) where
      pub some_row : 1 ≤ length rows
      some_row = omega (arith, r.some, s.0.2)

      pub next_stops : w ≤ last_word rows → ReadFor file w (good (jobs_in (block_at file 0)) rows)
      next_stops l = (b, sized, s.1, r, inr (omega (arith, s.0.2), l))

      pub next_past : last_word rows < w → Past file w (b + 1)
      next_past l = ((b, rows, omega arith, r), λ a m. go a m (dec_lt a b))
        where
          go : (a : ℕ) → a < b + 1 → Dec (a < b) → GoesPast file w a
          go a m (yes p) = s.1 a p
          go a m (no p) = let e : b ≡ a = omega arith in subst (GoesPast file w) e (jobs_in (block_at file 0), rows, r, λ z. l)

  -- no block is left, and all end below
  module _ (b : ℕ) (s : Past file w b) (e : b ≡ total file) where
    pub all_read : Reads file (total file - 1) (jobs_in (block_at file 0)) s.0.1
    all_read = let d : s.0.0 ≡ total file - 1 = omega (arith, s.0.2) in subst (λ (m : ℕ). Reads file m (jobs_in (block_at file 0)) s.0.1) d s.0.3

    pub past_last : ReadFor file w (good (jobs_in (block_at file 0)) s.0.1)
    past_last = let long = sized.long in (total file - 1, sized, (λ a l. s.1 a (omega arith)), all_read, inl (omega arith))

-- jobs and rows that are these, are said too
pub same_said : {file : List ℕ} {w : ℕ} {σ τ : Sheet} {rows others : List Entry} → σ ≡ τ → rows ≡ others → ReadFor file w (good τ others) → ReadFor file w (good σ rows)
same_said {file} {w} e d s = subst (ReadFor file w) (λ i. good (sym e i) (sym d i)) s
