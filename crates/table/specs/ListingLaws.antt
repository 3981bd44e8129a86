-- The 32 numbers of block 0, and what listing replies. Assumes nothing.
use Rattle.std.specs.Prelude.{ℕ, zero, suc, ◌+◌, ◌-◌, ◌*◌, ◌/◌, ◌%◌, ◌≤◌, ◌<◌, ◌≡◌, refl, List, length, get_or, set}
use Rattle.std.proofs.Common.{arith, sym, ap, subst, ◌∙◌, ext_get_or, get_or-set_same, get_or-set_other}
use Rattle.std.proofs.Math.Decide.{dec_lt}
use Rattle.std.proofs.Math.ListN.{get_or-eq_default}
use Rattle.plant.specs.Reflect.{is_le, is_and, is_true, is_false}
use Rattle.sheet.specs.declared.Job.{Job}
use Rattle.sheet.specs.Model.{Sheet, no_job}
use Rattle.sheet.specs.Table.{Entry, at}
use Rattle.blocks.specs.Sizes.{header_bytes}
use Rattle.blocks.specs.Bytes.{u16_at}
use Rattle.blocks.specs.Fields.{slot_at, job_from}
use Rattle.blocks.specs.Rows.{entry_of}
use Rattle.blocks.specs.declared.row.Row.{Row}
use Rattle.blocks.specs.Tab.{tab}
use Rattle.blocks.specs.TabLaws.{length_tab, get_or_tab}
use Rattle.table.specs.Reading.{block_at, good, Says}
use Rattle.table.specs.ReadingLaws.{in_first, jobs_framed, job_there}
use Rattle.table.specs.Replies.{Answers, number_of, numbers_of, unlisted, listing_reply}

pub numbers_tab : (out : List ℕ) (n : ℕ) (f : ℕ → ℕ) → length out ≡ n → ((k : ℕ) → k < n → get_or out k 0 ≡ f k) → out ≡ tab n f
numbers_tab out n f l e = ext_get_or 0 out (tab n f) (l ∙ sym (length_tab n f)) (λ i h. e i (omega arith) ∙ sym (get_or_tab n f 0 i (omega arith)))

module _ {file : List ℕ} {σ : Sheet} {rows : List Entry} (s : Says file (good σ rows)) where
  number_there : (i : ℕ) → i < 32 → u16_at file (header_bytes + 2 * i) ≡ number_of (get_or σ (i / 4) no_job) (i % 4)
  number_there i h = go (dec_lt (i / 4) (length σ))
    where
      pick : (m : ℕ) (j : Job) (b : List ℕ) (p : ℕ) → m < 4 → job_from b p ≡ j → u16_at b (p + 2 * m) ≡ number_of j m
      pick zero j b p l e = let z : p + 2 * 0 ≡ p = omega arith in rw z (ap (λ (x : Job). x.arrives) e)
      pick (suc zero) j b p l e = ap (λ (x : Job). x.fewest) e
      pick (suc (suc zero)) j b p l e = ap (λ (x : Job). x.most) e
      pick (suc (suc (suc zero))) j b p l e = ap (λ (x : Job). x.due) e
      pick (suc (suc (suc (suc m)))) j b p l e = absurd (omega arith)

      none : (m : ℕ) → 0 ≡ number_of no_job m
      none zero = refl
      none (suc zero) = refl
      none (suc (suc zero)) = refl
      none (suc (suc (suc m))) = refl

      go : Dec (i / 4 < length σ) → u16_at file (header_bytes + 2 * i) ≡ number_of (get_or σ (i / 4) no_job) (i % 4)
      go (yes l) =
          let e : 8 + 8 * (i / 4) + 2 * (i % 4) ≡ header_bytes + 2 * i = omega arith in
          sym (in_first file (header_bytes + 2 * i) (omega arith)) ∙ (rw e at
          (pick (i % 4) (get_or σ (i / 4) no_job) (block_at file 0) (slot_at (i / 4)) (omega arith) (job_there s.0 s.1 (i / 4) l)))
      go (no l) =
          let z = (jobs_framed s.0 s.1).zeros in
          let a = z (header_bytes + 2 * i) (omega arith) (omega arith) in
          let b = z (header_bytes + 2 * i + 1) (omega arith) (omega arith) in
          sym (in_first file (header_bytes + 2 * i)
          (omega arith)) ∙ (omega arith ∙ (none (i % 4) ∙ ap (λ (x : Job). number_of x (i % 4))
          (sym (get_or-eq_default σ no_job {n = i / 4} (omega arith)))))

  pub numbers_are : tab 32 (λ i. u16_at file (header_bytes + 2 * i)) ≡ numbers_of σ
  numbers_are =
      ext_get_or 0 (tab 32 (λ i. u16_at file (header_bytes + 2 * i))) (numbers_of σ)
      (length_tab 32 (λ i. u16_at file (header_bytes + 2 * i)) ∙ sym (length_tab 32 (λ i. number_of (get_or σ (i / 4) no_job) (i % 4))))
      (λ i h. let l : i < 32 = omega (arith, length_tab 32 (λ i. u16_at file (header_bytes + 2 * i))) in
      get_or_tab 32 (λ i. u16_at file (header_bytes + 2 * i)) 0 i l ∙ (number_there i l ∙ sym (get_or_tab 32 (λ i. number_of (get_or σ (i / 4) no_job) (i % 4)) 0 i l)))

-- a turn of the loop that fills an array
pub fill_turn : (out : List ℕ) (f : ℕ → ℕ) (i v : ℕ) → i < length out → v ≡ f i → ((k : ℕ) → k < i → get_or out k 0 ≡ f k) → (k : ℕ) → k < i + 1 → get_or (set out i v) k 0 ≡ f k
fill_turn out f i v h e g k l = go (dec_lt k i)
  where
    go : Dec (k < i) → get_or (set out i v) k 0 ≡ f k
    go (yes q) = get_or-set_other out i k v 0 (λ d. omega arith) ∙ g k q
    go (no q) = let d : i ≡ k = omega arith in subst (λ (x : ℕ). get_or (set out i v) x 0 ≡ f x) d (get_or-set_same out i v 0 h ∙ e)

module _ {file : List ℕ} {σ : Sheet} {rows : List Entry} (s : Says file (good σ rows)) (i : ℕ) where
  pub list_none : ¬ ((1 ≤ i) × (i ≤ length rows)) → Answers file (listing_reply i) (unlisted 8 0)
  list_none n = (good σ rows, s, rw (is_false (is_and (is_le 1 i) (is_le i (length rows))) n) refl)

  pub list_low : i < 1 → Answers file (listing_reply i) (unlisted 8 0)
  list_low h = list_none (λ n. omega (arith, n.0))

  pub list_high : 1 ≤ i → length rows < i → Answers file (listing_reply i) (unlisted 8 0)
  list_high l h = list_none (λ n. omega (arith, n.1))

  pub list_found : (n count : ℕ) (numbers : List ℕ) (r : Row) → n ≡ length σ → count ≡ length rows → numbers ≡ tab 32 (λ m. u16_at file (header_bytes + 2 * m))
      → entry_of r ≡ at rows (i - 1) → 1 ≤ i → i ≤ length rows
      → Answers file (listing_reply i) (record { number = 0; detail = 0; jobs = n; rows = count; numbers = numbers; word = r.word; starts = r.starts; tick = r.tick })
  list_found n count numbers r a b c e l h =
      let m = c ∙ numbers_are s in (
        good σ rows,
        s,
        (λ j. record { number = 0; detail = 0; jobs = a j; rows = b j; numbers = m j; word = (e j).word; starts = (e j).starts; tick = (e j).tick })
            ∙ rw (is_true (is_and (is_le 1 i) (is_le i (length rows))) (l, h)) refl,
      )
