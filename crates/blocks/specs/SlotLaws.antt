-- Jobs and rows in the slots of a block: found again, and read back. Assumes nothing.
use Rattle.std.specs.Prelude.{ℕ, zero, suc, ◌+◌, ◌≤◌, ◌<◌, ◌≡◌, refl, List, [], ◌∷◌, ◌++◌, map, length, get_or}
use Rattle.std.proofs.Common.{arith, sym, subst}
use Rattle.sheet.specs.declared.Job.{Job}
use Rattle.sheet.specs.Model.{no_job}
use Rattle.sheet.specs.Table.{Entry, no_entry, at}
use Rattle.blocks.specs.Sizes.{slot_bytes, block_slots}
use Rattle.blocks.specs.Bytes.{le16, le32, u32_at, EachByte}
use Rattle.blocks.specs.BytesLaws.{Stands, stands_first, stands_rest, stands_both, u16_of_le16, u32_of_le32, le16_of_u16, le32_of_u32}
use Rattle.blocks.specs.File.{job_slot, row_slot, block_of}
use Rattle.blocks.specs.Fields.{Framed, slot_at, job_from, row_from}
use Rattle.blocks.specs.Tab.{tab}
use Rattle.blocks.specs.TabLaws.{length_tab, get_or_tab}
use Rattle.blocks.specs.BlockLaws.{slot_of, made}

module _ (s : List ℕ) (p : ℕ) where
  four : p + 2 + 2 ≡ p + 4
  four = omega arith

  six : p + 4 + 2 ≡ p + 6
  six = omega arith

  job_in : (x : Job) → Stands s p (job_slot x) → job_from s p ≡ x
  job_in x h =
      let h2 = stands_rest s p (le16 x.arrives) (le16 x.fewest ++ (le16 x.most ++ le16 x.due)) 2 refl h in
      let h4 = rw four at (stands_rest s (p + 2) (le16 x.fewest) (le16 x.most ++ le16 x.due) 2 refl h2) in
      let h6 = rw six at (stands_rest s (p + 4) (le16 x.most) (le16 x.due) 2 refl h4) in
      let a = u16_of_le16 s p x.arrives (stands_first s p (le16 x.arrives) (le16 x.fewest ++ (le16 x.most ++ le16 x.due)) 2 refl h) in
      let b = u16_of_le16 s (p + 2) x.fewest (stands_first s (p + 2) (le16 x.fewest) (le16 x.most ++ le16 x.due) 2 refl h2) in
      let c = u16_of_le16 s (p + 4) x.most (stands_first s (p + 4) (le16 x.most) (le16 x.due) 2 refl h4) in
      let d = u16_of_le16 s (p + 6) x.due h6 in
      λ i. record { arrives = a i; fewest = b i; most = c i; due = d i }

  row_in : (x : Entry) → Stands s p (row_slot x) → row_from s p ≡ x
  row_in x h =
      let a = u32_of_le32 s p x.word (stands_first s p (le32 x.word) (x.starts ∷ x.tick ∷ 0 ∷ 0 ∷ []) 4 refl h) in
      let b = h 4 (omega arith) in
      let c = h 5 (omega arith) in
      λ i. record { word = a i; starts = b i; tick = c i }

  module _ (small : EachByte s) where
    in_job : Stands s p (job_slot (job_from s p))
    in_job =
        let l = job_from s p in
        let h4 = stands_both s (p + 4) (le16 l.most) (le16 l.due) 2 refl (le16_of_u16 s (p + 4) small) (rw six (le16_of_u16 s (p + 6) small)) in
        let h2 = stands_both s (p + 2) (le16 l.fewest) (le16 l.most ++ le16 l.due) 2 refl (le16_of_u16 s (p + 2) small) (rw four h4) in
        stands_both s p (le16 l.arrives) (le16 l.fewest ++ (le16 l.most ++ le16 l.due)) 2 refl (le16_of_u16 s p small) h2

    in_row : get_or s (p + 6) 0 ≡ 0 → get_or s (p + 7) 0 ≡ 0 → Stands s p (row_slot (row_from s p))
    in_row z6 z7 = stands_both s p (le32 (u32_at s p)) (get_or s (p + 4) 0 ∷ get_or s (p + 5) 0 ∷ 0 ∷ 0 ∷ []) 4 refl (le32_of_u32 s p small) rest
      where
        rest : Stands s (p + 4) (get_or s (p + 4) 0 ∷ get_or s (p + 5) 0 ∷ 0 ∷ 0 ∷ [])
        rest zero h = let e : p + 4 + 0 ≡ p + 4 = omega arith in rw e refl
        rest (suc zero) h = let e : p + 4 + 1 ≡ p + 5 = omega arith in rw e refl
        rest (suc (suc zero)) h = let e : p + 4 + 2 ≡ p + 6 = omega arith in rw e z6
        rest (suc (suc (suc zero))) h = let e : p + 4 + 3 ≡ p + 7 = omega arith in rw e z7
        rest (suc (suc (suc (suc j)))) h = absurd (omega arith)

module _ (n k total : ℕ) (block : List ℕ) where
  -- what a block of the writer has in a slot
  pub job_found : (jobs : List Job) → length jobs ≤ block_slots → block ≡ block_of n k total (map job_slot jobs)
      → (s : ℕ) → s < length jobs → job_from block (slot_at s) ≡ get_or jobs s no_job
  job_found jobs few e s h = job_in block (slot_at s) (get_or jobs s no_job) (slot_of slot_bytes job_slot (λ x. refl) n k total jobs (omega arith) block e no_job s h)

  pub row_found : (rows : List Entry) → length rows ≤ block_slots → block ≡ block_of n k total (map row_slot rows)
      → (s : ℕ) → s < length rows → row_from block (slot_at s) ≡ at rows s
  row_found rows few e s h = row_in block (slot_at s) (at rows s) (slot_of slot_bytes row_slot (λ x. refl) n k total rows (omega arith) block e no_entry s h)

  -- a framed block is the writer's for what stands in its slots
  module _ (used : ℕ) (few : used ≤ block_slots) (small : EachByte block) (fr : Framed slot_bytes n used k total block) where
    pub jobs_made : block ≡ block_of n k total (map job_slot (tab used (λ s. job_from block (slot_at s))))
    jobs_made =
        let found : ℕ → Job = λ s. job_from block (slot_at s) in
        let l = length_tab used found in
        made slot_bytes job_slot (λ x. refl) n k total (tab used found) (omega arith) block small (rw l fr) no_job
        (λ s h. subst (λ (x : Job). Stands block (slot_at s) (job_slot x)) (sym (get_or_tab used found no_job s (omega arith))) (in_job block (slot_at s) small))

    pub rows_made : ((s : ℕ) → s < used → (get_or block (slot_at s + 6) 0 ≡ 0) × (get_or block (slot_at s + 7) 0 ≡ 0))
        → block ≡ block_of n k total (map row_slot (tab used (λ s. row_from block (slot_at s))))
    rows_made zero_two =
        let found : ℕ → Entry = λ s. row_from block (slot_at s) in
        let l = length_tab used found in
        made slot_bytes row_slot (λ x. refl) n k total (tab used found) (omega arith) block small (rw l fr) no_entry
        (λ s h. let g : s < used = omega arith in
        subst (λ (x : Entry). Stands block (slot_at s) (row_slot x)) (sym (get_or_tab used found no_entry s g)) (in_row block (slot_at s) small (zero_two s g).0 (zero_two s g).1))
