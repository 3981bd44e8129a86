-- The bytes that the writer writes for a table are bytes; so a table that is written is read back, and what is read was written. Assumes nothing.
use Prim.Native.Nat.{ℕ, zero, suc, ◌+◌, ◌-◌, ◌*◌, ◌^◌, ◌≤◌, ◌<◌}
use Rattle.std.proofs.Common.{arith, sym, subst, length-append, length-take, length-drop}
use Rattle.std.specs.Prelude.{◌≡◌, refl, List, [], ◌∷◌, ◌++◌, map, get_or, drop, replicate}
use Rattle.std.proofs.Math.ListN.{length, length-map}
use Rattle.std.proofs.Math.Dec.{lit<}
use Rattle.sheet.specs.Model.{Sheet, no_job}
use Rattle.sheet.specs.Table.{Entry, at, no_entry}
use Rattle.blocks.specs.Sizes.{body_bytes, header_bytes, block_slots, slot_bytes, most_blocks}
use Rattle.blocks.specs.Bytes.{le16, le32, check_of, EachByte}
use Rattle.blocks.specs.CheckLaws.{check_le}
use Rattle.blocks.specs.File.{joined, header, body_of, sealed, block_of, job_slot, row_slot, block_for, written, blocks_of, bytes_of}
use Rattle.blocks.specs.BlockLaws.{block_length}
use Rattle.table.specs.Reading.{Table, good}
use Rattle.table.specs.ReadingLaws.{part, room, at_part, says_one}
use Rattle.table.specs.RoundTrip.{table_says, says_table}
use Rattle.table.specs.Read.{reading}
use Rattle.table.specs.ReadLaws.{says_reading, reading_says}

bytes_both : (a b : List ℕ) → EachByte a → EachByte b → EachByte (a ++ b)
bytes_both [] b h k i = k i
bytes_both (x ∷ a) b h k zero = h 0
bytes_both (x ∷ a) b h k (suc i) = bytes_both a b (λ j. h (suc j)) k i

bytes_zeros : (n : ℕ) → EachByte (replicate n 0)
bytes_zeros zero i = lit< tt
bytes_zeros (suc n) zero = lit< tt
bytes_zeros (suc n) (suc i) = bytes_zeros n i

bytes_16 : (x : ℕ) → x < 65536 → EachByte (le16 x)
bytes_16 x h zero = omega arith
bytes_16 x h (suc zero) = omega arith
bytes_16 x h (suc (suc i)) = lit< tt

bytes_32 : (x : ℕ) → x < 2 ^ 32 → EachByte (le32 x)
bytes_32 x h zero = omega arith
bytes_32 x h (suc zero) = omega arith
bytes_32 x h (suc (suc zero)) = omega arith
bytes_32 x h (suc (suc (suc zero))) = omega arith
bytes_32 x h (suc (suc (suc (suc i)))) = lit< tt

bytes_joined : {A : Type 0} (f : A → List ℕ) (xs : List A) (d : A) → ((i : ℕ) → i < length xs → EachByte (f (get_or xs i d))) → EachByte (joined (map f xs))
unfolding joined
bytes_joined f [] d h = λ i. lit< tt
bytes_joined f (x ∷ xs) d h = bytes_both (f x) (joined (map f xs)) (h 0 (omega arith)) (bytes_joined f xs d (λ i l. h (suc i) (omega arith)))

bytes_header : (n used k total : ℕ) → n < 256 → used < 256 → k < 65536 → total < 65536 → EachByte (header n used k total)
bytes_header n used k total a b c d zero = lit< tt
bytes_header n used k total a b c d (suc zero) = lit< tt
bytes_header n used k total a b c d (suc (suc zero)) = a
bytes_header n used k total a b c d (suc (suc (suc zero))) = b
bytes_header n used k total a b c d (suc (suc (suc (suc i)))) = bytes_both (le16 k) (le16 total) (bytes_16 k c) (bytes_16 total d) i

module _ {A : Type 0} (f : A → List ℕ) (wide : (a : A) → length (f a) ≡ slot_bytes) (n k total : ℕ) (xs : List A) (d : A) (few : header_bytes + slot_bytes * length xs ≤ body_bytes) where
  bytes_block : n < 256 → k < 65536 → total < 65536 → ((i : ℕ) → i < length xs → EachByte (f (get_or xs i d))) → EachByte (block_of n k total (map f xs))
  unfolding block_of sealed
  bytes_block a b c h = bytes_both body (le32 (check_of body)) small (bytes_32 (check_of body) (omega (arith, check_le body size small)))
    where
      used : length (map f xs) ≡ length xs
      used = length-map xs f

      front : List ℕ
      front = header n (length (map f xs)) k total ++ joined (map f xs)

      body : List ℕ
      body = body_of front

      small : EachByte body
      small =
          bytes_both front (replicate (body_bytes - length front) 0)
          (bytes_both (header n (length (map f xs)) k total) (joined (map f xs)) (bytes_header n (length (map f xs)) k total a (omega (arith, used)) b c) (bytes_joined f xs d h))
          (bytes_zeros (body_bytes - length front))

      size : length body ≡ body_bytes
      size = omega (arith, block_length slot_bytes f wide n k total xs few, length-append body (le32 (check_of body)))

module _ {σ : Sheet} {rows : List Entry} (t : Table σ rows) (total : ℕ) (few : total ≤ most_blocks) where
  job_bytes : (i : ℕ) → i < length σ → EachByte (job_slot (get_or σ i no_job))
  job_bytes i h =
      let e : suc i - 1 ≡ i = omega arith in
      let g = rw e at (t.sheet.each (suc i) (omega arith)) in
      let j = get_or σ i no_job in
      bytes_both (le16 j.arrives) (le16 j.fewest ++ (le16 j.most ++ le16 j.due)) (bytes_16 j.arrives (omega (arith, g.early)))
      (bytes_both (le16 j.fewest) (le16 j.most ++ le16 j.due) (bytes_16 j.fewest (omega (arith, g.early, g.fits, g.ordered)))
      (bytes_both (le16 j.most) (le16 j.due) (bytes_16 j.most (omega (arith, g.early, g.fits))) (bytes_16 j.due (omega (arith, g.early)))))

  row_bytes : (b i : ℕ) → i < length (part b rows) → EachByte (row_slot (at (part b rows) i))
  row_bytes b i h =
      let l = length-take block_slots (drop (block_slots * b) rows) in
      let m = length-drop (block_slots * b) rows in
      let g = t.form.each (block_slots * b + i) (omega arith) in
      let e = at rows (block_slots * b + i) in
      subst (λ (x : Entry). EachByte (row_slot x)) (sym (at_part b rows i (omega arith)))
      (bytes_both (le32 e.word) (e.starts ∷ e.tick ∷ 0 ∷ 0 ∷ []) (bytes_32 e.word g.fits.0) (rest e.starts e.tick g.fits.1 (omega (arith, g.marks.known))))
    where
      rest : (s c : ℕ) → s < 256 → c < 256 → EachByte (s ∷ c ∷ 0 ∷ 0 ∷ [])
      rest s c a b zero = a
      rest s c a b (suc zero) = b
      rest s c a b (suc (suc zero)) = lit< tt
      rest s c a b (suc (suc (suc zero))) = lit< tt
      rest s c a b (suc (suc (suc (suc i)))) = lit< tt

  block_bytes_of : (b : ℕ) → b < total → EachByte (block_for total σ rows b)
  block_bytes_of zero h = bytes_block job_slot (λ x. refl) (length σ) 0 total σ no_job (omega (arith, t.sheet.few_jobs)) (omega (arith, t.sheet.few_jobs)) (omega arith) (omega arith) job_bytes
  block_bytes_of (suc b) h =
      bytes_block row_slot (λ x. refl) (length σ) (suc b) total (part b rows) no_entry (room b rows) (omega (arith, t.sheet.few_jobs)) (omega arith)
      (omega arith) (row_bytes b)

  written_bytes : (k : ℕ) → k ≤ total → EachByte (written total σ rows k)
  unfolding written
  written_bytes zero h = λ i. lit< tt
  written_bytes (suc k) h = bytes_both (written total σ rows k) (block_for total σ rows k) (written_bytes k (omega arith)) (block_bytes_of k (omega arith))

pub table_bytes : {σ : Sheet} {rows : List Entry} → Table σ rows → EachByte (bytes_of σ rows)
table_bytes {σ} {rows} t = written_bytes t (blocks_of (length rows)) (omega (arith, t.few)) (blocks_of (length rows)) (omega arith)

-- LAW: a table that is written is read back
pub read_back : {σ : Sheet} {rows : List Entry} → Table σ rows → reading (bytes_of σ rows) ≡ good σ rows
read_back {σ} {rows} t = says_one (bytes_of σ rows) (reading (bytes_of σ rows)) (good σ rows) (says_reading (bytes_of σ rows) (table_bytes t)) (table_says σ rows t)

-- LAW: what is read is a table, and writing it gives the file again, byte for byte
pub back_written : (file : List ℕ) (σ : Sheet) (rows : List Entry) → reading file ≡ good σ rows → Table σ rows × (file ≡ bytes_of σ rows)
back_written file σ rows e = says_table file σ rows (reading_says file σ rows e)
