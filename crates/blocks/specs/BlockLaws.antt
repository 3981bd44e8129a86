-- A block of the writer byte by byte, and back: once for jobs and rows, over what a slot holds and how wide it is. Assumes nothing.
use Prim.Native.Nat.{ℕ, zero, suc, ◌+◌, ◌-◌, ◌*◌, ◌≤◌, ◌<◌}
use Rattle.std.proofs.Common.{arith, subst, ◌∙◌, length-take, get_or-take, take_at}
use Rattle.std.proofs.Math.Nat.{mul-suc, mul-zero}
use Rattle.std.specs.Prelude.{◌≡◌, refl, get_or, take, replicate}
use Rattle.std.proofs.Math.Path.{sym, ap}
use mathlib.Core.List.{List, [], ◌∷◌, ◌++◌, map, append_assoc}
use Rattle.std.proofs.Math.ListN.{length, length-append}
use Rattle.std.proofs.lemmas.List.{length-replicate, length-map}
use Rattle.blocks.specs.Sizes.{block_bytes, body_bytes, header_bytes}
use Rattle.blocks.specs.Bytes.{le32, u16_at, check_of, EachByte}
use Rattle.blocks.specs.BytesLaws.{Stands, stands_first, stands_rest, stands_both, stands_self, stands_whole, stands_zeros, zeros_stand, u32_of_le32, le32_of_u32}
use Rattle.blocks.specs.File.{joined, header, body_of, sealed, block_of}
use Rattle.blocks.specs.Fields.{Lettered, Framed}

header_stands : (n used k total : ℕ) (s : List ℕ) → EachByte s → Lettered s → get_or s 2 0 ≡ n → get_or s 3 0 ≡ used
    → u16_at s 4 ≡ k → u16_at s 6 ≡ total → Stands s 0 (header n used k total)
header_stands n used k total s small l a b c d = byte
  where
    byte : Stands s 0 (header n used k total)
    byte zero h = l.first
    byte (suc zero) h = l.second
    byte (suc (suc zero)) h = a
    byte (suc (suc (suc zero))) h = b
    byte (suc (suc (suc (suc zero)))) h = omega (arith, small 4, small 5)
    byte (suc (suc (suc (suc (suc zero))))) h = omega (arith, small 4, small 5)
    byte (suc (suc (suc (suc (suc (suc zero)))))) h = omega (arith, small 6, small 7)
    byte (suc (suc (suc (suc (suc (suc (suc zero))))))) h = omega (arith, small 6, small 7)
    byte (suc (suc (suc (suc (suc (suc (suc (suc i)))))))) h = absurd (omega arith)

module _ {A : Type 0} (w : ℕ) (f : A → List ℕ) (wide : (a : A) → length (f a) ≡ w) where
  joined_length : (xs : List A) → length (joined (map f xs)) ≡ w * length xs
  unfolding joined
  joined_length [] = sym (mul-zero w)
  joined_length (x ∷ xs) = simp length-append (omega (arith, wide x, joined_length xs, mul-suc w (length xs)))

  -- the slots one after the other
  slot_in : (s : List ℕ) (xs : List A) (d : A) (p : ℕ) → Stands s p (joined (map f xs)) → (i : ℕ) → i < length xs → Stands s (p + w * i) (f (get_or xs i d))
  unfolding joined
  slot_in s [] d p h i l = absurd (omega arith)
  slot_in s (x ∷ xs) d p h zero l = let e : p + w * 0 ≡ p = omega (arith, mul-zero w) in rw e (stands_first s p (f x) (joined (map f xs)) w (wide x) h)
  slot_in s (x ∷ xs) d p h (suc i) l =
      let e : p + w * suc i ≡ p + w + w * i = omega (arith, mul-suc w i) in
      rw e (slot_in s xs d (p + w) (stands_rest s p (f x) (joined (map f xs)) w (wide x) h) i (omega arith))

  in_slots : (s : List ℕ) (xs : List A) (d : A) (p : ℕ) → ((i : ℕ) → i < length xs → Stands s (p + w * i) (f (get_or xs i d))) → Stands s p (joined (map f xs))
  unfolding joined
  in_slots s [] d p h = λ j l. absurd (omega arith)
  in_slots s (x ∷ xs) d p h =
      let e : p + w * 0 ≡ p = omega (arith, mul-zero w) in
      stands_both s p (f x) (joined (map f xs)) w (wide x) (rw e at (h 0 (omega arith)))
      (in_slots s xs d (p + w) (λ i l. let q : p + w * suc i ≡ p + w + w * i = omega (arith, mul-suc w i) in rw q at (h (suc i) (omega arith))))

  module _ (n k total : ℕ) (xs : List A) (few : header_bytes + w * length xs ≤ body_bytes) where
    -- the parts of the block
    abbrev head : List ℕ
    head = header n (length xs) k total

    abbrev slots : List ℕ
    slots = joined (map f xs)

    abbrev pad : List ℕ
    pad = replicate (body_bytes - header_bytes - w * length xs) 0

    abbrev body : List ℕ
    body = head ++ (slots ++ pad)

    abbrev seal : List ℕ
    seal = le32 (check_of body)

    body_length : length body ≡ body_bytes
    body_length =
        length-append head (slots ++ pad)
        ∙ simp length-append (omega (arith, joined_length xs, length-replicate {A = ℕ} (body_bytes - header_bytes - w * length xs) 0))

    block_parts : block_of n k total (map f xs) ≡ body ++ seal
    unfolding block_of sealed
    block_parts =
        let e : body_bytes - length (head ++ slots) ≡ body_bytes - header_bytes - w * length xs = omega (arith, length-append head slots, joined_length xs) in
        let b : body_of (head ++ slots) ≡ body = rw e (append_assoc head slots pad) in
        ap (λ (m : ℕ). sealed (header n m k total ++ slots)) (length-map xs f) ∙ ap (λ (l : List ℕ). l ++ le32 (check_of l)) b

    pub block_length : length (block_of n k total (map f xs)) ≡ block_bytes
    block_length = ap length block_parts ∙ (length-append body seal ∙ omega (arith, body_length))

    -- what stands in a block of the writer
    module _ (block : List ℕ) (e : block ≡ block_of n k total (map f xs)) where
      whole : Stands block 0 (body ++ seal)
      whole = subst (Stands block 0) (e ∙ block_parts) (stands_self block)

      front : Stands block 0 body
      front = stands_first block 0 body seal body_bytes body_length whole

      rest : Stands block header_bytes (slots ++ pad)
      rest = stands_rest block 0 head (slots ++ pad) header_bytes refl front

      pub slot_of : (d : A) (i : ℕ) → i < length xs → Stands block (header_bytes + w * i) (f (get_or xs i d))
      slot_of d = slot_in block xs d header_bytes (stands_first block header_bytes slots pad (w * length xs) (joined_length xs) rest)

      pub framed : Framed w n (length xs) k total block
      framed = record {
        size = ap length e ∙ block_length;
        letters = record { first = byte 0 (omega arith); second = byte 1 (omega arith) };
        jobs = byte 2 (omega arith);
        slots = byte 3 (omega arith);
        number = omega (arith, byte 4 (omega arith), byte 5 (omega arith));
        count = omega (arith, byte 6 (omega arith), byte 7 (omega arith));
        zeros = λ i h l. zeros_stand block (header_bytes + w * length xs) (body_bytes - header_bytes - w * length xs)
            (stands_rest block header_bytes slots pad (w * length xs) (joined_length xs) rest) i h (omega arith);
        check = rw before (u32_of_le32 block body_bytes (check_of body) (stands_rest block 0 body seal body_bytes body_length whole));
      }
        where
          byte : Stands block 0 head
          byte = stands_first block 0 head (slots ++ pad) header_bytes refl front

          before : take body_bytes block ≡ body
          before = ap (take body_bytes) (e ∙ block_parts) ∙ take_at body seal body_bytes body_length

    -- a block with these parts is the writer's
    pub made : (block : List ℕ) → EachByte block → Framed w n (length xs) k total block → (d : A)
        → ((i : ℕ) → i < length xs → Stands block (header_bytes + w * i) (f (get_or xs i d))) → block ≡ block_of n k total (map f xs)
    made block small fr d slot = stands_whole block (block_of n k total (map f xs)) (fr.size ∙ sym block_length) (subst (Stands block 0) (sym block_parts) all)
      where
        rest_stands : Stands block header_bytes (slots ++ pad)
        rest_stands =
            stands_both block header_bytes slots pad (w * length xs) (joined_length xs) (in_slots block xs d header_bytes slot)
            (stands_zeros block (header_bytes + w * length xs) (body_bytes - header_bytes - w * length xs) (λ i h l. fr.zeros i h (omega arith)))

        body_stands : Stands block 0 body
        body_stands =
            stands_both block 0 head (slots ++ pad) header_bytes refl
            (header_stands n (length xs) k total block small fr.letters fr.jobs fr.slots fr.number fr.count) rest_stands

        before : take body_bytes block ≡ body
        before =
            stands_whole (take body_bytes block) body (omega (arith, length-take body_bytes block, fr.size, body_length))
            (λ j h. get_or-take body_bytes block (0 + j) 0 (omega (arith, body_length)) ∙ body_stands j h)

        all : Stands block 0 (body ++ seal)
        all =
            stands_both block 0 body seal body_bytes body_length body_stands
            (subst (λ (x : ℕ). Stands block body_bytes (le32 x)) (fr.check ∙ ap check_of before) (le32_of_u32 block body_bytes small))
