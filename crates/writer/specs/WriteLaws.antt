-- A block written from the front on: header, slot after slot, zeros and check. Over what a slot holds. Assumes nothing.
use Rattle.std.specs.Prelude.{ℕ, ◌+◌, ◌-◌, ◌*◌, ◌≤◌, ◌<◌, ◌≡◌, List, [], ◌∷◌, ◌++◌, map, take, drop, replicate}
use native.Mathlib.Omega.{arith}
use Rattle.std.proofs.Common.{add-one, sym, ◌∙◌, append_assoc, append-nil, length-take, drop_of_length-le, take_all}
use Rattle.std.proofs.Math.Path.{refl, ap}
use Rattle.std.proofs.Math.ListN.{length, length-map}
use Rattle.std.proofs.lemmas.List.{length-replicate}
use Rattle.std.proofs.Math.Seq.{paste, length-paste}
use Rattle.std.proofs.lemmas.List.Edits.{take-paste}
use Rattle.blocks.specs.Sizes.{block_bytes, body_bytes, header_bytes, slot_bytes, block_slots}
use Rattle.blocks.specs.Bytes.{le32, check_of}
use Rattle.blocks.specs.File.{joined, header, body_of, sealed, block_of}
use Rattle.blocks.specs.Tab.{tab}
use Rattle.blocks.specs.TabLaws.{length_tab, tab_snoc}

-- header and `s` slots stand in front, of a block that will have `used`
pub record Front {A : Type 0} (g : A → List ℕ) (n k total used : ℕ) (f : ℕ → A) (part : List ℕ) (s : ℕ) : Type 0 where
  pub front : take (header_bytes + slot_bytes * s) part ≡ header n used k total ++ joined (map g (tab s f))

-- in a part as long as a block
abbrev pub Filled : {A : Type 0} (g : A → List ℕ) (n k total used : ℕ) (f : ℕ → A) → List ℕ → ℕ → Type 0
Filled g n k total used f part s = (s ≤ used) × (length part ≡ block_bytes) × Front g n k total used f part s

joined_snoc : {A : Type 0} (g : A → List ℕ) (xs : List A) (x : A) → joined (map g (xs ++ (x ∷ []))) ≡ joined (map g xs) ++ g x
unfolding joined
joined_snoc g [] x = append-nil (g x)
joined_snoc g (y ∷ xs) x = rw (joined_snoc g xs x) (sym (append_assoc (g y) (joined (map g xs)) (g x)))

module _ {A : Type 0} {g : A → List ℕ} {n k total used : ℕ} {f : ℕ → A} where
  -- the header first
  pub filled_none : (old : List ℕ) {new : List ℕ} → length old ≡ block_bytes → new ≡ paste old 0 (header n used k total) header_bytes
      → Filled g n k total used f new 0
  unfolding tab joined
  filled_none old l e =
      let h = header n used k total in
      let m = length-paste old 0 h header_bytes (omega arith) (omega arith) in
      (omega arith, ap length e ∙ m ∙ l, record { front = rw e (take-paste old 0 h header_bytes (omega arith) (omega arith)) })

  -- one slot more
  pub filled_more : ((a : A) → length (g a) ≡ slot_bytes) → used ≤ block_slots → {s : ℕ} {old slot new : List ℕ} → Filled g n k total used f old s → s < used
      → slot ≡ g (f s) → new ≡ paste old (header_bytes + slot_bytes * s) slot (length slot) → Filled g n k total used f new (s + 1)
  filled_more wide few {s} {old} {slot} {new} x h d e =
      let at = header_bytes + slot_bytes * s in
      let y : length slot ≡ slot_bytes = ap length d ∙ wide (f s) in
      let z : header_bytes + slot_bytes * (s + 1) ≡ at + length slot = omega arith in
      let p : take (at + length slot) new ≡ take at old ++ take (length slot) slot = rw e (take-paste old at slot (length slot) (omega arith) (omega arith)) in
      let t = rw (take_all (length slot) slot (omega arith), x.2.front) at p ∙ append_assoc (header n used k total) (joined (map g (tab s f))) slot in (
        omega arith,
        ap length e ∙ length-paste old at slot (length slot) (omega arith) (omega arith) ∙ x.1,
        record { front = rw (z, add-one s, tab_snoc s f, joined_snoc g (tab s f) (f s), ← d) t },
      )

  -- zeros and check last
  pub filled_all : {s : ℕ} {old new : List ℕ} → Filled g n k total used f old s → used ≤ s → new ≡ sealed (take (header_bytes + slot_bytes * used) old)
      → new ≡ block_of n k total (map g (tab used f))
  unfolding block_of
  filled_all {s} x h e =
      let q : s ≡ used = omega arith in
      let u : length (map g (tab used f)) ≡ used = length-map (tab used f) g ∙ length_tab used f in
      e ∙ ap sealed (rw q at x.2.front) ∙ rw u refl

-- zeros put behind the front, and the check behind them
pub sealed_is : (old mid new : List ℕ) (at : ℕ) → length old ≡ block_bytes → at ≤ body_bytes
    → mid ≡ paste old at (replicate (body_bytes - at) 0) (body_bytes - at) → new ≡ paste mid body_bytes (le32 (check_of (take body_bytes mid))) 4
    → new ≡ sealed (take at old)
unfolding sealed
sealed_is old mid new at l h e d =
    let z : List ℕ = replicate (body_bytes - at) 0 in
    let y : length z ≡ body_bytes - at = length-replicate {A = ℕ} (body_bytes - at) 0 in
    let n : length (take at old) ≡ at = omega (arith, length-take at old) in
    let m : at + (body_bytes - at) ≡ body_bytes = omega arith in
    let b : take (at + (body_bytes - at)) mid ≡ take at old ++ z =
    rw e (take-paste old at z (body_bytes - at) (omega arith) (omega arith)
    ∙ ap (λ (r : List ℕ). take at old ++ r) (take_all (body_bytes - at) z (omega arith))) in
    let c : take body_bytes mid ≡ body_of (take at old) = rw n (rw m at b) in
    let o : length mid ≡ block_bytes = ap length e ∙ (length-paste old at z (body_bytes - at) (omega arith) (omega arith) ∙ l) in
    let r : drop block_bytes mid ≡ [] = drop_of_length-le mid {i = block_bytes} (omega arith) in
    d ∙ rw (c, r) (append-nil (body_of (take at old) ++ le32 (check_of (body_of (take at old)))))
