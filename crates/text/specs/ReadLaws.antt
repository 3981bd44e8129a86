-- Reading number after number is reading a sheet: what is read so far, one number more, and what the end or a refusal says. Assumes nothing.
use Rattle.std.specs.Prelude.{ℕ, suc, ◌+◌, ◌*◌, ◌/◌, ◌%◌, ◌≤◌, ◌<◌, ◌≡◌, refl, ◌⊎◌, ◌≢◌, Option, Some, None, take, set}
use native.Mathlib.Omega.{arith}
use Rattle.std.proofs.Common.{zero-add, add-one, sym, ◌∙◌, inl, inr, length-append}
use Rattle.std.proofs.Math.Path.{ap}
use mathlib.Core.List.{List, [], ◌∷◌, ◌++◌, map, map-append, append_assoc, append-nil}
use Rattle.std.proofs.Math.ListN.{length, length-set, drop}
use Rattle.std.proofs.Math.Seq.{take-suc-set}
use Rattle.blocks.specs.Sizes.{most_jobs}
use Rattle.lines.specs.Digits.{value}
use Rattle.text.specs.SheetText.{Number, Spells, most_numbers, Reads}
use Rattle.text.specs.Fields.{Fronted, ending, run, Numbers, SoFar}
use Rattle.text.specs.RunLaws.{goes_on, run_snoc}
use Rattle.text.specs.GroupLaws.{flat, flat_length, flat_run, flat_values, flat_each, run_spells}

-- a run of some numbers is not empty
run_some : (k : ℕ) (s : List ℕ) (l : List (List ℕ)) → 1 ≤ length (run k (s ∷ l))
unfolding run
run_some k s l = omega (arith, length-append s (ending k ∷ run (suc k) l))

-- A sheet's numbers, and how many lines they are ----------------------------------------------------------------------

spelled_run : (text numbers : List ℕ) (p : Spells text numbers) → text ≡ run 0 (flat p.lines)
spelled_run text numbers p = p.spelled ∙ flat_run 0 (omega arith) p.lines

-- "a text spells at most one list"
pub spells_one : (text a b : List ℕ) → Spells text a → Spells text b → a ≡ b
spells_one text a b p q =
    p.values ∙ (flat_values p.lines ∙ (ap (map value) (sym same) ∙ (sym (flat_values q.lines) ∙ sym q.values)))
  where
    m : List (List ℕ)
    m = flat p.lines

    none : (l : List (List ℕ)) → flat q.lines ≡ m ++ l → [] ≡ run (0 + length m) l → flat q.lines ≡ m
    none [] e f = e ∙ append-nil m
    none (s ∷ l) e f = absurd (omega (arith, run_some (0 + length m) s l, ap length f))

    same : flat q.lines ≡ m
    same =
        let r = goes_on 0 m (flat q.lines) [] (flat_each p.lines p.each) (flat_each q.lines q.each) (append-nil (run 0 m) ∙ (sym (spelled_run text a p) ∙ spelled_run text b q)) in
        none r.others r.all r.follows

-- so the answer is determined
pub reads_one : (text : List ℕ) (r s : Option (List ℕ)) → Reads text r → Reads text s → r ≡ s
reads_one text (Some a) (Some b) x y = ap Some (spells_one text a b x y)
reads_one text (Some a) None x y = absurd (y a x)
reads_one text None (Some b) x y = absurd (x b y)
reads_one text None None x y = refl

-- Number after number -------------------------------------------------------------------------------------------------

pub so_far_none : (text numbers : List ℕ) → length numbers ≡ most_numbers → SoFar text numbers 0 text
unfolding run
so_far_none text numbers h = record { read = []; each = tt; many = refl; few = omega arith; front = refl; room = h; held = refl }

numbers_snoc : (l : List (List ℕ)) (s : List ℕ) → Numbers l → Number s → Numbers (l ++ (s ∷ []))
numbers_snoc [] s e n = (n, tt)
numbers_snoc (t ∷ l) s e n = (e.0, numbers_snoc l s e.1 n)

module _ (text numbers : List ℕ) (count : ℕ) (rest : List ℕ) (p : SoFar text numbers count rest) where
  pub so_far_more : (k v : ℕ) → count < most_numbers → Fronted (ending count) rest k v → SoFar text (set numbers count v) (count + 1) (drop (k + 1) rest)
  so_far_more k v h f = record {
    read = p.read ++ (s ∷ []);
    each = numbers_snoc p.read s p.each f.number;
    many = length-append p.read (s ∷ []) ∙ ap (λ (n : ℕ). n + 1) p.many;
    few = omega arith;
    front = p.front ∙ ahead;
    room = length-set numbers count v ∙ p.room;
    held = rw (add-one count, take-suc-set numbers count v (omega (arith, p.room)), p.held, map-append value p.read (s ∷ []), ← f.worth) refl;
  }
    where
      s : List ℕ
      s = take k rest

      place : 0 + length p.read ≡ count
      place = zero-add (length p.read) ∙ p.many

      behind : rest ≡ (s ++ (ending (0 + length p.read) ∷ [])) ++ drop (k + 1) rest
      behind = f.ends ∙ (rw (place, add-one k) (sym (append_assoc s (ending count ∷ []) (drop (suc k) rest))))

      ahead : run 0 p.read ++ rest ≡ run 0 (p.read ++ (s ∷ [])) ++ drop (k + 1) rest
      ahead =
          let apart = append_assoc (run 0 p.read) (s ++ (ending (0 + length p.read) ∷ [])) (drop (k + 1) rest) in
          rw (run_snoc 0 p.read s, apart) (ap (λ (x : List ℕ). run 0 p.read ++ x) behind)

  -- What a sheet would say of the rest: numbers, and four to a line in all.
  record Rest (n : ℕ) : Type 0 where
    others : List (List ℕ)
    each : Numbers others
    follows : rest ≡ run count others
    many : count + length others ≡ 4 * n
    some : 1 ≤ n
    few : n ≤ most_jobs

  rest_of : (ns : List ℕ) → Spells text ns → (n : ℕ) × Rest n
  rest_of ns q =
      let m = flat q.lines in
      let r = goes_on 0 p.read m rest p.each (flat_each q.lines q.each) (sym p.front ∙ spelled_run text ns q) in
      let e : 0 + length p.read ≡ count = zero-add (length p.read) ∙ p.many in (
        length q.lines,
        record {
          others = r.others;
          each = r.each;
          follows = r.follows ∙ ap (λ (k : ℕ). run k r.others) e;
          many = omega (arith, p.many, length-append p.read r.others, ap length r.all, flat_length q.lines);
          some = q.some;
          few = q.few;
        },
      )

  -- more is there, but no number
  pub so_far_stuck : 1 ≤ length rest → ((number behind : List ℕ) → Number number → ¬ (rest ≡ number ++ (ending count ∷ behind))) → (ns : List ℕ) → ¬ (Spells text ns)
  unfolding run
  so_far_stuck h f ns q = let r = (rest_of ns q).1 in go r.others r.each r.follows
    where
      go : (l : List (List ℕ)) → Numbers l → rest ≡ run count l → ⊥
      go [] e g = omega (arith, ap length g)
      go (s ∷ l) e g = f s (run (suc count) l) e.0 g

  -- more is there behind eight lines
  pub so_far_full : 1 ≤ length rest → most_numbers ≤ count → (ns : List ℕ) → ¬ (Spells text ns)
  unfolding run
  so_far_full h f ns q = let r = (rest_of ns q).1 in go r.others r.follows r.many r.few
    where
      go : (l : List (List ℕ)) → rest ≡ run count l → count + length l ≡ 4 * (rest_of ns q).0 → (rest_of ns q).0 ≤ most_jobs → ⊥
      go [] g m k = omega (arith, ap length g)
      go (s ∷ l) g m k = omega arith

  -- the text ends, and the numbers are no lines
  pub so_far_short : length rest ≡ 0 → (count ≡ 0) ⊎ (count % 4 ≢ 0) → (ns : List ℕ) → ¬ (Spells text ns)
  so_far_short h f ns q = let r = (rest_of ns q).1 in go r.others r.follows r.many r.some f
    where
      go : (l : List (List ℕ)) → rest ≡ run count l → count + length l ≡ 4 * (rest_of ns q).0 → 1 ≤ (rest_of ns q).0 → (count ≡ 0) ⊎ (count % 4 ≢ 0) → ⊥
      go [] g m k (inl e) = omega arith
      go [] g m k (inr e) = e (omega arith)
      go (s ∷ l) g m k e = omega (arith, ap length g, run_some count s l)

  -- the text ends, and they are
  pub so_far_whole : length rest ≡ 0 → 1 ≤ count → count % 4 ≡ 0 → Spells text (take count numbers)
  so_far_whole h k f =
      let t : text ≡ run 0 p.read = p.front ∙ (ap (λ (x : List ℕ). run 0 p.read ++ x) (no_more rest h) ∙ append-nil (run 0 p.read)) in
      rw p.held (run_spells text p.read (count / 4) t (p.many ∙ omega arith) (omega arith) (omega (arith, p.few)) p.each)
    where
      no_more : (l : List ℕ) → length l ≡ 0 → l ≡ []
      no_more [] e = refl
      no_more (c ∷ l) e = absurd (omega arith)
