-- Lines of four numbers are a run of numbers, and a run of four times so many is such lines. Assumes nothing.
use Rattle.std.specs.Prelude.{ℕ, zero, suc, ◌*◌, ◌%◌, ◌≤◌, ◌≡◌, refl, ◌⊎◌, length}
use Rattle.std.proofs.Common.{arith, sym, ap, subst, ◌∙◌, inl, inr}
use mathlib.Core.List.{List, [], ◌∷◌, map, append_assoc, Memᴰ}
use Rattle.blocks.specs.Sizes.{most_jobs}
use Rattle.blocks.specs.File.{joined}
use Rattle.lines.specs.Digits.{value}
use Rattle.lines.specs.Lines.{line}
use Rattle.text.specs.SheetText.{Number, Four, fields, Spells}
use Rattle.text.specs.Fields.{run, Numbers}
use Rattle.text.specs.RunLaws.{ending_line, ending_space}

-- the numbers of lines
unfoldable pub flat : List Four → List (List ℕ)
flat [] = []
flat (f ∷ l) = f.arrives ∷ f.fewest ∷ f.most ∷ f.due ∷ flat l

pub flat_length : (l : List Four) → length (flat l) ≡ 4 * length l
unfolding flat
flat_length [] = refl
flat_length (f ∷ l) = omega (arith, flat_length l)

pub flat_run : (k : ℕ) → k % 4 ≡ 0 → (l : List Four) → joined (map (λ f. line (fields f)) l) ≡ run k (flat l)
unfolding flat joined line run
flat_run k h [] = refl
flat_run k h (f ∷ l) =
    rw (
      ending_space k (λ e. omega arith),
      ending_space (suc k) (λ e. omega arith),
      ending_space (suc (suc k)) (λ e. omega arith),
      ending_line (suc (suc (suc k))) (omega arith),
      ← flat_run (suc (suc (suc (suc k)))) (omega arith) l,
    )
    (simp append_assoc)

pub flat_values : (l : List Four) → joined (map (λ f. map value (fields f)) l) ≡ map value (flat l)
unfolding flat joined
flat_values [] = refl
flat_values (f ∷ l) = rw (flat_values l) refl

-- Each of them is a number --------------------------------------------------------------------------------------------

abbrev pub Each : List Four → Type 0
Each l = (f : Four) → Memᴰ f l → (s : List ℕ) → Memᴰ s (fields f) → Number s

pub flat_each : (l : List Four) → Each l → Numbers (flat l)
unfolding flat
flat_each [] e = tt
flat_each (f ∷ l) e =
    let m : Memᴰ f (f ∷ l) = mathlib.Core.List.Memᴰ.head refl in
    let rest = flat_each l (λ g i. e g (mathlib.Core.List.Memᴰ.tail i)) in
    let second = e f m f.fewest (mathlib.Core.List.Memᴰ.tail (mathlib.Core.List.Memᴰ.head refl)) in
    let third = e f m f.most (mathlib.Core.List.Memᴰ.tail (mathlib.Core.List.Memᴰ.tail (mathlib.Core.List.Memᴰ.head refl))) in
    let fourth = e f m f.due (mathlib.Core.List.Memᴰ.tail (mathlib.Core.List.Memᴰ.tail (mathlib.Core.List.Memᴰ.tail (mathlib.Core.List.Memᴰ.head refl)))) in
    (e f m f.arrives (mathlib.Core.List.Memᴰ.head refl), (second, (third, (fourth, rest))))

-- a member of four
in_four : (P : List ℕ → Type 0) (a b w d : List ℕ) → P a → P b → P w → P d → (s : List ℕ) → Memᴰ s (a ∷ b ∷ w ∷ d ∷ []) → P s
in_four P a b w d pa pb pw pd s m = first (mathlib.Core.List.Memᴰ.cases_cons m)
  where
    fourth : (s ≡ d) ⊎ Memᴰ s [] → P s
    fourth (inl e) = subst P (sym e) pd
    fourth (inr m) = absurd (mathlib.Core.List.Memᴰ.not-nil m)

    third : (s ≡ w) ⊎ Memᴰ s (d ∷ []) → P s
    third (inl e) = subst P (sym e) pw
    third (inr m) = fourth (mathlib.Core.List.Memᴰ.cases_cons m)

    second : (s ≡ b) ⊎ Memᴰ s (w ∷ d ∷ []) → P s
    second (inl e) = subst P (sym e) pb
    second (inr m) = third (mathlib.Core.List.Memᴰ.cases_cons m)

    first : (s ≡ a) ⊎ Memᴰ s (b ∷ w ∷ d ∷ []) → P s
    first (inl e) = subst P (sym e) pa
    first (inr m) = second (mathlib.Core.List.Memᴰ.cases_cons m)

-- Back to lines -------------------------------------------------------------------------------------------------------

pub record Grouped (n : ℕ) (m : List (List ℕ)) : Type 0 where
  pub lines : List Four
  pub many : length lines ≡ n
  pub each : Each lines
  pub same : flat lines ≡ m

pub grouped : (n : ℕ) (m : List (List ℕ)) → length m ≡ 4 * n → Numbers m → Grouped n m
unfolding flat
grouped zero [] h e = record { lines = []; many = refl; each = λ f i. absurd (mathlib.Core.List.Memᴰ.not-nil i); same = refl }
grouped zero (a ∷ m) h e = absurd (omega arith)
grouped (suc n) [] h e = absurd (omega arith)
grouped (suc n) (a ∷ []) h e = absurd (omega arith)
grouped (suc n) (a ∷ b ∷ []) h e = absurd (omega arith)
grouped (suc n) (a ∷ b ∷ w ∷ []) h e = absurd (omega arith)
grouped (suc n) (a ∷ b ∷ w ∷ d ∷ m) h e = one (grouped n m (omega arith) e.1.1.1.1)
  where
    four : Four
    four = record { arrives = a; fewest = b; most = w; due = d }

    each : (lines : List Four) → Each lines → (f : Four) → (f ≡ four) ⊎ Memᴰ f lines → (s : List ℕ) → Memᴰ s (fields f) → Number s
    each lines k f (inl q) s i = in_four Number a b w d e.0 e.1.0 e.1.1.0 e.1.1.1.0 s (subst (λ (g : Four). Memᴰ s (fields g)) q i)
    each lines k f (inr j) s i = k f j s i

    one : Grouped n m → Grouped (suc n) (a ∷ b ∷ w ∷ d ∷ m)
    one r = record {
      lines = four ∷ r.lines;
      many = ap suc r.many;
      each = λ f j. each r.lines r.each f (mathlib.Core.List.Memᴰ.cases_cons j);
      same = ap (λ (l : List (List ℕ)). a ∷ b ∷ w ∷ d ∷ l) r.same;
    }

-- numbers, four to a line, 1 to 8 lines
pub run_spells : (text : List ℕ) (m : List (List ℕ)) (n : ℕ) → text ≡ run 0 m → length m ≡ 4 * n → 1 ≤ n → n ≤ most_jobs → Numbers m → Spells text (map value m)
run_spells text m n e l h k d =
    let g = grouped n m l d in
    record {
      lines = g.lines;
      some = omega (arith, g.many);
      few = omega (arith, g.many);
      each = g.each;
      spelled = e ∙ (ap (run 0) (sym g.same) ∙ sym (flat_run 0 (omega arith) g.lines));
      values = ap (map value) (sym g.same) ∙ sym (flat_values g.lines);
    }
