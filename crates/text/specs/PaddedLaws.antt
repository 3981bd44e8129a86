-- The numbers that are held give the array back, and one more is held. Assumes nothing.
use Rattle.std.specs.Prelude.{ℕ, ◌+◌, ◌-◌, ◌<◌, ◌≡◌, refl, List, ◌++◌, length, take, drop, set, replicate}
use Rattle.std.proofs.Common.{arith, sym, ap, ◌∙◌, length-set, length-take-le, take-append-drop, drop-drop, drop-set-lt}
use Rattle.std.proofs.lemmas.List.{drop-replicate}
use Rattle.text.specs.SheetText.{most_numbers}
use Rattle.text.specs.Padded.{Padded}

pub padded_none : Padded (replicate most_numbers 0) 0
padded_none = record { few = omega arith; room = refl; zeros = refl }

one_less : (m k : ℕ) → m - k - 1 ≡ m - (k + 1)
one_less m k = omega arith

module _ {numbers : List ℕ} {count : ℕ} (p : Padded numbers count) where
  pub count_back : length (take count numbers) ≡ count
  count_back = length-take-le count numbers (omega (arith, p.few, p.room))

  pub array_back : take count numbers ++ replicate (most_numbers - length (take count numbers)) 0 ≡ numbers
  array_back =
      ap (λ (n : ℕ). take count numbers ++ replicate (most_numbers - n) 0) count_back
      ∙ (ap (λ (l : List ℕ). take count numbers ++ l) (sym p.zeros) ∙ take-append-drop count numbers)

  pub padded_more : (v : ℕ) → count < most_numbers → Padded (set numbers count v) (count + 1)
  padded_more v h = record {
    few = omega arith;
    room = length-set numbers count v ∙ p.room;
    zeros =
        drop-set-lt (count + 1) numbers count v (omega arith)
        ∙ (sym (drop-drop 1 count numbers)
        ∙ (ap (λ (l : List ℕ). drop 1 l) p.zeros
        ∙ (drop-replicate 1 (most_numbers - count) 0 ∙ ap (λ (n : ℕ). replicate n 0) (one_less most_numbers count))));
  }
