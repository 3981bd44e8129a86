-- Places that rows can be read at, and parts of them. Assumes nothing.
use Rattle.std.specs.Prelude.{ℕ, zero, suc, ◌<◌, refl, List, [], ◌∷◌, length, get_or, take, drop}
use mathlib.Core.List.Memᴰ
use mathlib.Core.List.{Memᴰ}
use Rattle.std.proofs.Common.{arith, ⊎_elim, length-take, length-drop}
use Rattle.places.specs.Places.{most_live}
use Rattle.order.specs.Deal.{PlacesIn}

member : (l : List ℕ) (i : ℕ) → i < length l → Memᴰ (get_or l i 0) l
member [] i h = absurd (omega arith)
member (x ∷ l) zero h = Memᴰ.head refl
member (x ∷ l) (suc i) h = Memᴰ.tail (member l i (omega arith))

pub place_small : {s l : List ℕ} → PlacesIn s l → (i : ℕ) → i < length l → get_or l i 0 < most_live
place_small {s} {l} x i h = x.each (get_or l i 0) (member l i h)

-- a part of them
in_take : (n : ℕ) (l : List ℕ) (p : ℕ) → Memᴰ p (take n l) → Memᴰ p l
in_take zero l p m = absurd (Memᴰ.not-nil m)
in_take (suc n) [] p m = m
in_take (suc n) (x ∷ l) p m = ⊎_elim (λ e. Memᴰ.head e) (λ t. Memᴰ.tail (in_take n l p t)) (Memᴰ.cases_cons m)

in_drop : (n : ℕ) (l : List ℕ) (p : ℕ) → Memᴰ p (drop n l) → Memᴰ p l
in_drop zero l p m = m
in_drop (suc n) [] p m = m
in_drop (suc n) (x ∷ l) p m = Memᴰ.tail (in_drop n l p m)

pub part_in : {s l : List ℕ} → PlacesIn s l → (n k : ℕ) → PlacesIn s (take n (drop k l))
part_in {s} {l} x n k = record {
  room = omega (arith, length-take n (drop k l), length-drop k l, x.room);
  words = x.words;
  each = λ p m. x.each p (in_drop k l p (in_take n (drop k l) p m));
}
