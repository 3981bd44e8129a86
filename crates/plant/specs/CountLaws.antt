-- Events counted, and what stands at a job's place and not at another's. Assumes nothing.
use Rattle.std.specs.Prelude.{ℕ, ◌+◌, ◌≡◌, refl, ◌≢◌, Bool, true, false, cond, ◌&&◌, List, [], ◌∷◌, ◌++◌, eqb}
use Rattle.std.proofs.Common.{arith, ap, ◌∙◌}
use Rattle.plant.specs.Plant.{Event}
use Rattle.plant.specs.Reflect.{is_eq, is_true, is_false}
use Rattle.plant.specs.Count.{kind, who, same, count}

-- counting
pub count_hit : (d : Event) (h : List Event) → count d (d ∷ h) ≡ count d h + 1
count_hit d h = ap (λ (b : Bool). cond b (count d h + 1) (count d h)) (both (is_true (is_eq (kind d) (kind d)) refl) (is_true (is_eq (who d) (who d)) refl))
  where
    both : {a b : Bool} → a ≡ true → b ≡ true → (a && b) ≡ true
    both {a} {b} p q = ap (λ (x : Bool). x && b) p ∙ q

pub count_append : (d : Event) (g h : List Event) → count d (g ++ h) ≡ count d g + count d h
count_append d [] h = omega arith
count_append d (e ∷ g) h = go (same d e) (count_append d g h)
  where
    go : (b : Bool) → count d (g ++ h) ≡ count d g + count d h → cond b (count d (g ++ h) + 1) (count d (g ++ h)) ≡ cond b (count d g + 1) (count d g) + count d h
    go true r = omega arith
    go false r = r

pub count_miss : (d e : Event) (h : List Event) → who d ≢ who e → count d (e ∷ h) ≡ count d h
count_miss d e h n = ap (λ (b : Bool). cond b (count d h + 1) (count d h)) (both (eqb (kind d) (kind e)) (eqb (who d) (who e)) (is_false (is_eq (who d) (who e)) n))
  where
    both : (a b : Bool) → b ≡ false → (a && b) ≡ false
    both true b e = e
    both false b e = refl

-- `cond (eqb j i)`, by cases
pub own : {j i : ℕ} (v s : ℕ) → j ≡ i → cond (eqb j i) v s ≡ v
own {j} {i} v s e = ap (λ (b : Bool). cond b v s) (is_true (is_eq j i) e)

pub self : (i v s : ℕ) → cond (eqb i i) v s ≡ v
self i v s = ap (λ (b : Bool). cond b v s) (is_true (is_eq i i) refl)

pub other : {j i : ℕ} (v s : ℕ) → j ≢ i → cond (eqb j i) v s ≡ s
other {j} {i} v s n = ap (λ (b : Bool). cond b v s) (is_false (is_eq j i) n)
