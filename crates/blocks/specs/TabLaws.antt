-- Lists f 0, .., f (n − 1). Assumes nothing.
use Prim.Native.Nat.{ℕ, zero, suc, ◌+◌, ◌-◌, ◌≤◌, ◌<◌, min}
use Rattle.std.proofs.Common.{arith, zero-add, suc-add, sym, ◌∙◌, take_all, ext_get_or}
use Rattle.std.proofs.Math.Decide.{dec_lt}
use Rattle.std.proofs.Math.Nat.{sub-zero, zero-sub, suc-sub-suc}
use Rattle.std.specs.Prelude.{◌≡◌, length, get_or, take, drop}
use Rattle.std.proofs.Math.Path.{refl, ap}
use mathlib.Core.List.{List, [], ◌∷◌, ◌++◌, map}
use Rattle.blocks.specs.Tab.{tab}

module _ {A : Type 0} where
  pub length_tab : (n : ℕ) (f : ℕ → A) → length (tab n f) ≡ n
  unfolding tab
  length_tab zero f = refl
  length_tab (suc n) f = ap suc (length_tab n (λ i. f (suc i)))

  pub get_or_tab : (n : ℕ) (f : ℕ → A) (d : A) (i : ℕ) → i < n → get_or (tab n f) i d ≡ f i
  unfolding tab
  get_or_tab zero f d i h = absurd (omega arith)
  get_or_tab (suc n) f d zero h = refl
  get_or_tab (suc n) f d (suc i) h = get_or_tab n (λ j. f (suc j)) d i (omega arith)

  pub tab_snoc : (n : ℕ) (f : ℕ → A) → tab (suc n) f ≡ tab n f ++ (f n ∷ [])
  unfolding tab
  tab_snoc zero f = refl
  tab_snoc (suc n) f = ap (λ (l : List A). f 0 ∷ l) (tab_snoc n (λ i. f (suc i)))

  pub take_is_tab : (n : ℕ) (l : List A) (d : A) → n ≤ length l → take n l ≡ tab n (λ i. get_or l i d)
  unfolding tab
  take_is_tab zero l d h = refl
  take_is_tab (suc n) [] d h = absurd (omega arith)
  take_is_tab (suc n) (x ∷ l) d h = ap (λ (r : List A). x ∷ r) (take_is_tab n l d (omega arith))

  -- a list whose places are these is that list
  pub tab_is : (l : List A) (n : ℕ) (f : ℕ → A) (d : A) → length l ≡ n → ((i : ℕ) → i < n → get_or l i d ≡ f i) → l ≡ tab n f
  tab_is l n f d e g = ext_get_or d l (tab n f) (e ∙ sym (length_tab n f)) (λ i h. let k : i < n = omega arith in g i k ∙ sym (get_or_tab n f d i k))

  -- a list is that of its places
  pub is_tab : (l : List A) (d : A) → l ≡ tab (length l) (λ i. get_or l i d)
  is_tab l d = sym (take_all (length l) l (omega arith)) ∙ take_is_tab (length l) l d (omega arith)

  pub take_tab : (n m : ℕ) (f : ℕ → A) → n ≤ m → take n (tab m f) ≡ tab n f
  unfolding tab
  take_tab zero m f h = refl
  take_tab (suc n) zero f h = absurd (omega arith)
  take_tab (suc n) (suc m) f h = ap (λ (l : List A). f 0 ∷ l) (take_tab n m (λ i. f (suc i)) (omega arith))

  tab_same : (n : ℕ) (f g : ℕ → A) → ((i : ℕ) → f i ≡ g i) → tab n f ≡ tab n g
  unfolding tab
  tab_same zero f g e = refl
  tab_same (suc n) f g e = rw (e 0, tab_same n (λ i. f (suc i)) (λ i. g (suc i)) (λ i. e (suc i))) refl

  drop_tab : (k n : ℕ) (f : ℕ → A) → drop k (tab n f) ≡ tab (n - k) (λ i. f (k + i))
  unfolding tab
  drop_tab zero n f = rw (sub-zero n) (tab_same n f (λ i. f (0 + i)) (λ i. ap f (sym (zero-add i))))
  drop_tab (suc k) zero f = rw (zero-sub (suc k)) refl
  drop_tab (suc k) (suc n) f = rw (suc-sub-suc n k) (drop_tab k n (λ i. f (suc i)) ∙ tab_same (n - k) (λ i. f (suc (k + i))) (λ i. f (suc k + i)) (λ i. ap f (sym (suc-add k i))))

  -- a stretch of it: at most m, from k on
  pub part_tab : (m k n : ℕ) (f : ℕ → A) → take m (drop k (tab n f)) ≡ tab (min m (n - k)) (λ i. f (k + i))
  part_tab m k n f = rw (drop_tab k n f) (go (dec_lt (n - k) m))
    where
      g : ℕ → A
      g i = f (k + i)

      go : Dec (n - k < m) → take m (tab (n - k) g) ≡ tab (min m (n - k)) g
      go (yes h) = let e : min m (n - k) ≡ n - k = omega arith in rw e (take_all m (tab (n - k) g) (omega (arith, length_tab (n - k) g)))
      go (no h) = let e : min m (n - k) ≡ m = omega arith in rw e (take_tab m (n - k) g (omega arith))

pub map_tab : {A B : Type 0} (f : A → B) (n : ℕ) (g : ℕ → A) → map f (tab n g) ≡ tab n (λ i. f (g i))
unfolding tab
map_tab f zero g = refl
map_tab f (suc n) g = ap (λ (l : List _). f (g 0) ∷ l) (map_tab f n (λ i. g (suc i)))
