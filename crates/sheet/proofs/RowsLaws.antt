-- The rows of a table: there is one list of them, each is of good form, and they are as many as the states met. Assumes nothing.
use Rattle.std.specs.Prelude.{ℕ, zero, suc, ◌-◌, ◌/◌, ◌^◌, ◌≤◌, ◌<◌, ◌≡◌, refl, ◌⊎◌, ◌↔◌, length}
use Rattle.std.proofs.Common.{arith, sym, subst, ◌∙◌, inl, inr}
use Rattle.std.proofs.Math.Nat.{zero-div}
use Rattle.std.proofs.Math.Path.{ap}
use mathlib.Core.List.Memᴰ
use mathlib.Core.List.{List, [], ◌∷◌, map, Memᴰ}
use Rattle.std.proofs.lemmas.List.{length-map}
use Rattle.plant.specs.Plant.{tick, Row, Safe, Live, at_start}
use Rattle.plant.specs.Number.{Number, Distinct}
use Rattle.plant.specs.Range.{In}
use Rattle.plant.specs.Marks.{Has, Code}
use Rattle.plant.proofs.MarkLaws.{starts_one, code_one, code_le, held_some}
use Rattle.plant.proofs.SafeLaws.{safe_live, safe_not_late}
use Rattle.plant.proofs.TableLaws.{row_safe}
use Rattle.sheet.specs.Model.{Sheet, Good, State, initial, Possible, next, Late, digits_word, word, plant, state_of}
use Rattle.sheet.specs.Table.{Entry, at, Ascending, EntryOf, Rows}
use Rattle.sheet.specs.Form.{InOrder, Fits, GoodEntry, GoodRows}
use Rattle.sheet.proofs.WordLaws.{word_lt, state_of_word}
use Rattle.sheet.proofs.OrderLaws.{live_in_order, live_wordy}

-- Ascending lists ---------------------------------------------------------------------------------------------------------

pub ascending_tail : (e : Entry) (l : List Entry) → Ascending (e ∷ l) → Ascending l
ascending_tail e l asc i h = asc (suc i) (omega arith)

pub ascending_below : (e : Entry) (l : List Entry) → Ascending (e ∷ l) → (x : Entry) → Memᴰ x l → e.word < x.word
ascending_below e [] asc x m = absurd (Memᴰ.not-nil m)
ascending_below e (y ∷ l) asc x m = go (Memᴰ.cases_cons m) (ascending_below y l (ascending_tail e (y ∷ l) asc) x)
  where
    go : (x ≡ y) ⊎ Memᴰ x l → (Memᴰ x l → y.word < x.word) → e.word < x.word
    go (inl p) f = omega (arith, asc 0 (omega arith), ap (λ (z : Entry). z.word) p)
    go (inr k) f = omega (arith, asc 0 (omega arith), f k)

-- two ascending lists with the same members are equal
pub ascending_one : (l m : List Entry) → Ascending l → Ascending m → ((e : Entry) → Memᴰ e l ↔ Memᴰ e m) → l ≡ m
ascending_one [] [] a b s = refl
ascending_one [] (d ∷ m) a b s = absurd (Memᴰ.not-nil ((s d).1 (Memᴰ.head refl)))
ascending_one (e ∷ l) [] a b s = absurd (Memᴰ.not-nil ((s e).0 (Memᴰ.head refl)))
ascending_one (e ∷ l) (d ∷ m) a b s = let r = ascending_one l m (ascending_tail e l a) (ascending_tail d m b) tails in λ i. heads i ∷ r i
  where
    heads : e ≡ d
    heads = go (Memᴰ.cases_cons ((s e).0 (Memᴰ.head refl))) (Memᴰ.cases_cons ((s d).1 (Memᴰ.head refl)))
      where
        go : (e ≡ d) ⊎ Memᴰ e m → (d ≡ e) ⊎ Memᴰ d l → e ≡ d
        go (inl p) q = p
        go (inr j) (inl q) = sym q
        go (inr j) (inr k) = absurd (omega (arith, ascending_below d m b e j, ascending_below e l a d k))

    tails : (x : Entry) → Memᴰ x l ↔ Memᴰ x m
    tails x = ((λ k. to k (Memᴰ.cases_cons ((s x).0 (Memᴰ.tail k)))), (λ k. from k (Memᴰ.cases_cons ((s x).1 (Memᴰ.tail k)))))
      where
        to : Memᴰ x l → (x ≡ d) ⊎ Memᴰ x m → Memᴰ x m
        to k (inl p) = absurd (omega (arith, ascending_below e l a x k, ap (λ (z : Entry). z.word) (p ∙ sym heads)))
        to k (inr j) = j

        from : Memᴰ x m → (x ≡ e) ⊎ Memᴰ x l → Memᴰ x l
        from k (inl p) = absurd (omega (arith, ascending_below d m b x k, ap (λ (z : Entry). z.word) (p ∙ heads)))
        from k (inr j) = j

-- The rows ----------------------------------------------------------------------------------------------------------------

module _ (σ : Sheet) (good : Good σ) where
  row_live : {q : State} → Row (plant σ) q → Live (plant σ) q
  row_live v = safe_live (plant σ) (row_safe (plant σ) v)

  entry_one : (q : State) (a b : Entry) → EntryOf σ q a → EntryOf σ q b → a ≡ b
  entry_one q a b x y =
      let w = x.word ∙ sym y.word in
      let s = starts_one (plant σ) q a.starts b.starts x.starts y.starts in
      let t = code_one (plant σ) q a.tick b.tick x.tick y.tick in
      λ i. record { word = w i; starts = s i; tick = t i }

  -- THERE IS ONE LIST OF ROWS
  pub rows_one : (l m : List Entry) → Rows σ l → Rows σ m → l ≡ m
  rows_one l m a b = ascending_one l m a.ascending b.ascending (λ e. (moves l m a b e, moves m l b a e))
    where
      moves : (l m : List Entry) → Rows σ l → Rows σ m → (e : Entry) → Memᴰ e l → Memᴰ e m
      moves l m a b e k =
          let w = a.each e k in
          let v = b.every w.0 w.1 in
          subst (λ (x : Entry). Memᴰ x m) (entry_one w.0 v.0 e v.2 w.2) v.1

  -- EVERY ROW IS OF GOOD FORM
  pub row_fits : (q : State) → Safe (plant σ) q → (e : Entry) → EntryOf σ q e → Fits σ q e.starts e.tick
  row_fits q s e x = record {
    ready = λ i h b. ((x.starts.has i h).0 b).0;
    none = λ z. none x.tick z;
    some = λ n. some n x.tick;
    known = code_le (plant σ) q e.tick x.tick;
    held = λ z. some_bit (held_some (plant σ) q (λ i p. omega (arith, p.0, good.few_jobs)) s e.starts e.tick x.starts x.tick z);
    opens = λ z. opens x.tick z;
  }
    where
      none : Code (plant σ) q e.tick → e.tick ≡ 0 → ¬ (Possible σ q tick)
      none (inl y) z = y.1
      none (inr (inl y)) z = absurd (omega (arith, y.0))
      none (inr (inr y)) z = absurd (omega (arith, y.0))

      some : ¬ (Possible σ q tick) → Code (plant σ) q e.tick → e.tick ≡ 0
      some n (inl y) = y.0
      some n (inr (inl y)) = absurd (n y.1)
      some n (inr (inr y)) = absurd (n y.1)

      opens : Code (plant σ) q e.tick → e.tick ≡ 1 → ¬ (Late σ (next σ q tick))
      opens (inl y) z = absurd (omega (arith, y.0))
      opens (inr (inl y)) z = safe_not_late (plant σ) y.2
      opens (inr (inr y)) z = absurd (omega (arith, y.0))

      some_bit : (k : ℕ) × In 8 k × Has e.starts k → 1 ≤ e.starts
      some_bit w = by e.starts w.0 w.2
        where
          by : (b k : ℕ) → Has b k → 1 ≤ b
          by zero k h = let z : zero / 2 ^ (k - 1) ≡ zero = zero-div (2 ^ (k - 1)) in absurd (omega arith)
          by (suc b) k h = omega arith

  row_good : (q : State) → Row (plant σ) q → (e : Entry) → EntryOf σ q e → GoodEntry σ e
  row_good q v e x =
      let f = live_wordy σ good (row_live v) in
      let back : state_of e.word ≡ q = ap state_of x.word ∙ state_of_word q f in
      record {
        fits = (omega (arith, x.word, word_lt q f), x.starts.fits);
        order = subst (InOrder σ) (sym back) (live_in_order σ good.few_jobs (row_live v));
        marks = subst (λ (r : State). Fits σ r e.starts e.tick) (sym back) (row_fits q (row_safe (plant σ) v) e x);
      }

  -- what stands at a place of a list is in it
  at_in : (l : List Entry) (i : ℕ) → i < length l → Memᴰ (at l i) l
  at_in [] i h = absurd (omega arith)
  at_in (e ∷ l) zero h = Memᴰ.head refl
  at_in (e ∷ l) (suc i) h = Memᴰ.tail (at_in l i (omega arith))

  pub rows_good : Safe (plant σ) initial → (l : List Entry) → Rows σ l → GoodRows σ l
  unfolding digits_word
  rows_good s l a = record {
    each = λ i h. let w = a.each (at l i) (at_in l i h) in row_good w.0 w.1 (at l i) w.2;
    ascending = a.ascending;
    first = let w = a.every initial (at_start s) in first l a.ascending w.0 w.1 w.2.word;
  }
    where
      first : (l : List Entry) → Ascending l → (e : Entry) → Memᴰ e l → e.word ≡ 0 → (at l 0).word ≡ 0
      first [] asc e k z = absurd (Memᴰ.not-nil k)
      first (d ∷ l) asc e k z = go (Memᴰ.cases_cons k)
        where
          go : (e ≡ d) ⊎ Memᴰ e l → d.word ≡ 0
          go (inl p) = ap (λ (x : Entry). x.word) (sym p) ∙ z
          go (inr j) = absurd (omega (arith, ascending_below d l asc e j))

  -- the state of an entry
  met : Entry → State
  met e = state_of e.word

  met_is : {q : State} → Row (plant σ) q → (e : Entry) → EntryOf σ q e → met e ≡ q
  unfolding met
  met_is {q} v e x = ap state_of x.word ∙ state_of_word q (live_wordy σ good (row_live v))

  met_distinct : (l : List Entry) → Rows σ l → (m : List Entry) → Ascending m → ((e : Entry) → Memᴰ e m → Memᴰ e l) → Distinct (map met m)
  met_distinct l a [] asc f = tt
  met_distinct l a (e ∷ m) asc f = (alone, met_distinct l a m (ascending_tail e m asc) (λ x k. f x (Memᴰ.tail k)))
    where
      told : (x : Entry) → Memᴰ x l → word (met x) ≡ x.word
      told x k = let w = a.each x k in ap word (met_is w.1 x w.2) ∙ sym w.2.word

      alone : ¬ (Memᴰ (met e) (map met m))
      alone k =
          let w = Memᴰ.of_map met m k in
          omega (arith, told e (f e (Memᴰ.head refl)), told w.0 (f w.0 (Memᴰ.tail w.1)), ap word w.2, ascending_below e m asc w.0 w.1)

  -- AS MANY ROWS AS STATES MET
  pub rows_number : (l : List Entry) → Rows σ l → Number (Row (plant σ)) (length l)
  rows_number l a = record { list = map met l; each = λ q. (to q, from q); once = met_distinct l a l a.ascending (λ e k. k); many = length-map l met }
    where
      to : (q : State) → Row (plant σ) q → Memᴰ q (map met l)
      to q v = let w = a.every q v in subst (λ (r : State). Memᴰ r (map met l)) (met_is v w.0 w.2) (Memᴰ.map met w.1)

      from : (q : State) → Memᴰ q (map met l) → Row (plant σ) q
      from q m =
          let w = Memᴰ.of_map met l m in
          let r = a.each w.0 w.1 in
          subst (Row (plant σ)) (sym (met_is r.1 w.0 r.2) ∙ w.2) r.1
