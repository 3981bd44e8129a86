-- The starred sheets meet their claims, by one test that computes. Assumes nothing.
use Rattle.std.specs.Prelude.{ℕ, zero, suc, ◌<◌, ◌≡◌, refl, ◌↔◌, Bool, true, not, ◌&&◌, T, eqb, ltb}
use Rattle.std.proofs.Common.{arith, subst}
use mathlib.Core.List.Memᴰ
use mathlib.Core.List.{List, [], ◌∷◌, map, Memᴰ}
use Rattle.plant.specs.Plant.{Row}
use Rattle.plant.specs.Search.{T_and}
use Rattle.plant.specs.Reflect.{Is, is_map, is_eq, is_le, is_and3, is_not}
use Rattle.plant.specs.Lists.{all_of, all_each, has, is_has}
use Rattle.plant.proofs.SafeLaws.{prune}
use Rattle.plant.specs.Mask.{mask}
use Rattle.plant.proofs.MarkLaws.{starts_by, code_by, starts_right, code_right}
use Rattle.plant.proofs.Explore.{explore, not_late, among, live_list, pruned, safe_list, rows_among, whole, counted, live_right, is_safe_list, rows_right}
use Rattle.sheet.specs.Model.{Sheet, State, initial, digits_word, word, plant}
use Rattle.sheet.specs.Table.{Entry, Ascending, EntryOf, Rows}
use Rattle.sheet.specs.ModelTestsRight.{is_good}
use Rattle.sheet.specs.ModelTests.{good}
use Rattle.sheet.proofs.Obeys.{tests}
use Rattle.sheet.specs.Starred.{Star, stars, Outcome, Claim}

abbrev same_entry : Entry → Entry → Bool
same_entry a b = eqb a.word b.word && (eqb a.starts b.starts && eqb a.tick b.tick)

is_same_entry : (a b : Entry) → Is (same_entry a b) (a ≡ b)
is_same_entry a b = is_map (λ w. λ i. record { word = w.0 i; starts = w.1 i; tick = w.2 i })
    (λ e. ((λ i. (e i).word), (λ i. (e i).starts), (λ i. (e i).tick)))
    (is_and3 (is_eq a.word b.word) (is_eq a.starts b.starts) (is_eq a.tick b.tick))

abbrev ascends : List Entry → Bool
ascends [] = true
ascends (a ∷ []) = true
ascends (a ∷ b ∷ l) = ltb a.word b.word && ascends (b ∷ l)

ascends_right : (l : List Entry) → T (ascends l) → Ascending l
ascends_right [] t = λ i h. absurd (omega arith)
ascends_right (a ∷ []) t = λ i h. absurd (omega arith)
ascends_right (a ∷ b ∷ l) t = let w = T_and (ltb a.word b.word) (ascends (b ∷ l)) t in go ((is_le (suc a.word) b.word).holds w.0) (ascends_right (b ∷ l) w.1)
  where
    go : a.word < b.word → Ascending (b ∷ l) → Ascending (a ∷ b ∷ l)
    go h asc zero k = h
    go h asc (suc i) k = asc i (omega arith)

-- the row of a state, where `s` has the safe ones
abbrev entry : Sheet → List State → State → Entry
entry σ s q = record { word = word q; starts = starts_by (plant σ) (tests σ) (among (plant σ) (tests σ) s) q; tick = code_by (plant σ) (tests σ) (among (plant σ) (tests σ) s) q }

abbrev rows_test : Sheet → List Entry → List State → List State → Bool
rows_test σ l s qs =
    whole (plant σ) (tests σ) (among (plant σ) (tests σ) s) qs
    && ((all_of (λ q. has same_entry (entry σ s q) l) qs && all_of (λ e. has same_entry e (map (entry σ s) qs)) l) && ascends l)

-- enough steps for the largest of them
abbrev steps : ℕ
steps = 5000

abbrev outcome_test : Sheet → List Entry → List State → Bool
outcome_test σ [] s = not (among (plant σ) (tests σ) s initial)
outcome_test σ (e ∷ l) s = rows_test σ (e ∷ l) s (rows_among (plant σ) (tests σ) steps s)

abbrev live_test : Star → List State → Bool
live_test x l =
    whole (plant x.sheet) (tests x.sheet) (not_late (plant x.sheet) (tests x.sheet)) l
    && (counted (plant x.sheet) (tests x.sheet) l x.live
    && outcome_test x.sheet x.rows (pruned (plant x.sheet) (tests x.sheet) l))

unfoldable star_test : Star → Bool
star_test x = good x.sheet && live_test x (live_list (plant x.sheet) (tests x.sheet) steps)

tested : T (all_of star_test stars)
unfolding star_test stars live_list explore prune mask digits_word
tested = tt

-- The test is right -------------------------------------------------------------------------------------------------------

module _ (σ : Sheet) (k : T (whole (plant σ) (tests σ) (not_late (plant σ) (tests σ)) (live_list (plant σ) (tests σ) steps))) where
  abbrev safes : List State
  safes = safe_list (plant σ) (tests σ) steps

  abbrev rows : List State
  rows = rows_among (plant σ) (tests σ) steps safes

  entry_right : (q : State) → EntryOf σ q (entry σ safes q)
  entry_right q = record {
    word = refl;
    starts = starts_right (plant σ) (tests σ) (among (plant σ) (tests σ) safes) (is_safe_list (plant σ) (tests σ) steps k) q;
    tick = code_right (plant σ) (tests σ) (among (plant σ) (tests σ) safes) (is_safe_list (plant σ) (tests σ) steps k) q;
  }

  rows_test_right : (l : List Entry) → T (rows_test σ l safes rows) → Rows σ l
  rows_test_right l t = record {
    ascending = ascends_right l parts.2;
    each = λ e m. each e (Memᴰ.of_map (entry σ safes) rows (in_entries e m));
    every = λ q v. (entry σ safes q, in_l q ((met q).0 v), entry_right q);
  }
    where
      first : Bool
      first = whole (plant σ) (tests σ) (among (plant σ) (tests σ) safes) rows

      there : Bool
      there = all_of (λ q. has same_entry (entry σ safes q) l) rows

      back : Bool
      back = all_of (λ e. has same_entry e (map (entry σ safes) rows)) l

      two : T first × T ((there && back) && ascends l)
      two = T_and first ((there && back) && ascends l) t

      rest : T (there && back) × T (ascends l)
      rest = T_and (there && back) (ascends l) two.1

      parts : T first × T (there && back) × T (ascends l)
      parts = (two.0, rest.0, rest.1)

      both : T there × T back
      both = T_and there back parts.1

      met : (q : State) → Row (plant σ) q ↔ Memᴰ q rows
      met = rows_right (plant σ) (tests σ) steps k parts.0

      in_entries : (e : Entry) → Memᴰ e l → Memᴰ e (map (entry σ safes) rows)
      in_entries e m =
          let found = all_each (λ e. has same_entry e (map (entry σ safes) rows)) l both.1 e m in
          (is_has same_entry is_same_entry e (map (entry σ safes) rows)).holds found

      in_l : (q : State) → Memᴰ q rows → Memᴰ (entry σ safes q) l
      in_l q m = (is_has same_entry is_same_entry (entry σ safes q) l).holds (all_each (λ q. has same_entry (entry σ safes q) l) rows both.0 q m)

      each : (e : Entry) → (q : State) × Memᴰ q rows × (entry σ safes q ≡ e) → (q : State) × Row (plant σ) q × EntryOf σ q e
      each e w = (w.0, (met w.0).1 w.1, subst (EntryOf σ w.0) w.2 (entry_right w.0))

  outcome_right : (l : List Entry) → T (outcome_test σ l safes) → Outcome σ l
  outcome_right [] t = (is_not (is_safe_list (plant σ) (tests σ) steps k initial)).holds t
  outcome_right (e ∷ l) t = rows_test_right (e ∷ l) t

star_right : (x : Star) → T (star_test x) → Claim x
unfolding star_test safe_list
star_right x t = record {
  good_form = (is_good σ).holds outer.0;
  live_states = live_right (plant σ) (tests σ) steps inner.0 x.live rest.0;
  outcome = outcome_right σ inner.0 x.rows rest.1;
}
  where
    σ : Sheet
    σ = x.sheet

    lives : List State
    lives = live_list (plant σ) (tests σ) steps

    outer : T (good σ) × T (live_test x lives)
    outer = T_and (good σ) (live_test x lives) t

    first : Bool
    first = whole (plant σ) (tests σ) (not_late (plant σ) (tests σ)) lives

    second : Bool
    second = counted (plant σ) (tests σ) lives x.live

    third : Bool
    third = outcome_test σ x.rows (safe_list (plant σ) (tests σ) steps)

    inner : T first × T (second && third)
    inner = T_and first (second && third) outer.1

    rest : T second × T third
    rest = T_and second third inner.1

pub starred : (x : Star) → Memᴰ x stars → Claim x
starred x m = star_right x (all_each star_test stars tested x m)
