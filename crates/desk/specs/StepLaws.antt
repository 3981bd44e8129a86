-- The stages of a step: what each refusal, and the event taken, is in the reply. Assumes nothing.
use Rattle.std.specs.Prelude.{ℕ, zero, suc, ◌≤◌, ◌<◌, ◌≡◌, refl, ◌≢◌, Bool, true, false, cond, List, [], ◌∷◌, T, eqb, length, get_or}
use Rattle.std.proofs.Common.{arith, sym, ap, subst, ◌∙◌, lit≤, eq-eqb, ne_eqb}
use Rattle.std.proofs.Math.Option.{Option, none, some}
use Rattle.plant.specs.Plant.{Event}
use Rattle.plant.specs.Reflect.{Is, is_map, is_le, is_and, is_eq}
use Rattle.sheet.specs.Model.{Sheet, State, next, word}
use Rattle.sheet.specs.ModelTests.{possible}
use Rattle.sheet.specs.Table.{Entry, at}
use Rattle.state.specs.Statuses.{Known}
use Rattle.state.specs.Tell.{tell_yes}
use Rattle.state.specs.EventByte.{event_of, kind_of}
use Rattle.state.specs.declared.event.Event as code
use Rattle.table.specs.Reading.{Reading, good, bad}
use Rattle.table.specs.Replies.{told, lookup, row_reply}
use Rattle.table.specs.declared.row.RowReply.{RowReply}
use Rattle.desk.specs.Stepping.{state_in, known, on, names, allows, stays, moves, asked, step_reply}
use Rattle.desk.specs.declared.desk.Desk.{Desk}
use Rattle.desk.specs.declared.step.Stepped.{Stepped}

-- at most n statuses, none of them above 3
pub all_known : (l : List ℕ) (n : ℕ) → length l ≡ n → ((k : ℕ) → k < n → get_or l k 0 ≤ 3) → Known l
all_known [] n h f k = lit≤ tt
all_known (s ∷ l) zero h f k = absurd (omega arith)
all_known (s ∷ l) (suc n) h f zero = f 0 (omega arith)
all_known (s ∷ l) (suc n) h f (suc k) = all_known l n (omega arith) (λ j g. f (suc j) (omega arith)) k

pub is_known : (l : List ℕ) → Is (known l) (Known l)
unfolding known
is_known [] = tell_yes (λ k. lit≤ tt)
is_known (s ∷ l) = is_map to (λ f. (f 0, λ k. f (suc k))) (is_and (is_le s 3) (is_known l))
  where
    to : (s ≤ 3) × Known l → Known (s ∷ l)
    to w zero = w.0
    to w (suc k) = w.1 k

-- a word that is not refused is a row's
pub lookup_some : (w : ℕ) (rows : List Entry) → (lookup w rows).number ≡ 0 → (i : ℕ) × (i < length rows) × ((at rows i).word ≡ w) × (lookup w rows ≡ told (at rows i))
unfolding lookup
lookup_some w [] z = absurd (omega arith)
lookup_some w (e ∷ rows) z = go (eqb e.word w) (is_eq e.word w).holds z (lookup_some w rows)
  where
    go : (b : Bool) → (T b → e.word ≡ w) → (cond b (told e) (lookup w rows)).number ≡ 0
        → ((lookup w rows).number ≡ 0 → (i : ℕ) × (i < length rows) × ((at rows i).word ≡ w) × (lookup w rows ≡ told (at rows i)))
        → (i : ℕ) × (i < suc (length rows)) × ((at (e ∷ rows) i).word ≡ w) × (cond b (told e) (lookup w rows) ≡ told (at (e ∷ rows) i))
    go true h z f = (0, omega arith, h tt, refl)
    go false h z f = let r = f z in (suc r.0, omega (arith, r.1), r.2, r.3)

-- the row call's refusals tell a bad file from a good one
pub good_told : (x : Reading) (w : ℕ) (t : RowReply) → t ≡ row_reply w x → t.number ≢ 7 → (σ : Sheet) × (rows : List Entry) × (x ≡ good σ rows) × (t ≡ lookup w rows)
good_told (bad b) w t e n = absurd (n (ap (λ (r : RowReply). r.number) e))
good_told (good σ rows) w t e n = (σ, rows, refl, e)

lookup_number : (w : ℕ) (rows : List Entry) → (lookup w rows).number ≢ 7
unfolding lookup
lookup_number w [] z = omega arith
lookup_number w (e ∷ rows) z = go (eqb e.word w) z (lookup_number w rows)
  where
    go : (b : Bool) → (cond b (told e) (lookup w rows)).number ≡ 7 → (lookup w rows).number ≢ 7 → ⊥
    go true z f = omega arith
    go false z f = f z

pub bad_told : (x : Reading) (w : ℕ) (t : RowReply) → t ≡ row_reply w x → t.number ≡ 7 → (d : Desk) (byte : ℕ) → stays 7 t.detail d ≡ step_reply d byte x
bad_told (bad b) w t e n d byte = ap (λ (r : RowReply). stays 7 r.detail d) e
bad_told (good σ rows) w t e n d byte = absurd (lookup_number w rows (ap (λ (r : RowReply). r.number) (sym e) ∙ n))

-- The stages, of a good file ----------------------------------------------------------------------------------------------

module _ (σ : Sheet) (rows : List Entry) (d : Desk) where
  abbrev Reply : Option Event → Stepped
  Reply = on (stays 9 0 d) (asked σ rows d)

  -- the reply to the reading is the reply to the event that the code found
  pub for_event : (x : Reading) → x ≡ good σ rows → (byte : ℕ) (e : Option code.Event) → e ≡ event_of byte → (r : Stepped) → r ≡ Reply (kind_of e) → r ≡ step_reply d byte x
  for_event x g byte e h r p = p ∙ (ap (λ (v : Option code.Event). Reply (kind_of v)) h ∙ ap (step_reply d byte) (sym g))

  pub nine : (o : Option Event) → on false (names σ) o ≡ false → stays 9 0 d ≡ Reply o
  nine none h = refl
  nine (some e) h = rw h refl

  pub eight_unknown : (o : Option Event) → on false (names σ) o ≡ true → known d.statuses ≡ false → stays 8 0 d ≡ Reply o
  eight_unknown none h k = absurd (subst T (sym h) tt)
  eight_unknown (some e) h k = rw (h, k) refl

  module _ (t : RowReply) (f : t ≡ lookup (word (state_in d)) rows) (k : known d.statuses ≡ true) where
    pub eight : (o : Option Event) → on false (names σ) o ≡ true → t.number ≢ 0 → stays 8 0 d ≡ Reply o
    eight none h n = absurd (subst T (sym h) tt)
    eight (some e) h n = rw (h, k, ← f, ne_eqb t.number 0 n) refl

    module _ (z : t.number ≡ 0) where
      pub ten : (o : Option Event) → on false (names σ) o ≡ true → on false (possible σ (state_in d)) o ≡ false → stays 10 0 d ≡ Reply o
      ten none h p = absurd (subst T (sym h) tt)
      ten (some e) h p = rw (h, k, ← f, eq-eqb t.number 0 z, p) refl

      pub eleven : (o : Option Event) → on false (names σ) o ≡ true → on false (possible σ (state_in d)) o ≡ true
          → on false (allows t.starts t.tick) o ≡ false → stays 11 0 d ≡ Reply o
      eleven none h p a = absurd (subst T (sym h) tt)
      eleven (some e) h p a = rw (h, k, ← f, eq-eqb t.number 0 z, p, a) refl

      pub taken : (o : Option Event) → on false (names σ) o ≡ true → on false (possible σ (state_in d)) o ≡ true → on false (allows t.starts t.tick) o ≡ true
          → (q : State) → q ≡ on (state_in d) (next σ (state_in d)) o → moves q ≡ Reply o
      taken none h p a q e = absurd (subst T (sym h) tt)
      taken (some e) h p a q g = rw (h, k, ← f, eq-eqb t.number 0 z, p, a) (ap moves g)
