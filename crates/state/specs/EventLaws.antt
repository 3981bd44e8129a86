-- What holds of event bytes: the case of each range, and that byte and event fix each other. Assumes nothing.
use Rattle.std.specs.Prelude.{ℕ, ◌+◌, ◌-◌, ◌≤◌, ◌≡◌, refl, Bool, true, false, cond, T, eqb}
use Rattle.std.proofs.Common.{arith, sym, ap, subst, eq-eqb, ne_eqb}
use Rattle.std.proofs.Math.Option.{none, some}
use Rattle.plant.specs.Plant as plant
use Rattle.plant.specs.Asked.{Named}
use Rattle.plant.specs.Reflect.{Is, is_le, is_eq, is_and, is_true, is_false}
use Rattle.state.specs.declared.event.Event.TheVariants.{Tick, Arrival, Start, Ending}
use Rattle.state.specs.EventByte.{within, event_of, kind_of, byte_of}

is_within : (a b x : ℕ) → Is (within a b x) ((a ≤ x) × (x ≤ b))
is_within a b x = is_and (is_le a x) (is_le x b)

within_yes : (a b x : ℕ) → a ≤ x → x ≤ b → within a b x ≡ true
within_yes a b x h k = is_true (is_within a b x) (h, k)

within_no : (a b x : ℕ) → (a ≤ x → x ≤ b → ⊥) → within a b x ≡ false
within_no a b x n = is_false (is_within a b x) (λ w. n w.0 w.1)

module _ (x : ℕ) where
  pub tick_is : x ≡ 0 → event_of x ≡ some Tick
  unfolding event_of
  tick_is h = rw (eq-eqb x 0 h)

  pub arrival_is : 1 ≤ x → x ≤ 8 → event_of x ≡ some (Arrival x)
  unfolding event_of
  arrival_is h k = rw (ne_eqb x 0 (λ e. omega arith), within_yes 1 8 x h k)

  pub start_is : 17 ≤ x → x ≤ 24 → event_of x ≡ some (Start (x - 16))
  unfolding event_of
  start_is h k = rw (ne_eqb x 0 (λ e. omega arith), within_no 1 8 x (λ a b. omega arith), within_yes 17 24 x h k)

  pub ending_is : 33 ≤ x → x ≤ 40 → event_of x ≡ some (Ending (x - 32))
  unfolding event_of
  ending_is h k = rw (ne_eqb x 0 (λ e. omega arith), within_no 1 8 x (λ a b. omega arith), within_no 17 24 x (λ a b. omega arith), within_yes 33 40 x h k)

  pub nothing_is : (x ≡ 0 → ⊥) → (1 ≤ x → x ≤ 8 → ⊥) → (17 ≤ x → x ≤ 24 → ⊥) → (33 ≤ x → x ≤ 40 → ⊥) → event_of x ≡ none
  unfolding event_of
  nothing_is t a s e = rw (ne_eqb x 0 t, within_no 1 8 x a, within_no 17 24 x s, within_no 33 40 x e)

-- the event of an event's byte is the event
pub event_byte : (e : plant.Event) → Named 8 e → kind_of (event_of (byte_of e)) ≡ some e
event_byte plant.tick h = ap kind_of (tick_is 0 refl)
event_byte (plant.arrival i) h = ap kind_of (arrival_is i h.0 h.1)
event_byte (plant.start i) h = let d : i + 16 - 16 ≡ i = omega arith in rw d at (ap kind_of (start_is (i + 16) (omega arith) (omega arith)))
event_byte (plant.ending i) h = let d : i + 32 - 32 ≡ i = omega arith in rw d at (ap kind_of (ending_is (i + 32) (omega arith) (omega arith)))

-- and a byte that names an event is the byte of that event, of one of the jobs 1 to 8
pub byte_event : (x : ℕ) (e : plant.Event) → kind_of (event_of x) ≡ some e → Named 8 e × (byte_of e ≡ x)
unfolding event_of
byte_event x e h = go (eqb x 0) (is_eq x 0).holds (within 1 8 x) (is_within 1 8 x).holds (within 17 24 x) (is_within 17 24 x).holds (within 33 40 x) (is_within 33 40 x).holds h
  where
    is : (d : plant.Event) → some d ≡ some e → Named 8 d × (byte_of d ≡ x) → Named 8 e × (byte_of e ≡ x)
    is d q w = let p : d ≡ e = cc in subst (λ (f : plant.Event). Named 8 f × (byte_of f ≡ x)) p w

    go : (t : Bool) → (T t → x ≡ 0) → (a : Bool) → (T a → (1 ≤ x) × (x ≤ 8))
        → (s : Bool) → (T s → (17 ≤ x) × (x ≤ 24)) → (n : Bool) → (T n → (33 ≤ x) × (x ≤ 40))
        → kind_of (cond t (some Tick) (cond a (some (Arrival x)) (cond s (some (Start (x - 16))) (cond n (some (Ending (x - 32))) none)))) ≡ some e → Named 8 e × (byte_of e ≡ x)
    go true f a g s k n l q = is plant.tick q (tt, sym (f tt))
    go false f true g s k n l q = is (plant.arrival x) q (g tt, refl)
    go false f false g true k n l q = let w = k tt in is (plant.start (x - 16)) q ((omega arith, omega arith), omega arith)
    go false f false g false k true l q = let w = l tt in is (plant.ending (x - 32)) q ((omega arith, omega arith), omega arith)
    go false f false g false k false l q = let z : ◌≡◌ {A = ℕ} 0 1 = cc in absurd (omega arith)
