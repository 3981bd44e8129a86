-- What step takes in a state met under the table: exactly the events that are possible and that its row allows. Assumes nothing.
use Rattle.std.specs.Prelude.{ℕ, ◌-◌, ◌/◌, ◌%◌, ◌^◌, ◌≡◌, ◌⊎◌, Bool, true, false, cond, T, eqb}
use Rattle.std.proofs.Common.{arith, sym, ap, ◌∙◌, inl, inr, eq-eqb, ne_eqb}
use Rattle.std.proofs.Math.Path.{refl, subst}
use mathlib.Core.List.Memᴰ
use mathlib.Core.List.{List, [], ◌∷◌, Memᴰ}
use Rattle.plant.specs.Plant.{Event, tick, arrival, start, ending, Row, Safe}
use Rattle.plant.specs.Rule.{Allowed}
use Rattle.plant.specs.Asked.{Named}
use Rattle.plant.specs.Marks.{Code}
use Rattle.plant.specs.Reflect.{Is, is_map, is_eq, is_and, is_le, is_not, is_true}
use Rattle.plant.proofs.SafeLaws.{safe_live}
use Rattle.plant.proofs.TableLaws.{row_safe}
use Rattle.sheet.specs.Model.{Sheet, Good, State, Possible, next, word, plant}
use Rattle.sheet.specs.ModelTestsRight.{is_possible}
use Rattle.sheet.specs.ModelTests.{possible}
use Rattle.sheet.specs.Table.{Entry, Ascending, EntryOf, Rows}
use Rattle.sheet.proofs.RowsLaws.{ascending_tail, ascending_below}
use Rattle.sheet.proofs.OrderLaws.{live_wordy}
use Rattle.table.specs.Replies.{told, lookup}
use Rattle.desk.specs.Stepping.{desk_of, known, names, allows, stays, moves, asked}
use Rattle.desk.specs.StepLaws.{is_known}
use Rattle.desk.specs.declared.desk.Desk.{Desk}
use Rattle.desk.specs.declared.step.Stepped.{Stepped}

-- the row of a word is looked up where it stands
pub lookup_there : (rows : List Entry) → Ascending rows → (e : Entry) → Memᴰ e rows → lookup e.word rows ≡ told e
unfolding lookup
lookup_there [] asc e m = absurd (Memᴰ.not-nil m)
lookup_there (d ∷ rows) asc e m = go (Memᴰ.cases_cons m) (lookup_there rows (ascending_tail d rows asc) e)
  where
    go : (e ≡ d) ⊎ Memᴰ e rows → (Memᴰ e rows → lookup e.word rows ≡ told e) → cond (eqb d.word e.word) (told d) (lookup e.word rows) ≡ told e
    go (inl p) f = rw (eq-eqb d.word e.word (ap (λ (x : Entry). x.word) (sym p))) (ap told (sym p))
    go (inr k) f = rw (ne_eqb d.word e.word (λ q. omega (arith, ascending_below d rows asc e k))) (f k)

-- what a step comes to, by its three tests
verdict : Bool → Bool → Bool → Desk → State → Stepped
verdict n p a d q = cond n (cond p (cond a (moves q) (stays 11 0 d)) (stays 10 0 d)) (stays 9 0 d)

all_pass : (n p a : Bool) (d : Desk) (q : State) → (verdict n p a d q).reply.number ≡ 0 → T n × T p × T a
unfolding verdict
all_pass true true true d q z = (tt, tt, tt)
all_pass true true false d q z = absurd (omega arith)
all_pass true false a d q z = absurd (omega arith)
all_pass false p a d q z = absurd (omega arith)

pass_all : (n p a : Bool) (d : Desk) (q : State) → T n → T p → T a → verdict n p a d q ≡ moves q
unfolding verdict
pass_all true true true d q t u v = refl
pass_all true true false d q t u v = absurd v
pass_all true false a d q t u v = absurd u
pass_all false p a d q t u v = absurd t

module _ (σ : Sheet) (sheet : Good σ) (rows : List Entry) (right : Rows σ rows) where
  -- the jobs of possible events are there
  names_possible : (q : State) (e : Event) → Possible σ q e → T (names σ e)
  names_possible q tick p = tt
  names_possible q (arrival i) p = (is_and (is_le 1 i) (is_le i _)).passes p.0
  names_possible q (start i) p = (is_and (is_le 1 i) (is_le i _)).passes p.0
  names_possible q (ending i) p = (is_and (is_le 1 i) (is_le i _)).passes p.0

  pub named_possible : (q : State) (e : Event) → Possible σ q e → Named 8 e
  named_possible q tick p = tt
  named_possible q (arrival i) p = (p.0.0, omega (arith, p.0.1, sheet.few_jobs))
  named_possible q (start i) p = (p.0.0, omega (arith, p.0.1, sheet.few_jobs))
  named_possible q (ending i) p = (p.0.0, omega (arith, p.0.1, sheet.few_jobs))

  module _ (q : State) (row : Row (plant σ) q) where
    pub entry : Entry
    entry = (right.every q row).0

    pub of_state : EntryOf σ q entry
    unfolding entry
    of_state = (right.every q row).2

    pub found : lookup (word q) rows ≡ told entry
    unfolding entry
    found = subst (λ (w : ℕ). lookup w rows ≡ told entry) of_state.word (lookup_there rows right.ascending entry (right.every q row).1)

    -- the marks of its row allow exactly what the table allows
    allows_right : (e : Event) → Possible σ q e → Is (allows entry.starts entry.tick e) (Allowed (plant σ) q e)
    allows_right (arrival i) p = record { holds = λ t. tt; passes = λ u. tt }
    allows_right (ending i) p = record { holds = λ t. tt; passes = λ u. tt }
    allows_right (start i) p =
        let h = of_state.starts.has i (named_possible q (start i) p) in
        is_map (λ b. (h.0 b).1) (λ s. h.1 (p, s)) (is_eq (entry.starts / 2 ^ (i - 1) % 2) 1)
    allows_right tick p = go entry.tick of_state.tick
      where
        go : (c : ℕ) → Code (plant σ) q c → Is (allows entry.starts c tick) (Safe (plant σ) (next σ q tick))
        go c (inl w) = absurd (w.1 p)
        go c (inr (inl w)) = is_map (λ n. w.2) (λ s e. omega (arith, w.0)) (is_not (is_eq c 2))
        go c (inr (inr w)) = is_map (λ n. absurd (n w.0)) (λ s. absurd (w.2 s)) (is_not (is_eq c 2))

    known_statuses : known q.statuses ≡ true
    known_statuses = is_true (is_known q.statuses) (λ k. omega (arith, (live_wordy σ sheet (safe_live (plant σ) (row_safe (plant σ) row))).statuses_fit k))

    asked_is : (e : Event) → asked σ rows (desk_of q) e ≡ verdict (names σ e) (possible σ q e) (allows entry.starts entry.tick e) (desk_of q) (next σ q e)
    unfolding verdict
    asked_is e = rw (known_statuses, found) refl

    -- LAW: an event that is possible and allowed is taken, and the desk is the state that it leads to
    pub takes : (e : Event) → Possible σ q e → Allowed (plant σ) q e → asked σ rows (desk_of q) e ≡ moves (next σ q e)
    takes e p a =
        asked_is e
        ∙ pass_all (names σ e) (possible σ q e) (allows entry.starts entry.tick e) (desk_of q) (next σ q e)
        (names_possible q e p) ((is_possible σ q e).passes p) ((allows_right e p).passes a)

    -- LAW: and nothing else is taken
    pub took : (e : Event) → (asked σ rows (desk_of q) e).reply.number ≡ 0 → Possible σ q e × Allowed (plant σ) q e
    took e z =
        let t = all_pass (names σ e) (possible σ q e) (allows entry.starts entry.tick e) (desk_of q) (next σ q e) (ap (λ (s : Stepped). s.reply.number) (sym (asked_is e)) ∙ z) in
        let p = (is_possible σ q e).holds t.1 in
        (p, (allows_right e p).holds t.2)
