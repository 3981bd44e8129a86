-- The stages of a step come to its reply. Assumes nothing.
use Rattle.std.specs.Prelude.{ℕ, ◌<◌, ◌≡◌, refl, ◌≢◌, Bool, true, false, List, length, Ok}
use Rattle.std.proofs.Common.{arith, sym, ap, subst, ◌∙◌}
use Rattle.std.proofs.Math.Option.{some}
use Rattle.plant.specs.Reflect.{is_true}
use Rattle.sheet.specs.Model.{Sheet, Good, word}
use Rattle.sheet.specs.Model as rules
use Rattle.sheet.specs.Form.{GoodRows}
use Rattle.sheet.specs.Table.{Entry, at, Ascending}
use Rattle.state.specs.Clocks.{model}
use Rattle.state.specs.Statuses.{Known}
use Rattle.state.specs.declared.word.State.{State}
use Rattle.blocks.specs.Rows.{entry_of}
use Rattle.blocks.specs.declared.row.Row.{Row}
use Rattle.state.specs.EventByte.{event_of, event_in_rules, kind_of}
use Rattle.state.specs.Tell.{told_yes}
use Rattle.state.specs.declared.event.Event.{Event}
use Rattle.table.specs.Reading.{good}
use Rattle.table.specs.Replies.{told, lookup}
use Rattle.table.specs.RowLaws.{lookup_none, lookup_is}
use Rattle.table.specs.declared.row.RowReply.{RowReply}
use Rattle.desk.specs.Stepping.{state_in, known, on, names, stays, in_row, asked, step_reply}
use Rattle.desk.specs.Stages.{Standing, MovesOn}
use Rattle.desk.specs.MoveLaws.{job_fits, fits_in}
use Rattle.desk.specs.StepLaws.{is_known, nine, eight_unknown, eight}
use Rattle.desk.specs.declared.desk.Desk.{Desk}
use Rattle.desk.specs.declared.step.Stepped.{Stepped}

-- a desk that a state is on has known statuses
pub known_on : (s : State) (d : Desk) → model s ≡ state_in d → Known d.statuses
known_on s d m = subst (λ (q : rules.State). Known q.statuses) m s.known

module _ (σ : Sheet) (rows : List Entry) (d : Desk) (x : ℕ) where
  pub at_nine : on false (names σ) (kind_of (event_of x)) ≡ false → stays 9 0 d ≡ step_reply d x (good σ rows)
  at_nine h = nine σ rows d (kind_of (event_of x)) h

  module _ (e : Event) (is : event_of x ≡ some e) (n : names σ (event_in_rules e) ≡ true) where
    pub at_eight : (Known d.statuses → (i : ℕ) → i < length rows → (at rows i).word ≢ word (state_in d)) → stays 8 0 d ≡ step_reply d x (good σ rows)
    at_eight f = rw is (go (known d.statuses) refl)
      where
        go : (b : Bool) → known d.statuses ≡ b → stays 8 0 d ≡ asked σ rows d (event_in_rules e)
        go false k = eight_unknown σ rows d (some (event_in_rules e)) n k
        go true k =
            let none = lookup_none (word (state_in d)) rows (f (told_yes (is_known d.statuses) k)) in
            eight σ rows d (lookup (word (state_in d)) rows) refl k (some (event_in_rules e)) n (λ z. omega (arith, ap (λ (r : RowReply). r.number) none, z))

    -- of a row found, what is replied in the row
    pub at_row : (p : State × Row) → Ascending rows → Standing rows d (Ok p) → (r : Stepped) → r ≡ in_row σ d (told (entry_of p.1)) (event_in_rules e)
        → r ≡ step_reply d x (good σ rows)
    at_row p a w r f =
        let found = lookup_is rows (word (state_in d)) w.0 a (w.1, w.2) in
        let row : r ≡ in_row σ d (told (at rows w.0)) (event_in_rules e) = f ∙ ap (λ (y : Entry). in_row σ d (told y) (event_in_rules e)) w.3 in
        rw (is, n, is_true (is_known d.statuses) (known_on p.0 d w.4), found) row

-- a state that stands with its row moves on
pub moves_on : (σ : Sheet) (rows : List Entry) → Good σ → GoodRows σ rows → (d : Desk) → (d.now < 256) × (d.elapsed < 256) × (length d.statuses ≡ 8)
    → (p : State × Row) → Standing rows d (Ok p) → (e : Event) → names σ (event_in_rules e) ≡ true → MovesOn σ p.0 p.1 e
moves_on σ rows g form d b p w e n = (
  job_fits σ g.few_jobs e n,
  (λ h a. fits_in σ rows g form d b (known_on p.0 d w.4) (told (entry_of p.1))
      (ap told w.3 ∙ sym (lookup_is rows (word (state_in d)) w.0 form.ascending (w.1, w.2))) refl e p.0 w.4 n (rw w.4 at h) a),
)
