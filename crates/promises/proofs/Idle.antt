-- The idle versions of 01, "How far the contracts go", each shut out by a theorem: no program that meets the contracts is one. Assumes nothing.
use Rattle.std.specs.Prelude.{ℕ, zero, suc, ◌≤◌, ◌<◌, ◌≡◌, refl, ◌≢◌, ◌↔◌, List, [], ◌∷◌, length, get_or, take}
use Rattle.std.proofs.Common.{arith, sym, ap, subst, ◌∙◌}
use mathlib.Core.List.Memᴰ
use Rattle.plant.specs.Plant.{Plant, Live, Row, Safe, at_start, after}
use Rattle.plant.specs.Number.{Number}
use Rattle.plant.specs.Lists.{number_unique}
use Rattle.plant.specs.Rule.{reached}
use Rattle.sheet.specs.Model.{Good, initial, plant}
use Rattle.sheet.specs.Table.{Entry, Rows}
use Rattle.sheet.proofs.RowsLaws.{rows_one}
use Rattle.sheet.specs.Starred.{stars}
use Rattle.sheet.proofs.StarredLaws.{starred}
use Rattle.sheet.specs.Arrays.{arrays}
use Rattle.blocks.specs.Sizes.{letter_t}
use Rattle.table.specs.Reading.{Reading, good, bad}
use Rattle.table.specs.ReadingLaws.{at_block, jobs_framed}
use Rattle.table.specs.Read.{reading}
use Rattle.table.specs.ReadLaws.{reading_says}
use Rattle.places.specs.Places.{most_live, work_words}
use Rattle.state.specs.Lent.{lent}
use Rattle.maker.specs.Making.{SheetLength, Answered, too_many, impossible, too_long, done, Made, bad_length, bad_job, no_room, answered}
use Rattle.maker.specs.declared.MakeReply.{MakeReply}
use Rattle.desk.specs.Stepping.{desk_of, step_reply}
use Rattle.desk.specs.declared.desk.Desk.{Desk}
use Rattle.promises.specs.Night.{Night, taken, Takes, events}
use Rattle.promises.specs.MadeLaws.{number_of, is_done, done_read}
use Rattle.promises.proofs.Demand1Laws.{made_number}
use Rattle.promises.proofs.Demand3Laws.{demand_3_of_calls}
use Rattle.promises.specs.Starred.{star}

-- S1 as it is lent
abbrev pub s1 : List ℕ
s1 = 0 ∷ 1 ∷ 1 ∷ 1 ∷ []

-- "always refusing 5 (demand 3: a rule exists for S1)" ---------------------------------------------------------------------

-- where a row is, the start is safe
start_safe : (π : Plant) {q : π.State} → Row π q → Safe π π.initial
start_safe π (at_start s) = s
start_safe π (after e v p s) = start_safe π v

s1_safe : Safe (plant (lent s1)) initial
unfolding stars arrays
s1_safe = start_safe (plant (star 0).sheet) ((starred (star 0) (Memᴰ.head refl)).outcome.each _ (Memᴰ.head refl)).1

pub not_always_five : {work₀ work out₀ out : List ℕ} {r : MakeReply} → Made s1 work₀ work out₀ out r → r.number ≢ 5
not_always_five (bad_length _ e _ _) z = omega (arith, number_of e)
not_always_five (bad_job _ _ e _ _) z = omega (arith, number_of e)
not_always_five (no_room _ _ _ e _ _) z = omega (arith, number_of e)
not_always_five {out₀ = out₀} {out} {r} (answered _ _ _ a _) z = go a
  where
    go : Answered (lent s1) out₀ out r → ⊥
    go (too_many _ _ _ e _) = omega (arith, number_of e)
    go (impossible _ _ _ u e _) = u s1_safe
    go (too_long _ _ _ _ _ _ _ e _) = omega (arith, number_of e)
    go (done _ _ _ _ _ _ _ e _) = omega (arith, number_of e)

-- "always S1's table (demand 2, rows)": whatever jobs block 0 has, the rows are the sheet's own ---------------------------------

abbrev pub rows_in : Reading → List Entry
rows_in (good σ rows) = rows
rows_in (bad b) = []

pub own_rows :
    {numbers work₀ work out₀ out : List ℕ} {r : MakeReply} → Made numbers work₀ work out₀ out r → r.number ≡ 0
    → Rows (lent numbers) (rows_in (reading (take r.length out)))
own_rows {numbers} m z = let d = is_done m z in subst (λ (x : Reading). Rows (lent numbers) (rows_in x)) (sym (done_read d)) d.right

-- S2 as it is lent
abbrev pub s2 : List ℕ
s2 = 0 ∷ 2 ∷ 4 ∷ 7 ∷ 1 ∷ 1 ∷ 2 ∷ 4 ∷ []

-- its table has not the rows of S1, whose jobs may stand in block 0 or not
pub not_one_table : {work₀ work out₀ out : List ℕ} {r : MakeReply} → Made s2 work₀ work out₀ out r → r.number ≡ 0 → rows_in (reading (take r.length out)) ≢ (star 0).rows
unfolding stars arrays
not_one_table m z e =
    let claim = starred (star 1) (Memᴰ.tail (Memᴰ.head refl)) in
    absurd (omega (arith, ap length (sym e ∙ rows_one (lent s2) claim.good_form _ _ (own_rows m z) claim.outcome)))

-- "returning 0 with the output untouched (demand 2, file)": it begins with the letter T afterwards, whatever stood there ----

front : (m : ℕ) (l : List ℕ) → get_or (take m l) 0 0 ≢ 0 → get_or (take m l) 0 0 ≡ get_or l 0 0
front zero l n = absurd (n refl)
front (suc m) [] n = refl
front (suc m) (x ∷ l) n = refl

pub not_untouched : {numbers work₀ work out₀ out : List ℕ} {r : MakeReply} → Made numbers work₀ work out₀ out r → r.number ≡ 0 → get_or out 0 0 ≡ letter_t
not_untouched {numbers} {out = out} {r} m z =
    let file = take r.length out in
    let d = is_done m z in
    let s = reading_says file (lent numbers) d.rows (done_read d) in
    let t : get_or file 0 0 ≡ letter_t = sym (at_block file 0 0 (omega arith)) ∙ (jobs_framed s.0 s.1).letters.first in
    sym (front r.length out (λ e. omega (arith, t, e))) ∙ t

-- "a made-up live count behind refusal 4 (demand 2: the count is that of the defined set)" ---------------------------------

pub not_made_up : {numbers work₀ work out₀ out : List ℕ} {r : MakeReply} → Made numbers work₀ work out₀ out r
    → SheetLength numbers → Good (lent numbers) → work_words ≤ length work₀ → (n : ℕ) → Number (Live (plant (lent numbers))) n → (r.number ≡ 4) ↔ (most_live < n)
not_made_up {numbers} m s g room n lives =
    let counted = ((((made_number m).1 (λ x. x s)).1 (λ x. x g)).1 (λ x. omega (arith, room, x))).0 in
    ((λ z. let w = counted.0 z in omega (arith, w.2, number_unique (Live (plant (lent numbers))) n w.0 lives w.1)), (λ h. counted.1 (n, lives, h)))

-- "a step that performs the first event and afterwards only replies 0 (demand 3, ..: the desk must follow each event)" ------

pub not_idle_step : {numbers work₀ work out₀ out : List ℕ} {r : MakeReply} → Made numbers work₀ work out₀ out r → r.number ≡ 0
    → (h : List ℕ) (d : Desk) → Night (take r.length out) h d → (x : ℕ) → Takes (take r.length out) d x
    → (step_reply d x (reading (take r.length out))).desk ≡ desk_of (reached (plant (lent numbers)) (events (x ∷ h)))
not_idle_step m z h d n x t = ((demand_3_of_calls m z).follows (x ∷ h) _ (taken x n t)).1
