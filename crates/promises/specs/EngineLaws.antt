-- The engine's verdict is the definitions' and the maker's. Assumes nothing.
use Rattle.std.specs.Prelude.{ℕ, ◌≤◌, ◌≡◌, ◌⊎◌, ◌↔◌, List, length}
use Rattle.std.proofs.Common.{arith, ap, inl, inr}
use Rattle.plant.specs.Plant.{Live, Safe}
use Rattle.plant.specs.Number.{Number}
use Rattle.plant.specs.Lists.{number_unique}
use Rattle.sheet.specs.Model.{Sheet, Good, initial, plant}
use Rattle.sheet.proofs.Demand3Laws.{demand_3}
use Rattle.state.specs.Lowest.{lowest_bad}
use Rattle.state.specs.LowestLaws.{good_sheet}
use Rattle.places.specs.Places.{most_live, work_words}
use Rattle.state.specs.Lent.{lent}
use Rattle.maker.specs.Making.{SheetLength, Answered, Made}
use Rattle.maker.specs.Making as maker
use Rattle.maker.specs.declared.MakeReply.{MakeReply}
use Rattle.engine.specs.Verdict as engine
use Rattle.engine.specs.declared.EngineReply.{EngineReply}
use Rattle.promises.specs.MadeLaws.{number_of}
use Rattle.promises.specs.Engine.{Judges, SameVerdict}

-- make's number says whether the start is safe
abbrev Says : Sheet → MakeReply → Type 0
Says σ r = (((r.number ≡ 0) ⊎ (r.number ≡ 6)) ↔ Safe (plant σ) initial) × ((r.number ≡ 5) ↔ (¬ (Safe (plant σ) initial)))

both_ways : {A B C : Type 0} → A ↔ C → B ↔ C → A ↔ B
both_ways f g = ((λ a. g.1 (f.0 a)), (λ b. f.1 (g.0 b)))

module _ {numbers : List ℕ} (s : engine.SmallLength numbers) (good : Good (lent numbers)) where
  abbrev σ : Sheet
  σ = lent numbers

  no_bad : lowest_bad σ ≡ 0
  no_bad = (good_sheet (lent numbers) good.some_job good.few_jobs).1 good

  -- What the engine says -------------------------------------------------------------------------------------------------------

  module _ {r : EngineReply} where
    told_number : {t : EngineReply} → r ≡ t → r.number ≡ t.number
    told_number e = ap (λ (x : EngineReply). x.number) e

    told_safe : engine.Verdict numbers r → (r.number ≡ 0) ↔ Safe (plant σ) initial
    told_safe (engine.bad_length b e) = absurd (b s)
    told_safe (engine.bad_job _ b e) = absurd (b no_bad)
    told_safe (engine.impossible _ _ n e) = ((λ z. absurd (omega (arith, told_number e))), (λ y. absurd (n y)))
    told_safe (engine.scheduled _ _ y e) = ((λ z. y), (λ _. told_number e))

    told_unsafe : engine.Verdict numbers r → (r.number ≡ 5) ↔ (¬ (Safe (plant σ) initial))
    told_unsafe (engine.bad_length b e) = absurd (b s)
    told_unsafe (engine.bad_job _ b e) = absurd (b no_bad)
    told_unsafe (engine.impossible _ _ n e) = ((λ z. n), (λ _. told_number e))
    told_unsafe (engine.scheduled _ _ y e) = ((λ z. absurd (omega (arith, told_number e))), (λ n. absurd (n y)))

    pub engine_judges : engine.Verdict numbers r → Judges (lent numbers) r
    engine_judges v =
        let i = (demand_3 (lent numbers) good).impossible in
        let u = told_unsafe v in
        record { scheduled = told_safe v; impossible = u; no_rule = ((λ z. i.0 (u.0 z)), (λ f. u.1 (i.1 f))) }

  -- What make says -------------------------------------------------------------------------------------------------------------

  whole : SheetLength numbers
  whole = record { whole = s.whole; some = s.some; few = omega (arith, s.few) }

  module _ (n : ℕ) (lives : Number (Live (plant (lent numbers))) n) (few : n ≤ most_live) where
    answered_says : {out₀ out : List ℕ} {r : MakeReply} → Answered (lent numbers) out₀ out r → Says (lent numbers) r
    answered_says (maker.too_many k a h e o) = absurd (omega (arith, few, number_unique (Live (plant (lent numbers))) k n a lives))
    answered_says {r = r} (maker.impossible k a h u e o) = ((no, (λ y. absurd (u y))), ((λ z. u), (λ _. number_of e)))
      where
        no : (r.number ≡ 0) ⊎ (r.number ≡ 6) → Safe (plant (lent numbers)) initial
        no (inl z) = absurd (omega (arith, number_of e))
        no (inr z) = absurd (omega (arith, number_of e))
    answered_says (maker.too_long k a h u rows t l e o) = (((λ z. u), (λ _. inr (number_of e))), ((λ z. absurd (omega (arith, number_of e))), (λ v. absurd (v u))))
    answered_says (maker.done k a h u rows t l e o) = (((λ z. u), (λ _. inl (number_of e))), ((λ z. absurd (omega (arith, number_of e))), (λ v. absurd (v u))))

    made_says : {work₀ work out₀ out : List ℕ} {r : MakeReply} → work_words ≤ length work₀ → Made numbers work₀ work out₀ out r → Says (lent numbers) r
    made_says room (maker.bad_length b e _ _) = absurd (b whole)
    made_says room (maker.bad_job _ b e _ _) = absurd (b no_bad)
    made_says room (maker.no_room _ _ l e _ _) = absurd (omega (arith, room))
    made_says room (maker.answered _ _ _ a _) = answered_says a

    -- "Prove its verdict the maker's, lent room, on every sheet of good form with at most four jobs and 7,874 live states."
    pub same_verdict :
        {work₀ work out₀ out : List ℕ} {r : MakeReply} {t : EngineReply} → work_words ≤ length work₀ → Made numbers work₀ work out₀ out r
        → engine.Verdict numbers t → SameVerdict r t
    same_verdict room m v =
        let w = made_says room m in
        record { impossible = both_ways w.1 (told_unsafe v); scheduled = both_ways w.0 (told_safe v) }
