-- The page to open first: what is promised of a reply of make, and so of the file that it leaves, whatever numbers, work slice and
-- output it was lent; of what any file says; and of the engine beside make. The code is proved to meet `Made`, `reading` and `Verdict`;
-- everything here follows from that (`PromisesLaws`).
use Rattle.std.specs.Prelude.{ℕ, ◌≤◌, ◌≡◌, ◌↔◌, List, length, take}
use Rattle.plant.specs.Plant.{Live}
use Rattle.plant.specs.Rule.{Rule, Admissible}
use Rattle.plant.specs.Number.{Number}
use Rattle.sheet.specs.Model.{Good, plant}
use Rattle.places.specs.Places.{most_live, work_words}
use Rattle.state.specs.Lent.{lent}
use Rattle.maker.specs.Making.{SheetLength, Made}
use Rattle.maker.specs.declared.MakeReply.{MakeReply}
use Rattle.engine.specs.Verdict.{SmallLength, Verdict}
use Rattle.engine.specs.declared.EngineReply.{EngineReply}
use Rattle.promises.specs.Demand1.{Demand1, StepStays}
use Rattle.promises.specs.Demand2.{Demand2, ReadExactly}
use Rattle.promises.specs.Demand3.{Nights}
use Rattle.promises.specs.Engine.{Judges, SameVerdict}

-- of one reply of make
pub record Promised (numbers work₀ work out₀ out : List ℕ) (r : MakeReply) : Type 1 where
  -- 1. "Bad input gets the refusal number in the rules, and the buffers then hold what the rules say."
  pub first : Demand1 numbers work₀ work out₀ out r
  -- 2. "The table is the one that timed supervisory control defines .. A table file read back gives the same jobs and rows"
  pub second : r.number ≡ 0 → Demand2 numbers (take r.length out)
  -- 3. "follow the table in any way .. The run is never stuck. Each job is out within its ticks .. No other rule of starting permits a
  -- run that ours forbids"
  pub third : r.number ≡ 0 → Nights (lent numbers) (take r.length out)
  -- "A sheet of good form and size, lent room to work in, is called impossible exactly when there is no such rule."
  pub impossible : SheetLength numbers → Good (lent numbers) → work_words ≤ length work₀ → (n : ℕ) → Number (Live (plant (lent numbers))) n → n ≤ most_live
      → (r.number ≡ 5) ↔ ((R : Rule) → ¬ (Admissible (plant (lent numbers)) R))
  -- "its verdict the maker's, lent room, on every sheet of good form with at most four jobs and 7,874 live states" (02, #102)
  pub engine : (t : EngineReply) → Verdict numbers t → SmallLength numbers → Good (lent numbers) → work_words ≤ length work₀
      → (n : ℕ) → Number (Live (plant (lent numbers))) n → n ≤ most_live → SameVerdict r t

pub record Promises : Type 1 where
  pub make : (numbers work₀ work out₀ out : List ℕ) (r : MakeReply) → Made numbers work₀ work out₀ out r → Promised numbers work₀ work out₀ out r
  -- the same numbers and buffers have one reply, and leave one content; of the other calls the reply is a function of what is lent
  pub one : {numbers work₀ work work' out₀ out out' : List ℕ} {r r' : MakeReply}
      → Made numbers work₀ work out₀ out r → Made numbers work₀ work' out₀ out' r' → (r ≡ r') × (work ≡ work') × (out ≡ out')
  -- 2. "and a file that breaks a rule of form is not read."
  pub reads : ReadExactly
  -- "A refused step leaves it as it stood."
  pub step : StepStays
  -- "It answers only whether the sheet can be scheduled." (02, #102)
  pub engine : (numbers : List ℕ) (t : EngineReply) → Verdict numbers t → SmallLength numbers → Good (lent numbers) → Judges (lent numbers) t
