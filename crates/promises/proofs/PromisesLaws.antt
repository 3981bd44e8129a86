-- The promises are kept. Assumes nothing.
use Rattle.std.specs.Prelude.{ℕ, ◌≤◌, ◌≡◌, ◌↔◌, List, length}
use Rattle.std.proofs.Common.{arith}
use Rattle.plant.specs.Plant.{Live}
use Rattle.plant.specs.Rule.{Rule, Admissible}
use Rattle.plant.specs.Number.{Number}
use Rattle.sheet.specs.Model.{Good, plant}
use Rattle.sheet.proofs.Demand3Laws.{demand_3}
use Rattle.places.specs.Places.{most_live, work_words}
use Rattle.state.specs.Lent.{lent}
use Rattle.maker.specs.Making.{SheetLength, Made}
use Rattle.maker.specs.OneAnswer.{made_one}
use Rattle.maker.specs.declared.MakeReply.{MakeReply}
use Rattle.promises.specs.Promises.{Promised, Promises}
use Rattle.promises.proofs.Demand1Laws.{made_number, few, demand_1, step_stays}
use Rattle.promises.specs.Demand2Laws.{demand_2, read_exactly}
use Rattle.promises.proofs.Demand3Laws.{demand_3_of_calls}
use Rattle.promises.specs.EngineLaws.{engine_judges, same_verdict}

-- "A sheet of good form and size, lent room to work in, is called impossible exactly when there is no such rule."
called_impossible :
    {numbers work₀ work out₀ out : List ℕ} {r : MakeReply} → Made numbers work₀ work out₀ out r
    → SheetLength numbers → Good (lent numbers) → work_words ≤ length work₀ → (n : ℕ) → Number (Live (plant (lent numbers))) n → n ≤ most_live
    → (r.number ≡ 5) ↔ ((R : Rule) → ¬ (Admissible (plant (lent numbers)) R))
called_impossible {numbers} m s good room n lives f =
    let unsafe = (((((made_number m).1 (λ x. x s)).1 (λ x. x good)).1 (λ x. omega (arith, room, x))).1 (few (lent numbers) n lives f)).0 in
    let no_rule = (demand_3 (lent numbers) good).impossible in
    ((λ z. no_rule.0 (unsafe.0 z)), (λ g. unsafe.1 (no_rule.1 g)))

pub promised : {numbers work₀ work out₀ out : List ℕ} {r : MakeReply} → Made numbers work₀ work out₀ out r → Promised numbers work₀ work out₀ out r
promised m = record {
  first = demand_1 m;
  second = demand_2 m;
  third = demand_3_of_calls m;
  impossible = called_impossible m;
  engine = λ t v s good room n lives f. same_verdict s good n lives f room m v;
}

-- THE PROMISES
pub promises : Promises
promises = record {
  make = λ numbers work₀ work out₀ out r m. promised m;
  one = made_one;
  reads = read_exactly;
  step = step_stays;
  engine = λ numbers t v s good. engine_judges s good v;
}
