-- The engine beside make (02, #102): what its verdict says, and that it is the maker's.
use Rattle.std.specs.Prelude.{◌≡◌, ◌⊎◌, ◌↔◌}
use Rattle.plant.specs.Plant.{Safe}
use Rattle.plant.specs.Rule.{Rule, Admissible}
use Rattle.sheet.specs.Model.{Sheet, initial, plant}
use Rattle.maker.specs.declared.MakeReply.{MakeReply}
use Rattle.engine.specs.declared.EngineReply.{EngineReply}

-- "It answers only whether the sheet can be scheduled": of a sheet of good form, whatever its live states
pub record Judges (σ : Sheet) (r : EngineReply) : Type 1 where
  pub scheduled : (r.number ≡ 0) ↔ Safe (plant σ) initial
  pub impossible : (r.number ≡ 5) ↔ (¬ (Safe (plant σ) initial))
  pub no_rule : (r.number ≡ 5) ↔ ((R : Rule) → ¬ (Admissible (plant σ) R))

-- "its verdict the maker's": both call the sheet impossible, or neither; 6 is make's where the table is there but not the room for its file
pub record SameVerdict (made : MakeReply) (told : EngineReply) : Type 0 where
  pub impossible : (made.number ≡ 5) ↔ (told.number ≡ 5)
  pub scheduled : ((made.number ≡ 0) ⊎ (made.number ≡ 6)) ↔ (told.number ≡ 0)
