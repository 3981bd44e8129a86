-- Demand 3 holds of every sheet of good form. Assumes nothing.
use Rattle.std.specs.Prelude.{◌≤◌, length}
use Rattle.std.proofs.Common.{◌∙◌}
use Rattle.plant.specs.Rule.{Rule, Admissible, Table}
use Rattle.plant.specs.Asked.{Finite}
use Rattle.plant.proofs.TableLaws as table_laws
use Rattle.plant.proofs.JobLaws as job_laws
use Rattle.plant.proofs.Once as clocks
use Rattle.sheet.specs.Model.{Sheet, Good, plant}
use Rattle.sheet.proofs.Obeys.{tests, moves, shop, once}
use Rattle.sheet.specs.Demand3.{Followed, Demand3}

-- what runs do asks of a rule only that it is admissible
pub followed : (σ : Sheet) → length σ ≤ 8 → (R : Rule) → Admissible (plant σ) R → Followed σ R
unfolding shop once
followed σ few R adm = let π = plant σ in let s = shop σ few in let o = once σ few in record {
  arrives_at = λ i h r. clocks.arrives_at π s o R i h r ∙ (table_laws.last_possible π r).2;
  runs_for = job_laws.runs_for π s o.once_only R;
  ends_within = job_laws.ends_within_due π s o.once_only R adm;
  is_out = job_laws.out_when_due π s R adm;
  ends_by = clocks.ends_by_latest π s o R adm;
  all_out = clocks.all_out π s o R adm;
  finishes = clocks.run_ends π s o R adm (tests σ);
  once = λ h r d i k. job_laws.once π s o.once_only R r i k (d i k);
}

pub lives : (σ : Sheet) → length σ ≤ 8 → Finite (plant σ)
lives σ few = clocks.lives (plant σ) (shop σ few) (once σ few) (tests σ)

-- DEMAND 3
pub demand_3 : (σ : Sheet) → Good σ → Demand3 σ
demand_3 σ good = record {
  runs = λ s. followed σ good.few_jobs (Table (plant σ)) (table_laws.table_admissible (plant σ) s);
  never_stuck = table_laws.table_never_stuck (plant σ) (moves σ good);
  most = λ R a h r. table_laws.table_permits (plant σ) (tests σ) (lives σ good.few_jobs) R a r;
  ours = table_laws.table_admissible (plant σ);
  rows = λ s. table_laws.rows_of_runs (plant σ) s;
  impossible = table_laws.impossible_iff_no_rule (plant σ) (tests σ) (lives σ good.few_jobs);
}
