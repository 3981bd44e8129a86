-- The stages of a step as the code goes through them. `StageLaws` says that they come to `step_reply`.
use Rattle.std.specs.Prelude.{ℕ, ◌<◌, ◌≡◌, ◌≢◌, true, false, List, length, Result, Ok, Err}
use Rattle.std.proofs.Math.Option.{some}
use Rattle.sheet.specs.Model.{Sheet, word}
use Rattle.sheet.specs.ModelTests.{possible}
use Rattle.sheet.specs.Table.{Entry, at}
use Rattle.state.specs.Clocks.{model}
use Rattle.state.specs.Statuses.{Known}
use Rattle.state.specs.EventByte.{event_of, event_in_rules, kind_of}
use Rattle.state.specs.Refusals.{refusal_number, refusal_detail}
use Rattle.state.specs.declared.event.Event.{Event}
use Rattle.state.specs.declared.refusal.Refusal.{Refusal}
use Rattle.state.specs.declared.refusal.Refusal.TheVariants.{NoRow, NoJob}
use Rattle.state.specs.declared.word.State.{State}
use Rattle.blocks.specs.Rows.{entry_of}
use Rattle.blocks.specs.declared.row.Row.{Row}
use Rattle.table.specs.Replies.{told}
use Rattle.desk.specs.Stepping.{state_in, on, names, allows, stays, moves, in_row}
use Rattle.after.specs.Events.{FitsIn}
use Rattle.desk.specs.Moving.{JobFits}
use Rattle.desk.specs.declared.desk.Desk.{Desk}
use Rattle.desk.specs.declared.step.Stepped.{Stepped}

-- the event of a byte and of a job of the sheet, or "9"
abbrev pub Named : Sheet → ℕ → Result Event Refusal → Type 0
Named σ x (Ok e) = (event_of x ≡ some e) × (names σ (event_in_rules e) ≡ true)
Named σ x (Err r) = (r ≡ NoJob) × (on false (names σ) (kind_of (event_of x)) ≡ false)

-- the state on the desk and its row, or "8"
abbrev pub Standing : List Entry → Desk → Result (State × Row) Refusal → Type 0
Standing rows d (Ok p) = (i : ℕ) × (i < length rows) × ((at rows i).word ≡ word (state_in d)) × (entry_of p.1 ≡ at rows i) × (model p.0 ≡ state_in d)
Standing rows d (Err e) = (e ≡ NoRow) × (Known d.statuses → (i : ℕ) → i < length rows → (at rows i).word ≢ word (state_in d))

-- the job is 1 to 8, and what the row allows keeps both clocks bytes
abbrev pub MovesOn : Sheet → State → Row → Event → Type 0
MovesOn σ s r e = JobFits e × (possible σ (model s) (event_in_rules e) ≡ true → allows r.starts r.tick (event_in_rules e) ≡ true → FitsIn s e)

-- the state after the event, or "10, 11"
abbrev pub moved_reply : Desk → Result State Refusal → Stepped
moved_reply d (Ok q) = moves (model q)
moved_reply d (Err e) = stays (refusal_number e) (refusal_detail e) d

abbrev pub Moved : Sheet → State → Row → Event → Result State Refusal → Type 0
Moved σ s r e m = (d : Desk) → model s ≡ state_in d → moved_reply d m ≡ in_row σ d (told (entry_of r)) (event_in_rules e)
