-- What step replies to what a file says, and the desk after it (01, "Calls, numbers and order").
use Rattle.std.specs.Prelude.{ℕ, ◌-◌, ◌/◌, ◌%◌, ◌^◌, Bool, true, cond, not, ◌&&◌, List, [], ◌∷◌, eqb, leb, Result, Ok, Err}
use Rattle.std.proofs.Math.Option.{Option, none, some}
use Rattle.plant.specs.Plant.{Event, tick, arrival, start, ending}
use Rattle.sheet.specs.Model.{Sheet, State, next, word}
use Rattle.sheet.specs.ModelTests.{named, possible}
use Rattle.sheet.specs.Table.{Entry}
use Rattle.state.specs.EventByte.{event_of, kind_of}
use Rattle.state.specs.Refusals.{refusal_number, refusal_detail}
use Rattle.state.specs.declared.refusal.Refusal.{Refusal}
use Rattle.table.specs.Reading.{Reading, good, bad}
use Rattle.table.specs.Replies.{lookup}
use Rattle.table.specs.declared.row.RowReply.{RowReply}
use Rattle.desk.specs.declared.desk.Desk.{Desk}
use Rattle.desk.specs.declared.step.Stepped.{Stepped}

-- "a byte each for now, elapsed and the statuses": the state on a desk, the desk with a state on it
abbrev pub state_in : Desk → State
state_in d = record { now = d.now; elapsed = d.elapsed; statuses = d.statuses }

abbrev pub desk_of : State → Desk
desk_of q = record { now = q.now; elapsed = q.elapsed; statuses = q.statuses }

-- not "a desk with a status above 3"
unfoldable pub known : List ℕ → Bool
known [] = true
known (s ∷ l) = leb s 3 && known l

-- what holds of the event of a byte, and what of a byte "of no kind"
abbrev pub on : {A : Type 0} → A → (Event → A) → Option Event → A
on a f none = a
on a f (some e) = f e

-- "its job" is "1 to n"; the tick has none
abbrev pub names : Sheet → Event → Bool
names σ tick = true
names σ (arrival i) = named σ i
names σ (start i) = named σ i
names σ (ending i) = named σ i

-- "allowed by the row": a start whose bit is set, the tick where its code is not 2; "Arrivals and endings can't be stopped"
abbrev pub allows : (starts code : ℕ) → Event → Bool
allows b c tick = not (eqb c 2)
allows b c (arrival i) = true
allows b c (start i) = eqb (b / 2 ^ (i - 1) % 2) 1
allows b c (ending i) = true

-- "A refused step leaves it as it stood."
abbrev pub stays : (number detail : ℕ) → Desk → Stepped
stays n t d = record { reply = record { number = n; detail = t }; desk = d }

-- "brought up to date by each step, its only result"
abbrev pub moves : State → Stepped
moves q = record { reply = record { number = 0; detail = 0 }; desk = desk_of q }

-- "10, 11" in a row
abbrev pub in_row : Sheet → Desk → RowReply → Event → Stepped
in_row σ d r e =
    cond (possible σ (state_in d) e)
    (cond (allows r.starts r.tick e) (moves (next σ (state_in d) e)) (stays 11 0 d))
    (stays 10 0 d)

-- "9, 8": "A desk with a status above 3 is no row (8)", of another the word is looked up
abbrev pub asked : Sheet → List Entry → Desk → Event → Stepped
asked σ rows d e =
    let r = lookup (word (state_in d)) rows in
    cond (names σ e)
    (cond (known d.statuses && eqb r.number 0) (in_row σ d r e) (stays 8 0 d))
    (stays 9 0 d)

-- step: "7, 9, 8, 10, 11"
abbrev pub step_reply : Desk → (byte : ℕ) → Reading → Stepped
step_reply d x (bad b) = stays 7 b d
step_reply d x (good σ rows) = on (stays 9 0 d) (asked σ rows d) (kind_of (event_of x))

-- the desk after the event, or a refusal, as a reply
abbrev pub step_reply_of : Desk → Result Desk Refusal → Stepped
step_reply_of d (Ok e) = record { reply = record { number = 0; detail = 0 }; desk = e }
step_reply_of d (Err e) = stays (refusal_number e) (refusal_detail e) d
