-- Demand 1 of make: "Bad input gets the refusal number in the rules, and the buffers then hold what the rules say."
-- "Every call takes any numbers and bytes at all, ends, and touches nothing outside what it was lent": the contract of a call has no
-- condition, each call is proved to end, and its contract fixes all that it is lent to write to. docs/PROMISES.md has the list.
use Rattle.std.specs.Prelude.{ℕ, ◌≤◌, ◌<◌, ◌≡◌, ◌≢◌, ◌⊎◌, List, [], ◌∷◌, length, drop}
use Rattle.plant.specs.Plant.{Live, Safe}
use Rattle.plant.specs.Number.{Number}
use Rattle.sheet.specs.Model.{Good, initial, plant}
use Rattle.sheet.specs.Table.{Entry, Rows}
use Rattle.places.specs.Places.{most_live, work_words}
use Rattle.state.specs.Lent.{lent}
use Rattle.state.specs.Lowest.{lowest_bad}
use Rattle.maker.specs.Making.{SheetLength, size_of, Cleared}
use Rattle.maker.specs.declared.MakeReply.{MakeReply}
use Rattle.table.specs.Reading.{Reading}
use Rattle.desk.specs.Stepping.{step_reply}
use Rattle.desk.specs.declared.desk.Desk.{Desk}
use Rattle.promises.specs.Numbered.{Refusal, Numbered}

-- "Order: make 1, 2, 3, 4, 5, 6", of these numbers, a work slice and an output
abbrev pub refusals : (numbers work₀ out₀ : List ℕ) → List Refusal
refusals numbers work₀ out₀ =
    let σ = lent numbers in
    -- "sheet length is not 4, 8, .. 32 numbers"
    record { number = 1; when = ¬ (SheetLength numbers) }
    -- "a job is of bad form"
    ∷ record { number = 2; when = ¬ (Good σ) }
    -- "work slice below 15,748 words of 32 bits"
    ∷ record { number = 3; when = length work₀ < work_words }
    -- "more than 7,874 live states"
    ∷ record { number = 4; when = (n : ℕ) × Number (Live (plant σ)) n × (most_live < n) }
    -- "the start state is not safe"
    ∷ record { number = 5; when = ¬ (Safe (plant σ) initial) }
    -- "output shorter than what is to be written"
    ∷ record { number = 6; when = (rows : List Entry) × Rows σ rows × (length out₀ < size_of rows) }
    ∷ []

-- the detail and the result of a reply of make
pub record Details (numbers : List ℕ) (r : MakeReply) : Type 0 where
  -- "lowest such job", "bytes needed"; "0 where none is named"
  pub lowest_job : r.number ≡ 2 → r.detail ≡ lowest_bad (lent numbers)
  pub bytes_needed : r.number ≡ 6 → (rows : List Entry) → Rows (lent numbers) rows → r.detail ≡ size_of rows
  pub no_detail : r.number ≢ 2 → r.number ≢ 6 → r.detail ≡ 0
  -- "the result its length"; a refusal has none
  pub length : r.number ≡ 0 → (rows : List Entry) → Rows (lent numbers) rows → r.length ≡ size_of rows
  pub no_result : r.number ≢ 0 → r.length ≡ 0

-- what it leaves in the work slice and the output
pub record Buffers (work₀ work out₀ out : List ℕ) (r : MakeReply) : Type 0 where
  -- "on a refusal the output is as before"; on 0 its first bytes are the file, "the rest as before"
  pub refused : r.number ≢ 0 → out ≡ out₀
  pub rest : r.number ≡ 0 → drop r.length out ≡ drop r.length out₀
  -- "After 0, 4, 5 and 6 the first 15,748 work words are zero, the rest as before; after 1, 2 and 3 all are as before."
  pub cleared : (r.number ≡ 0) ⊎ (4 ≤ r.number) → Cleared work₀ work
  pub untouched : 1 ≤ r.number → r.number ≤ 3 → work ≡ work₀

-- of a reply of make, with what stood before and stands after it in the work slice and the output
pub record Demand1 (numbers work₀ work out₀ out : List ℕ) (r : MakeReply) : Type 0 where
  -- "Bad input gets the refusal number in the rules"
  pub number : Numbered (refusals numbers work₀ out₀) r.number
  pub details : Details numbers r
  -- "and the buffers then hold what the rules say."
  pub buffers : Buffers work₀ work out₀ out r
  -- so a sheet of good form and size, lent room to work in, with a safe start and an output that is long enough, gets its table
  pub gets : SheetLength numbers → Good (lent numbers) → work_words ≤ length work₀ → (n : ℕ) → Number (Live (plant (lent numbers))) n → n ≤ most_live
      → Safe (plant (lent numbers)) initial → (rows : List Entry) → Rows (lent numbers) rows → size_of rows ≤ length out₀ → r.number ≡ 0

-- "A refused step leaves it as it stood."
abbrev pub StepStays : Type 0
StepStays = (d : Desk) (x : ℕ) (file : Reading) → (step_reply d x file).reply.number ≢ 0 → (step_reply d x file).desk ≡ d
