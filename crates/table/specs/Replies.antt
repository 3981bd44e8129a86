-- What row, listing and leeway reply to what a file says (01, "Calls, numbers and order"). Result fields are 0 on a refusal.
use Rattle.std.specs.Prelude.{ℕ, zero, suc, ◌-◌, ◌/◌, ◌%◌, ◌≡◌, Bool, false, cond, ◌&&◌, ◌||◌, List, [], ◌∷◌, length, get_or, replicate, eqb, leb, ℤ, pos, ◌+ℤ◌, ◌-ℤ◌, Result, Ok, Err}
use Rattle.sheet.specs.declared.Job.{Job}
use Rattle.sheet.specs.Model.{Sheet, job, status, state_of, no_job}
use Rattle.sheet.specs.ModelTests.{named}
use Rattle.sheet.specs.Table.{Entry, at}
use Rattle.blocks.specs.Tab.{tab}
use Rattle.state.specs.declared.refusal.Refusal.{Refusal}
use Rattle.state.specs.Refusals.{refusal_number, refusal_detail}
use Rattle.blocks.specs.declared.row.Row.{Row}
use Rattle.blocks.specs.Rows.{entry_of}
use Rattle.table.specs.Reading.{Reading, good, bad, Says}
use Rattle.table.specs.declared.row.RowReply.{RowReply}
use Rattle.table.specs.declared.listing.ListingReply.{ListingReply}
use Rattle.table.specs.declared.leeway.LeewayReply.{LeewayReply}

-- `r` is `f` of what the file says
abbrev pub Answers : {R : Type 0} → List ℕ → (Reading → R) → R → Type 0
Answers file f r = (x : Reading) × Says file x × (r ≡ f x)

-- Row: "7, 8" ---------------------------------------------------------------------------------------------------------

-- a refusal: "Result fields are 0 on a refusal"
abbrev pub refused : (number detail : ℕ) → RowReply
refused n d = record { number = n; detail = d; starts = 0; tick = 0 }

-- a row's "starts and tick code"
abbrev pub told : Entry → RowReply
told e = record { number = 0; detail = 0; starts = e.starts; tick = e.tick }

-- "Row returns starts and tick code for a word", or 8 where "the state .. is no row of the file"
unfoldable pub lookup : ℕ → List Entry → RowReply
lookup w [] = refused 8 0
lookup w (e ∷ l) = cond (eqb e.word w) (told e) (lookup w l)

-- of any file: 7 and the "lowest bad block", or what its rows say
abbrev pub row_reply : (word : ℕ) → Reading → RowReply
row_reply w (bad b) = refused 7 b
row_reply w (good σ rows) = lookup w rows

-- a row, or a refusal, as a reply
abbrev pub row_reply_of : Result Row Refusal → RowReply
row_reply_of (Ok r) = told (entry_of r)
row_reply_of (Err e) = refused (refusal_number e) (refusal_detail e)

-- the reply is that
abbrev pub IsRowReplyOf : Result Row Refusal → RowReply → Type 0
IsRowReplyOf answer reply = reply ≡ row_reply_of answer

-- Listing: "7, 8" -----------------------------------------------------------------------------------------------------

-- "arrival tick A, fewest ticks B, most ticks W, due ticks D"
abbrev pub number_of : Job → ℕ → ℕ
number_of j zero = j.arrives
number_of j (suc zero) = j.fewest
number_of j (suc (suc zero)) = j.most
number_of j (suc (suc (suc m))) = j.due

-- eight jobs of four numbers, job after job, 0 past the last
abbrev pub numbers_of : Sheet → List ℕ
numbers_of σ = tab 32 (λ i. number_of (get_or σ (i / 4) no_job) (i % 4))

-- a refusal, with all else 0
abbrev pub unlisted : (number detail : ℕ) → ListingReply
unlisted n d = record { number = n; detail = d; jobs = 0; rows = 0; numbers = replicate 32 0; word = 0; starts = 0; tick = 0 }

-- "all jobs, the count of rows and that row"
abbrev pub listed : Sheet → List Entry → Entry → ListingReply
listed σ rows e = record {
  number = 0;
  detail = 0;
  jobs = length σ;
  rows = length rows;
  numbers = numbers_of σ;
  word = e.word;
  starts = e.starts;
  tick = e.tick;
}

-- "Listing takes a row number from 1 and returns all jobs, the count of rows and that row", or 8 where it "is no row of the file"
abbrev pub listing_reply : (row_number : ℕ) → Reading → ListingReply
listing_reply i (bad b) = unlisted 7 b
listing_reply i (good σ rows) = cond (leb 1 i && leb i (length rows)) (listed σ rows (at rows (i - 1))) (unlisted 8 0)

-- a listing, or a refusal, as a reply
abbrev pub listing_reply_of : Result ListingReply Refusal → ListingReply
listing_reply_of (Ok r) = r
listing_reply_of (Err e) = unlisted (refusal_number e) (refusal_detail e)

-- the reply is that
abbrev pub IsListingReplyOf : Result ListingReply Refusal → ListingReply → Type 0
IsListingReplyOf answer reply = reply ≡ listing_reply_of answer

-- Leeway: "7, 9, 8, 12" -----------------------------------------------------------------------------------------------

-- "A + D − W − now"
abbrev pub ticks_left : (a d w now : ℕ) → ℤ
ticks_left a d w now = pos a +ℤ pos d -ℤ pos w -ℤ pos now

-- is the word that of a row
unfoldable pub is_row : ℕ → List Entry → Bool
is_row w [] = false
is_row w (e ∷ l) = eqb e.word w || is_row w l

-- a refusal, with all else 0
abbrev pub no_leeway : (number detail : ℕ) → LeewayReply
no_leeway n d = record { number = n; detail = d; leeway = pos 0 }

-- 9 where the "asked job number" is "not 1 to n", 8 where "the state .. is no row of the file", 12 where it is "asked of a job running or done"
abbrev pub leeway_reply : (word job_number : ℕ) → Reading → LeewayReply
leeway_reply w k (bad b) = no_leeway 7 b
leeway_reply w k (good σ rows) =
    let q = state_of w in
    let j = job σ k in
    cond (named σ k)
    (cond (is_row w rows) (cond (leb 2 (status q k)) (no_leeway 12 0) (record { number = 0; detail = 0; leeway = ticks_left j.arrives j.due j.most q.now })) (no_leeway 8 0))
    (no_leeway 9 0)

-- the ticks, or a refusal, as a reply
abbrev pub leeway_reply_of : Result ℤ Refusal → LeewayReply
leeway_reply_of (Ok t) = record { number = 0; detail = 0; leeway = t }
leeway_reply_of (Err e) = no_leeway (refusal_number e) (refusal_detail e)

-- the reply is that
abbrev pub IsLeewayReplyOf : Result ℤ Refusal → LeewayReply → Type 0
IsLeewayReplyOf answer reply = reply ≡ leeway_reply_of answer
