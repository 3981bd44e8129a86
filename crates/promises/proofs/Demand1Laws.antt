-- Demand 1 holds of every reply of make. Assumes nothing.
use Rattle.std.specs.Prelude.{ℕ, ◌≤◌, ◌<◌, ◌≡◌, refl, ◌≢◌, ◌⊎◌, ◌↔◌, Bool, true, false, cond, ◌&&◌, List, length, drop, eqb}
use Rattle.std.proofs.Common.{arith, sym, ap, ◌∙◌, inl, inr, drop_at}
use Rattle.std.proofs.Math.Option.{Option, none, some}
use Rattle.plant.specs.Plant.{Event, Live}
use Rattle.plant.specs.Number.{Number}
use Rattle.plant.specs.Lists.{number_unique}
use Rattle.sheet.specs.Model.{Sheet, Good, next, word, plant}
use Rattle.sheet.specs.ModelTests.{possible}
use Rattle.sheet.specs.Table.{Entry, Rows}
use Rattle.sheet.proofs.RowsLaws.{rows_one}
use Rattle.blocks.specs.File.{bytes_of}
use Rattle.blocks.specs.FileLaws.{length_bytes}
use Rattle.places.specs.Places.{most_live}
use Rattle.state.specs.Lent.{lent}
use Rattle.state.specs.LowestLaws.{good_sheet}
use Rattle.maker.specs.Making.{refused, size_of, Cleared, Answered, too_many, impossible, too_long, done, Made, bad_length, bad_job, no_room, answered}
use Rattle.maker.specs.declared.MakeReply.{MakeReply}
use Rattle.state.specs.EventByte.{event_of, kind_of}
use Rattle.table.specs.Reading.{good, bad}
use Rattle.table.specs.Replies.{lookup}
use Rattle.table.specs.declared.row.RowReply.{RowReply}
use Rattle.desk.specs.Stepping.{state_in, known, on, names, allows, stays, moves, in_row, asked}
use Rattle.promises.specs.Numbered.{Numbered}
use Rattle.promises.specs.Demand1.{refusals, Details, Buffers, Demand1, StepStays}
use Rattle.promises.specs.MadeLaws.{number_of}

-- The number ----------------------------------------------------------------------------------------------------------------

-- the first refusal that holds is given, and one that does not hold is passed over
give : {N R F : Type 0} → N → R → (N ↔ R) × (¬ R → F)
give e r = (((λ z. r), (λ y. e)), (λ n. absurd (n r)))

pass : {N R F : Type 0} → ¬ N → ¬ R → F → (N ↔ R) × (¬ R → F)
pass n m f = (((λ z. absurd (n z)), (λ r. absurd (m r))), (λ x. f))

-- a reply with one number has no other
other : {r t : MakeReply} {k : ℕ} → r ≡ t → t.number ≢ k → r.number ≢ k
other e n z = n (sym (number_of e) ∙ z)

module _ (σ : Sheet) where
  pub few : (n : ℕ) → Number (Live (plant σ)) n → n ≤ most_live → (m : ℕ) × Number (Live (plant σ)) m × (most_live < m) → ⊥
  few n a h w = omega (arith, h, w.2, number_unique (Live (plant σ)) n w.0 a w.1)

  fits : (out₀ : List ℕ) → Good σ → (rows : List Entry) → Rows σ rows → size_of rows ≤ length out₀
      → (others : List Entry) × Rows σ others × (length out₀ < size_of others) → ⊥
  fits out₀ g rows t l w = omega (arith, l, w.2, ap size_of (rows_one σ g rows w.0 t w.1))

-- 4, 5, 6 and 0
answered_number : (numbers work₀ out₀ : List ℕ) {out : List ℕ} {r : MakeReply} → Good (lent numbers) → Answered (lent numbers) out₀ out r
    → Numbered (drop 3 (refusals numbers work₀ out₀)) r.number
answered_number numbers work₀ out₀ g (too_many n a h e o) = give (number_of e) (n, a, h)
answered_number numbers work₀ out₀ g (impossible n a h u e o) = pass (other e (λ z. omega arith)) (few (lent numbers) n a h) (give (number_of e) u)
answered_number numbers work₀ out₀ g (too_long n a h u rows t l e o) =
    pass (other e (λ z. omega arith)) (few (lent numbers) n a h) (pass (other e (λ z. omega arith)) (λ x. x u) (give (number_of e) (rows, t, l)))
answered_number numbers work₀ out₀ g (done n a h u rows t l e o) =
    pass (other e (λ z. omega arith)) (few (lent numbers) n a h)
    (pass (other e (λ z. omega arith)) (λ x. x u)
    (pass (other e (λ z. omega arith)) (fits (lent numbers) out₀ g rows t l) (number_of e)))

not_early : {σ : Sheet} {out₀ out : List ℕ} {r : MakeReply} (k : ℕ) → 1 ≤ k → k ≤ 3 → Answered σ out₀ out r → r.number ≢ k
not_early k a b (too_many _ _ _ e _) z = omega (arith, number_of e)
not_early k a b (impossible _ _ _ _ e _) z = omega (arith, number_of e)
not_early k a b (too_long _ _ _ _ _ _ _ e _) z = omega (arith, number_of e)
not_early k a b (done _ _ _ _ _ _ _ e _) z = omega (arith, number_of e)

pub made_number : {numbers work₀ work out₀ out : List ℕ} {r : MakeReply} → Made numbers work₀ work out₀ out r → Numbered (refusals numbers work₀ out₀) r.number
made_number (bad_length s e w o) = give (number_of e) s
made_number {numbers} (bad_job s b e w o) =
    pass (other e (λ z. omega arith)) (λ n. n s) (give (number_of e) (λ g. b ((good_sheet (lent numbers) g.some_job g.few_jobs).1 g)))
made_number (no_room s g h e w o) = pass (other e (λ z. omega arith)) (λ n. n s) (pass (other e (λ z. omega arith)) (λ n. n g) (give (number_of e) h))
made_number {numbers} {work₀} {out₀ = out₀} (answered s g h a c) =
    pass (not_early 1 (omega arith) (omega arith) a) (λ n. n s)
    (pass (not_early 2 (omega arith) (omega arith) a) (λ n. n g)
    (pass (not_early 3 (omega arith) (omega arith) a) (λ l. omega (arith, h, l)) (answered_number numbers work₀ out₀ g a)))

-- Buffers --------------------------------------------------------------------------------------------------------------------

length_of : {r t : MakeReply} → r ≡ t → r.length ≡ t.length
length_of e = ap (λ (x : MakeReply). x.length) e

detail_of : {r t : MakeReply} → r ≡ t → r.detail ≡ t.detail
detail_of e = ap (λ (x : MakeReply). x.detail) e

module _ {work₀ work out₀ out : List ℕ} {r : MakeReply} where
  -- by a refusal that touches nothing
  early : (n d : ℕ) → 1 ≤ n → n ≤ 3 → r ≡ refused n d → work ≡ work₀ → out ≡ out₀ → Buffers work₀ work out₀ out r
  early n d a b e w o = record {
    refused = λ z. o;
    rest = λ z. absurd (omega (arith, number_of e));
    cleared = go;
    untouched = λ x y. w;
  }
    where
      go : (r.number ≡ 0) ⊎ (4 ≤ r.number) → Cleared work₀ work
      go (inl z) = absurd (omega (arith, number_of e))
      go (inr z) = absurd (omega (arith, number_of e))

  -- by one after which the work is cleared
  later : (n d : ℕ) → 4 ≤ n → r ≡ refused n d → Cleared work₀ work → out ≡ out₀ → Buffers work₀ work out₀ out r
  later n d a e c o = record {
    refused = λ z. o;
    rest = λ z. absurd (omega (arith, number_of e));
    cleared = λ x. c;
    untouched = λ x y. absurd (omega (arith, number_of e));
  }

  answered_buffers : {σ : Sheet} → Good σ → Answered σ out₀ out r → Cleared work₀ work → Buffers work₀ work out₀ out r
  answered_buffers g (too_many n a h e o) c = later 4 0 (omega arith) e c o
  answered_buffers g (impossible n a h u e o) c = later 5 0 (omega arith) e c o
  answered_buffers g (too_long n a h u rows t l e o) c = later 6 _ (omega arith) e c o
  answered_buffers {σ} g (done n a h u rows t l e o) c = record {
    refused = λ z. absurd (z (number_of e));
    rest = λ z. rw (length_of e) (ap (drop (size_of rows)) o ∙ drop_at (bytes_of σ rows) (drop (size_of rows) out₀) (size_of rows) (length_bytes σ rows (omega (arith, g.few_jobs))));
    cleared = λ x. c;
    untouched = λ x y. absurd (omega (arith, number_of e));
  }

made_buffers : {numbers work₀ work out₀ out : List ℕ} {r : MakeReply} → Made numbers work₀ work out₀ out r → Buffers work₀ work out₀ out r
made_buffers (bad_length s e w o) = early 1 0 (omega arith) (omega arith) e w o
made_buffers (bad_job s b e w o) = early 2 _ (omega arith) (omega arith) e w o
made_buffers (no_room s g h e w o) = early 3 0 (omega arith) (omega arith) e w o
made_buffers (answered s g h a c) = answered_buffers g a c

-- Details -------------------------------------------------------------------------------------------------------------------

module _ {numbers : List ℕ} {r : MakeReply} where
  -- by a refusal that names no detail
  plain : (n : ℕ) → n ≢ 0 → n ≢ 2 → n ≢ 6 → r ≡ refused n 0 → Details numbers r
  plain n a b c e = record {
    lowest_job = λ z. absurd (other e b z);
    bytes_needed = λ z. absurd (other e c z);
    no_detail = λ _ _. detail_of e;
    length = λ z. absurd (other e a z);
    no_result = λ _. length_of e;
  }

  answered_details : {out₀ out : List ℕ} → Good (lent numbers) → Answered (lent numbers) out₀ out r → Details numbers r
  answered_details g (too_many n a h e o) = plain 4 (λ z. omega arith) (λ z. omega arith) (λ z. omega arith) e
  answered_details g (impossible n a h u e o) = plain 5 (λ z. omega arith) (λ z. omega arith) (λ z. omega arith) e
  answered_details g (too_long n a h u rows t l e o) = record {
    lowest_job = λ z. absurd (other e (λ x. omega arith) z);
    bytes_needed = λ _ others s. detail_of e ∙ ap size_of (rows_one (lent numbers) g rows others t s);
    no_detail = λ _ x. absurd (x (number_of e));
    length = λ z. absurd (other e (λ x. omega arith) z);
    no_result = λ _. length_of e;
  }
  answered_details g (done n a h u rows t l e o) = record {
    lowest_job = λ z. absurd (other e (λ x. omega arith) z);
    bytes_needed = λ z. absurd (other e (λ x. omega arith) z);
    no_detail = λ _ _. detail_of e;
    length = λ _ others s. length_of e ∙ ap size_of (rows_one (lent numbers) g rows others t s);
    no_result = λ z. absurd (z (number_of e));
  }

  made_details : {work₀ work out₀ out : List ℕ} → Made numbers work₀ work out₀ out r → Details numbers r
  made_details (bad_length s e w o) = plain 1 (λ z. omega arith) (λ z. omega arith) (λ z. omega arith) e
  made_details (bad_job s b e w o) = record {
    lowest_job = λ _. detail_of e;
    bytes_needed = λ z. absurd (other e (λ x. omega arith) z);
    no_detail = λ x. absurd (x (number_of e));
    length = λ z. absurd (other e (λ x. omega arith) z);
    no_result = λ _. length_of e;
  }
  made_details (no_room s g h e w o) = plain 3 (λ z. omega arith) (λ z. omega arith) (λ z. omega arith) e
  made_details (answered s g h a c) = answered_details g a

-- DEMAND 1
pub demand_1 : {numbers work₀ work out₀ out : List ℕ} {r : MakeReply} → Made numbers work₀ work out₀ out r → Demand1 numbers work₀ work out₀ out r
demand_1 {numbers} {out₀ = out₀} m = record {
  number = made_number m;
  details = made_details m;
  buffers = made_buffers m;
  gets = λ s g h n a f u rows t l.
      ((((((made_number m).1 (λ x. x s)).1 (λ x. x g)).1 (λ x. omega (arith, h, x))).1 (few (lent numbers) n a f)).1 (λ x. x u)).1 (fits (lent numbers) out₀ g rows t l);
}

-- Step ----------------------------------------------------------------------------------------------------------------------

pub step_stays : StepStays
step_stays d x (bad b) n = refl
step_stays d x (good σ rows) n = event (kind_of (event_of x)) n
  where
    row : (e : Event) (p a : Bool) → (cond p (cond a (moves (next σ (state_in d) e)) (stays 11 0 d)) (stays 10 0 d)).reply.number ≢ 0
        → (cond p (cond a (moves (next σ (state_in d) e)) (stays 11 0 d)) (stays 10 0 d)).desk ≡ d
    row e true true n = absurd (n refl)
    row e true false n = refl
    row e false a n = refl

    ask : (e : Event) (t : RowReply) (m k : Bool) → (cond m (cond k (in_row σ d t e) (stays 8 0 d)) (stays 9 0 d)).reply.number ≢ 0
        → (cond m (cond k (in_row σ d t e) (stays 8 0 d)) (stays 9 0 d)).desk ≡ d
    ask e t true true n = row e (possible σ (state_in d) e) (allows t.starts t.tick e) n
    ask e t true false n = refl
    ask e t false k n = refl

    event : (o : Option Event) → (on (stays 9 0 d) (asked σ rows d) o).reply.number ≢ 0 → (on (stays 9 0 d) (asked σ rows d) o).desk ≡ d
    event none n = refl
    event (some e) n = let t = lookup (word (state_in d)) rows in ask e t (names σ e) (known d.statuses && eqb t.number 0) n
