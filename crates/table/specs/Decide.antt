-- The form of rows and blocks is decided. Assumes nothing.
use Rattle.std.specs.Prelude.{ℕ, zero, suc, ◌+◌, ◌-◌, ◌/◌, ◌%◌, ◌^◌, ◌≤◌, ◌<◌, ◌≡◌, ◌⊎◌, List, length, get_or, take}
use Rattle.std.proofs.Common.{arith, subst, inl, inr}
use Rattle.std.proofs.Math.Decide.{dec_lt, dec_le, ℕ_discrete}
use Rattle.std.proofs.Math.ListN.{get_or-eq_default}
use Rattle.plant.specs.Plant.{tick, start}
use Rattle.plant.specs.Reflect.{is_dec}
use Rattle.sheet.specs.declared.Job.{Job}
use Rattle.sheet.specs.Model.{Sheet, Names, job, State, status, Possible, next, digits, state_of}
use Rattle.sheet.specs.ModelTestsRight.{is_good_job, is_possible, is_late, dec_finished}
use Rattle.sheet.specs.Table.{Entry}
use Rattle.sheet.specs.Form.{Timely, UnderWay, InOrder, Fits, GoodEntry}
use Rattle.blocks.specs.Sizes.{block_bytes, body_bytes, block_slots, slot_bytes, most_jobs, letter_t, letter_b}
use Rattle.blocks.specs.Bytes.{u16_at, u32_at, check_of}
use Rattle.blocks.specs.Fields.{Lettered, Framed, slot_at, job_from, row_from}
use Rattle.form.specs.BlockTest.{Zeros, SlotGood, CountFits, Follows, RowsBlock, JobsBlock}

-- how decisions are put together
by : {P Q : Type 0} → (P → Q) → (Q → P) → Dec P → Dec Q
by f g (yes p) = yes (f p)
by f g (no n) = no (λ q. n (g q))

both : {P Q : Type 0} → Dec P → Dec Q → Dec (P × Q)
both (yes p) (yes q) = yes (p, q)
both (yes p) (no n) = no (λ w. n w.1)
both (no n) d = no (λ w. n w.0)

either : {P Q : Type 0} → Dec P → Dec Q → Dec (P ⊎ Q)
either (yes p) d = yes (inl p)
either (no n) (yes q) = yes (inr q)
either {P} {Q} (no n) (no m) = no neither
  where
    neither : P ⊎ Q → ⊥
    neither (inl p) = n p
    neither (inr q) = m q

only : {P Q : Type 0} → Dec P → Dec Q → Dec (P → Q)
only (yes p) (yes q) = yes (λ _. q)
only (yes p) (no n) = no (λ f. n (f p))
only (no n) d = yes (λ p. absurd (n p))

neg : {P : Type 0} → Dec P → Dec (¬ P)
neg (yes p) = no (λ n. n p)
neg (no n) = yes n

all : (n : ℕ) {P : ℕ → Type 0} → ((i : ℕ) → Dec (P i)) → Dec ((i : ℕ) → i < n → P i)
all zero d = yes (λ i h. absurd (omega arith))
all (suc n) {P} d = go (d n) (all n d)
  where
    last : P n → ((i : ℕ) → i < n → P i) → (i : ℕ) → Dec (i < n) → i < suc n → P i
    last p f i (yes h) l = f i h
    last p f i (no h) l = let e : n ≡ i = omega arith in subst P e p

    go : Dec (P n) → Dec ((i : ℕ) → i < n → P i) → Dec ((i : ℕ) → i < suc n → P i)
    go (yes p) (yes f) = yes (λ i h. last p f i (dec_lt i n) h)
    go (yes p) (no m) = no (λ g. m (λ i h. g i (omega arith)))
    go (no m) e = no (λ g. m (g n (omega arith)))

pub dec_bytes : (s : List ℕ) → Dec ((i : ℕ) → get_or s i 0 < 256)
dec_bytes s = by (λ f i. far f i (dec_lt i (length s))) (λ f i h. f i) (all (length s) (λ i. dec_lt (get_or s i 0) 256))
  where
    far : ((i : ℕ) → i < length s → get_or s i 0 < 256) → (i : ℕ) → Dec (i < length s) → get_or s i 0 < 256
    far f i (yes h) = f i h
    far f i (no h) = rw (get_or-eq_default s 0 {n = i} (omega arith)) (omega arith)

-- of each job
jobs : (σ : Sheet) {P : ℕ → Type 0} → ((i : ℕ) → Dec (P i)) → Dec ((i : ℕ) → Names σ i → P i)
jobs σ {P} d = by (λ f i h. f i (omega arith) h.0) (λ f i h l. f i (l, omega arith)) (all (suc (length σ)) (λ i. only (dec_le 1 i) (d i)))

dec_timely : (j : Job) (q : State) (s : ℕ) → Dec (Timely j q s)
dec_timely j q s =
    by (λ w. record { waits = w.0; came = w.1.0; runs = w.1.1.0; ended = w.1.1.1 }) (λ t. (t.waits, (t.came, (t.runs, t.ended))))
    (both (only (ℕ_discrete s 0) (dec_le q.now j.arrives))
    (both (only (dec_le 1 s) (dec_le j.arrives q.now))
    (both (only (ℕ_discrete s 2) (both (dec_le q.elapsed j.most) (dec_le (j.arrives + q.elapsed) q.now)))
    (only (ℕ_discrete s 3) (dec_le (j.arrives + j.fewest) q.now)))))

module _ (σ : Sheet) (q : State) where
  dec_under_way : Dec (UnderWay σ q)
  dec_under_way =
      by (λ w. record { not_done = w.0; one_runs = λ i k h l a b. w.1.0 i h k l a b; rests = w.1.1.0; timely = w.1.1.1.0; in_time = w.1.1.1.1 })
      (λ u. (u.not_done, ((λ i h k l a b. u.one_runs i k h l a b), (u.rests, (u.timely, u.in_time)))))
      (both (neg (dec_finished σ q))
      (both (jobs σ (λ i. jobs σ (λ k. only (ℕ_discrete (status q i) 2) (only (ℕ_discrete (status q k) 2) (ℕ_discrete i k)))))
      (both (only (jobs σ (λ i. neg (ℕ_discrete (status q i) 2))) (ℕ_discrete q.elapsed 0))
      (both (jobs σ (λ i. dec_timely (job σ i) q (status q i)))
      (neg (is_dec (is_late σ q)))))))

  dec_marks : (b c : ℕ) → Dec (Fits σ q b c)
  dec_marks b c =
      by (λ w. record { ready = λ i h s. w.0 i (omega arith) h.0 s; none = w.1.0; some = w.1.1.0; known = w.1.1.1.0; held = w.1.1.1.1.0; opens = w.1.1.1.1.1 })
      (λ m. ((λ i l h s. m.ready i (h, omega arith) s), (m.none, (m.some, (m.known, (m.held, m.opens))))))
      (both (all 9 (λ i. only (dec_le 1 i) (only (ℕ_discrete (b / 2 ^ (i - 1) % 2) 1) (is_dec (is_possible σ q (start i))))))
      (both (only (ℕ_discrete c 0) (neg possible))
      (both (only (neg possible) (ℕ_discrete c 0))
      (both (dec_le c 2)
      (both (only (ℕ_discrete c 2) (dec_le 1 b))
      (only (ℕ_discrete c 1) (neg (is_dec (is_late σ (next σ q tick))))))))))
    where
      possible : Dec (Possible σ q tick)
      possible = is_dec (is_possible σ q tick)

-- nine jobs and more have no status
beyond : (w i : ℕ) → 9 ≤ i → status (state_of w) i ≡ 0
unfolding digits
beyond w i h = get_or-eq_default (digits 8 w) 0 {n = i - 1} (omega arith)

dec_order : (σ : Sheet) (w : ℕ) → Dec (InOrder σ (state_of w))
dec_order σ w =
    by (λ o. record { past = λ i h. past o.0 i h (dec_lt i 9); state = o.1 }) (λ o. ((λ i h l. o.past i l), o.state))
    (both (all 9 (λ i. only (dec_lt (length σ) i) (ℕ_discrete (status (state_of w) i) 0)))
    (either (by (λ x. (x.0, x.1.0, x.1.1)) (λ x. (x.0, (x.1, x.2)))
    (both (dec_finished σ (state_of w)) (both (ℕ_discrete (state_of w).now 0) (ℕ_discrete (state_of w).elapsed 0)))) (dec_under_way σ (state_of w))))
  where
    past : ((i : ℕ) → i < 9 → length σ < i → status (state_of w) i ≡ 0) → (i : ℕ) → length σ < i → Dec (i < 9) → status (state_of w) i ≡ 0
    past f i h (yes l) = f i l h
    past f i h (no l) = beyond w i (omega arith)

pub dec_row : (σ : Sheet) (r : Entry) → Dec (GoodEntry σ r)
dec_row σ r =
    by (λ w. record { fits = w.0; order = w.1.0; marks = w.1.1 }) (λ g. (g.fits, (g.order, g.marks)))
    (both (both (dec_lt r.word (2 ^ 32)) (dec_lt r.starts 256)) (both (dec_order σ r.word) (dec_marks σ (state_of r.word) r.starts r.tick)))

module _ (block : List ℕ) where
  dec_zeros : (from : ℕ) → Dec (Zeros block from)
  dec_zeros from = by (λ f i h l. f i l h) (λ f i l h. f i h l) (all body_bytes (λ i. only (dec_le from i) (ℕ_discrete (get_or block i 0) 0)))

  dec_letters : Dec (Lettered block)
  dec_letters = by (λ w. record { first = w.0; second = w.1 }) (λ l. (l.first, l.second)) (both (ℕ_discrete (get_or block 0 0) letter_t) (ℕ_discrete (get_or block 1 0) letter_b))

  dec_framed : (n used k total : ℕ) → Dec (Framed slot_bytes n used k total block)
  dec_framed n used k total =
      by (λ w. record {
        size = w.0;
        letters = w.1.0;
        jobs = w.1.1.0;
        slots = w.1.1.1.0;
        number = w.1.1.1.1.0;
        count = w.1.1.1.1.1.0;
        zeros = w.1.1.1.1.1.1.0;
        check = w.1.1.1.1.1.1.1;
      })
      (λ f. (f.size, (f.letters, (f.jobs, (f.slots, (f.number, (f.count, (f.zeros, f.check))))))))
      (both (ℕ_discrete (length block) block_bytes)
      (both dec_letters
      (both (ℕ_discrete (get_or block 2 0) n)
      (both (ℕ_discrete (get_or block 3 0) used)
      (both (ℕ_discrete (u16_at block 4) k)
      (both (ℕ_discrete (u16_at block 6) total)
      (both (dec_zeros (slot_at used))
      (ℕ_discrete (u32_at block body_bytes) (check_of (take body_bytes block))))))))))

  dec_slot : (σ : Sheet) (s : ℕ) → Dec (SlotGood σ block s)
  dec_slot σ s =
      by (λ w. record { zero_two = w.0; form = w.1.0; above = w.1.1 }) (λ g. (g.zero_two, (g.form, g.above)))
      (both (both (ℕ_discrete (get_or block (slot_at s + 6) 0) 0) (ℕ_discrete (get_or block (slot_at s + 7) 0) 0))
      (both (dec_row σ (row_from block (slot_at s))) (only (dec_le 1 s) (dec_lt (u32_at block (slot_at (s - 1))) (u32_at block (slot_at s))))))

  dec_count : (used b total : ℕ) → Dec (CountFits used b total)
  dec_count used b total =
      by (λ w. record { some = w.0; few = w.1.0; full = w.1.1 }) (λ g. (g.some, (g.few, g.full)))
      (both (dec_le 1 used) (both (dec_le used block_slots) (only (dec_lt (suc b) total) (ℕ_discrete used block_slots))))

  dec_follows : (b last word : ℕ) → Dec (Follows b last word)
  dec_follows b last word = by (λ w. record { first = w.0; after = w.1 }) (λ g. (g.first, g.after)) (both (only (ℕ_discrete b 1) (ℕ_discrete word 0)) (only (dec_lt 1 b) (dec_lt last word)))

  pub dec_rows_block : (σ : Sheet) (total b last : ℕ) → Dec (RowsBlock σ total b last block)
  dec_rows_block σ total b last =
      by (λ w. record { count = w.0; frame = w.1.0; slots = w.1.1.0; follows = w.1.1.1 }) (λ g. (g.count, (g.frame, (g.slots, g.follows))))
      (both (dec_count (get_or block 3 0) b total)
      (both (dec_framed (length σ) (get_or block 3 0) b total)
      (both (all (get_or block 3 0) (dec_slot σ))
      (dec_follows b last (u32_at block (slot_at 0))))))

  pub dec_jobs_block : (total : ℕ) → Dec (JobsBlock total block)
  dec_jobs_block total =
      by (λ w. record { some = w.0; few = w.1.0; frame = w.1.1.0; slots = w.1.1.1 }) (λ g. (g.some, (g.few, (g.frame, g.slots))))
      (both (dec_le 1 (get_or block 3 0))
      (both (dec_le (get_or block 3 0) most_jobs)
      (both (dec_framed (get_or block 3 0) (get_or block 3 0) 0 total)
      (all (get_or block 3 0) (λ s. is_dec (is_good_job (job_from block (slot_at s))))))))
