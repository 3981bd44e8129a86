-- Each answer of the row's test, from what the code has learnt by then. Assumes nothing.
use Rattle.std.specs.Prelude.{ℕ, ◌-◌, ◌%◌, ◌^◌, ◌≤◌, ◌<◌, ◌≡◌, ◌⊎◌, Bool, true, false, ◌||◌, length, eqb}
use Rattle.std.proofs.Common.{inl, inr, ⊎_elim}
use Rattle.plant.specs.Reflect.{Is, is_map, is_eq}
use Rattle.sheet.specs.Model.{Sheet, State, Finished, state_of}
use Rattle.sheet.specs.Form.{GoodEntry}
use Rattle.state.specs.Tell.{tell_no, told_yes, told_no}
use Rattle.form.specs.declared.row.Passed.{Passed}
use Rattle.form.specs.RowTest.{JobsFit, Runs, TellsOf, Ends, MarksFit}
use Rattle.form.specs.TestLaws.{is_or}
use Rattle.form.specs.RowRight.{ends_right, done_is, is_done, done_good, good_done, fit_right, rest_right, row_is}

module _ (σ : Sheet) (w b c : ℕ) (few : length σ ≤ 8) where
  abbrev q : State
  q = state_of w

  abbrev Good : Type 0
  Good = GoodEntry σ (record { word = w; starts = b; tick = c })

  pub past_bad : ¬ (Ends (length σ) q b) → Is false Good
  past_bad f = tell_no (λ g. f (ends_right σ w b c few g))

  module _ (e : Ends (length σ) q b) where
    pub done_row : eqb (w % 2 ^ 16) (4 ^ length σ - 1) ≡ true → {r : Bool} → Is r ((w ≤ 65535) × ((b ≡ 0) × (c ≡ 1))) → Is r Good
    done_row t r =
        let f : Finished σ q = done_is σ w b c few (told_yes (is_eq (w % 2 ^ 16) (4 ^ length σ - 1)) t) in
        is_map (λ x. done_good σ w b c few f e x.0 x.1.0 x.1.1) (good_done σ w b c few f) r

    module _ (t : eqb (w % 2 ^ 16) (4 ^ length σ - 1) ≡ false) where
      unfinished : ¬ (Finished σ q)
      unfinished f = told_no (is_eq (w % 2 ^ 16) (4 ^ length σ - 1)) t (is_done σ w b c few e f)

      pub jobs_bad : ¬ (JobsFit σ q b c (length σ)) → Is false Good
      jobs_bad f = tell_no (λ g. f (fit_right σ w b c few unfinished g))

      module _ (p : Passed) (told : JobsFit σ q b c (length σ) × TellsOf σ q (length σ) p) where
        -- one runs or elapsed is 0
        is_rest : Is (p.running || eqb q.elapsed 0) (Runs q (length σ) ⊎ (q.elapsed ≡ 0))
        is_rest = is_or told.1.running (is_eq q.elapsed 0)

        pub rest_bad : p.running || eqb q.elapsed 0 ≡ false → Is false Good
        rest_bad z = tell_no (λ g. told_no is_rest z (inr (rest_right σ w b c few unfinished g (λ r. told_no is_rest z (inl r)))))

        pub rest_row : p.running || eqb q.elapsed 0 ≡ true → w < 2 ^ 32 → b < 256 → (r : Bool)
            → Is r (MarksFit (p.running ≡ true) (p.pending ≡ true) (p.spent ≡ true) b c) → Is r Good
        rest_row z fits byte r marks =
            row_is σ w b c few unfinished fits byte e told.0 (λ f. ⊎_elim (λ x. absurd (f x)) (λ x. x) (told_yes is_rest z))
            told.1.running told.1.pending told.1.spent marks
