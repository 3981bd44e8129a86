-- One text is printed for one input, and the first bytes of a long input decide. Assumes nothing.
use Rattle.std.specs.Prelude.{ℕ, suc, ◌+◌, ◌*◌, ◌≤◌, ◌<◌, ◌≡◌, List, [], ◌∷◌, length, take}
use Rattle.std.proofs.Common.{arith, sym, ap, subst, ◌∙◌, inl, inr, length-append, take_all, length-take-le}
use Rattle.std.proofs.Math.Decide.{dec_lt}
use Rattle.std.proofs.Math.Seq.{paste}
use Rattle.plant.specs.Plant.{Live}
use Rattle.plant.specs.Number.{Number}
use Rattle.plant.specs.Lists.{number_unique}
use Rattle.sheet.specs.Model.{Sheet, Good, plant}
use Rattle.sheet.proofs.RowsLaws.{rows_one}
use Rattle.state.specs.Lowest.{lowest_bad}
use Rattle.state.specs.LowestLaws.{good_sheet}
use Rattle.places.specs.Places.{most_live}
use Rattle.state.specs.Lent.{lent}
use Rattle.lines.specs.Lines.{listing_text}
use Rattle.text.specs.SheetText.{Spells}
use Rattle.text.specs.Fields.{ending, run, Numbers}
use Rattle.text.specs.GroupLaws.{flat, flat_length, flat_run, flat_each}
use Rattle.text.specs.ReadLaws.{spells_one}
use Rattle.lines.specs.PrintedLaws.{printed_length}
use Rattle.printing.specs.Prints.{SheetText, bad_job, too_many, impossible, listed, Prints, TextPrinted}

-- One text ------------------------------------------------------------------------------------------------------------

no_bad : (σ : Sheet) → Good σ → lowest_bad σ ≡ 0
no_bad σ g = (good_sheet σ g.some_job g.few_jobs).1 g

module _ (numbers : List ℕ) where
  many : (n m : ℕ) → Number (Live (plant (lent numbers))) n → Number (Live (plant (lent numbers))) m → most_live < n → m ≤ most_live → ⊥
  many n m a b h k = omega (arith, number_unique (Live (plant (lent numbers))) n m a b)

  sheet_text_one : (s t : List ℕ) → SheetText numbers s → SheetText numbers t → s ≡ t
  sheet_text_one s t (bad_job b e) (bad_job c f) = e ∙ sym f
  sheet_text_one s t (bad_job b e) (too_many g _ _ _ f) = absurd (b (no_bad (lent numbers) g))
  sheet_text_one s t (bad_job b e) (impossible g _ _ _ _ f) = absurd (b (no_bad (lent numbers) g))
  sheet_text_one s t (bad_job b e) (listed g _ _ _ _ _ _ f) = absurd (b (no_bad (lent numbers) g))
  sheet_text_one s t (too_many g n a h e) (bad_job c f) = absurd (c (no_bad (lent numbers) g))
  sheet_text_one s t (too_many g n a h e) (too_many _ _ _ _ f) = e ∙ sym f
  sheet_text_one s t (too_many g n a h e) (impossible _ m b k _ f) = absurd (many n m a b h k)
  sheet_text_one s t (too_many g n a h e) (listed _ m b k _ _ _ f) = absurd (many n m a b h k)
  sheet_text_one s t (impossible g n a h u e) (bad_job c f) = absurd (c (no_bad (lent numbers) g))
  sheet_text_one s t (impossible g n a h u e) (too_many _ m b k f) = absurd (many m n b a k h)
  sheet_text_one s t (impossible g n a h u e) (impossible _ _ _ _ _ f) = e ∙ sym f
  sheet_text_one s t (impossible g n a h u e) (listed _ _ _ _ v _ _ f) = absurd (u v)
  sheet_text_one s t (listed g n a h u rows x e) (bad_job c f) = absurd (c (no_bad (lent numbers) g))
  sheet_text_one s t (listed g n a h u rows x e) (too_many _ m b k f) = absurd (many m n b a k h)
  sheet_text_one s t (listed g n a h u rows x e) (impossible _ _ _ _ v f) = absurd (v u)
  sheet_text_one s t (listed g n a h u rows x e) (listed _ _ _ _ v rows' y f) = e ∙ (ap (listing_text (length (lent numbers))) (rows_one (lent numbers) g rows rows' x y) ∙ sym f)

pub prints_one : (text s t : List ℕ) → Prints text s → Prints text t → s ≡ t
prints_one text s t (inl x) (inl y) = sheet_text_one y.0 s t (subst (λ (n : List ℕ). SheetText n s) (spells_one text x.0 y.0 x.1 y.1) x.2) y.2
prints_one text s t (inl x) (inr y) = absurd (y.0 x.0 x.1)
prints_one text s t (inr x) (inl y) = absurd (x.0 y.0 y.1)
prints_one text s t (inr x) (inr y) = x.1 ∙ sym y.1

-- LAW: one text and the same buffer have one answer, and leave one content
pub text_printed_one : {text out₀ out out' : List ℕ} {r r' : ℕ} → TextPrinted text out₀ r out → TextPrinted text out₀ r' out' → (r ≡ r') × (out ≡ out')
text_printed_one {text} {out₀} a b =
    let e = prints_one text a.0 b.0 a.1 b.1 in
    (a.2.behind ∙ (ap (λ (s : List ℕ). 0 + length s) e ∙ sym b.2.behind), a.2.stands ∙ (ap (λ (s : List ℕ). paste out₀ 0 s (length s)) e ∙ sym b.2.stands))

-- the answer counts bytes at the front of the output
pub text_printed_end : {text out₀ out : List ℕ} {r : ℕ} → TextPrinted text out₀ r out → r ≤ length out
text_printed_end a = omega (arith, a.2.room, a.2.behind, printed_length a.2)

-- The first bytes decide ----------------------------------------------------------------------------------------------

-- "1 to 8 lines, four numbers of one to three digits, one space between, each line ended by byte 10": at most 128 bytes
abbrev pub most_spelled : ℕ
most_spelled = 128

run_length : (k : ℕ) (l : List (List ℕ)) → Numbers l → length (run k l) ≤ 4 * length l
unfolding run
run_length k [] e = omega arith
run_length k (s ∷ l) e = omega (arith, length-append s (ending k ∷ run (suc k) l), e.0.few, run_length (suc k) l e.1)

pub spelled_few : (text numbers : List ℕ) → Spells text numbers → length text ≤ most_spelled
spelled_few text numbers p =
    omega (arith, ap length (p.spelled ∙ flat_run 0 (omega arith) p.lines), run_length 0 (flat p.lines) (flat_each p.lines p.each), flat_length p.lines, p.few)

-- LAW: what is printed for the first bytes of an input is what is printed for all of it, if they are more than a sheet has
pub front_decides : (m : ℕ) → most_spelled < m → (text printed : List ℕ) → Prints (take m text) printed → Prints text printed
front_decides m h text printed p = go (dec_lt m (length text)) p
  where
    go : Dec (m < length text) → Prints (take m text) printed → Prints text printed
    go (no n) q = subst (λ (t : List ℕ). Prints t printed) (take_all m text (omega arith)) q
    go (yes l) (inl x) = absurd (omega (arith, spelled_few (take m text) x.0 x.1, length-take-le m text (omega arith)))
    go (yes l) (inr x) = inr ((λ numbers s. omega (arith, spelled_few text numbers s)), x.1)
