-- The blocks read for a word past all others are the whole file. Assumes nothing.
use Rattle.std.specs.Prelude.{ℕ, ◌-◌, ◌≡◌, List, length}
use Rattle.std.proofs.Common.{arith, subst, inl, inr}
use Rattle.blocks.specs.Bytes.{EachByte}
use Rattle.table.specs.Reading.{total, Reads, Reading, good, bad, Says}
use Rattle.table.specs.Read.{reading}
use Rattle.table.specs.ReadLaws.{answer_is}
use Rattle.table.specs.ReadFor.{ReadFor, AnswersFor, past_all}

pub read_whole : (file : List ℕ) (x : Reading) → ReadFor file past_all x → Says file x
read_whole file (good σ rows) (k, sized, past, r, inl e) = let d : k ≡ total file - 1 = omega arith in (sized, subst (λ (m : ℕ). Reads file m σ rows) d r)
read_whole file (good σ rows) (k, sized, past, r, inr s) = absurd (omega (arith, r.some, (r.form.each (length rows - 1) (omega (arith, r.some))).fits.0, s.1))
read_whole file (bad b) (inl v) = inl v
read_whole file (bad b) (inr v) = inr (v.0, v.1, (λ a h. let g = v.2 a h in (g.0, g.1, g.2)), v.3)

-- a reply from the whole file is the reply to its reading
pub whole_answer : {R : Type 0} (file : List ℕ) → EachByte file → (f : Reading → R) (r : R) → AnswersFor file past_all f r → r ≡ f (reading file)
whole_answer file small f r a = answer_is file small f r (a.0, read_whole file a.0 a.1, a.2)
