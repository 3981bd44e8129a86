-- What a file says is its reading, and a reply that answers the file is the reply to its reading. Assumes nothing.
use Rattle.std.specs.Prelude.{ℕ, ◌≡◌, refl, List}
use Rattle.std.proofs.Common.{ap, subst, ◌∙◌}
use Rattle.sheet.specs.Model.{Sheet}
use Rattle.sheet.specs.Table.{Entry}
use Rattle.blocks.specs.Bytes.{EachByte}
use Rattle.table.specs.Reading.{Reading, good, bad, Says}
use Rattle.table.specs.ReadingLaws.{says_one}
use Rattle.table.specs.Decide.{dec_bytes}
use Rattle.table.specs.SomeReading.{says_some}
use Rattle.table.specs.Read.{reading}
use Rattle.table.specs.Replies.{Answers}

pub says_reading : (file : List ℕ) → EachByte file → Says file (reading file)
unfolding reading
says_reading file small = go (dec_bytes file)
  where
    go : (d : Dec (EachByte file)) → Says file (elim d [ yes s ↦ (says_some file s).0 | no n ↦ bad 0 ])
    go (yes s) = (says_some file s).1
    go (no n) = absurd (n small)

-- a reply that answers a file is the reply to its reading
pub answer_is : {R : Type 0} (file : List ℕ) → EachByte file → (f : Reading → R) (r : R) → Answers file f r → r ≡ f (reading file)
answer_is file small f r a = a.2 ∙ ap f (says_one file a.0 (reading file) a.1 (says_reading file small))

-- only a list of bytes says jobs and rows
pub reading_says : (file : List ℕ) (σ : Sheet) (rows : List Entry) → reading file ≡ good σ rows → Says file (good σ rows)
unfolding reading
reading_says file σ rows e = go (dec_bytes file) e
  where
    Bad : Reading → Type 0
    Bad (bad b) = b ≡ b
    Bad (good σ rows) = ⊥

    go : (d : Dec (EachByte file)) → elim d [ yes s ↦ (says_some file s).0 | no n ↦ bad 0 ] ≡ good σ rows → Says file (good σ rows)
    go (yes s) e = subst (Says file) e (says_some file s).1
    go (no n) e = absurd (subst Bad e refl)
