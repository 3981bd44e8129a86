-- A row as the code holds it, a word and a mark; and a list by its places.
use Rattle.std.specs.Prelude.{ℕ, zero, suc, ◌/◌, ◌%◌, List, [], ◌∷◌}
use Rattle.sheet.specs.Table.{Entry}

-- "A row holds the byte of starts and the tick code" (01, "Safe states"): a mark is starts + 256 × tick code
abbrev pub row_of : (word mark : ℕ) → Entry
row_of word mark = record { word = word; starts = mark % 256; tick = mark / 256 % 256 }

-- the list f 0, .., f (n − 1)
unfoldable pub tab : {A : Type 0} → ℕ → (ℕ → A) → List A
tab zero f = []
tab (suc n) f = f 0 ∷ tab n (λ i. f (suc i))
