-- What the blocks of a file say that are read for a word (02, #104), and how the whole file is read.
use Rattle.std.specs.Prelude.{ℕ, suc, ◌-◌, ◌^◌, ◌≤◌, ◌<◌, ◌≡◌, ◌⊎◌, List, length}
use Rattle.sheet.specs.Model.{Sheet}
use Rattle.sheet.specs.Table.{Entry, at}
use Rattle.table.specs.Reading.{total, Sized, Reads, GoodTo, Reading, good, bad}

abbrev pub last_word : List Entry → ℕ
last_word rows = (at rows (length rows - 1)).word

-- "Read block 0 and then state blocks in order, and stop at the first that is bad or whose last word is not below the asked one":
-- block `a` and those before it are good, and the reading does not stop at `a`
abbrev pub GoesPast : List ℕ → ℕ → ℕ → Type 0
GoesPast file w a = (σ : Sheet) × (rows : List Entry) × Reads file a σ rows × (1 ≤ a → last_word rows < w)

-- what the blocks read say, 0 to `k`: their jobs and rows, where `k` is the last of the file or ends the reading; or that the last one
-- read is bad. A bad length "is 7 with detail 0", as for every call.
abbrev pub ReadFor : List ℕ → ℕ → Reading → Type 0
ReadFor file w (good σ rows) =
    (k : ℕ) × Sized file × ((a : ℕ) → a < k → GoesPast file w a) × Reads file k σ rows × ((suc k ≡ total file) ⊎ ((1 ≤ k) × (w ≤ last_word rows)))
ReadFor file w (bad b) =
    ((¬ (Sized file)) × (b ≡ 0))
    ⊎ (Sized file × (b < total file) × ((a : ℕ) → a < b → GoesPast file w a) × (¬ (GoodTo file b)))

-- `r` is `f` of what the blocks say that are read for `w`
abbrev pub AnswersFor : {R : Type 0} → List ℕ → ℕ → (Reading → R) → R → Type 0
AnswersFor file w f r = (x : Reading) × ReadFor file w x × (r ≡ f x)

-- a word past all others: for it the whole file is read
abbrev pub past_all : ℕ
past_all = 2 ^ 32
