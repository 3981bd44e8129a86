-- "numbers little-endian", and the check (01, "Table file").
use Rattle.std.specs.Prelude.{ℕ, suc, ◌+◌, ◌*◌, ◌/◌, ◌%◌, ◌<◌, List, [], ◌∷◌, get_or}

-- bytes are below 256
abbrev pub EachByte : List ℕ → Type 0
EachByte s = (i : ℕ) → get_or s i 0 < 256

-- a number in two and in four bytes, the low byte first
abbrev pub le16 : ℕ → List ℕ
le16 x = x % 256 ∷ x / 256 ∷ []

abbrev pub le32 : ℕ → List ℕ
le32 x = x % 256 ∷ x / 256 % 256 ∷ x / 65536 % 256 ∷ x / 16777216 ∷ []

-- the number that stands at a place, in two and in four bytes
abbrev pub u16_at : List ℕ → ℕ → ℕ
u16_at s i = get_or s i 0 + 256 * get_or s (i + 1) 0

abbrev pub u32_at : List ℕ → ℕ → ℕ
u32_at s i = get_or s i 0 + 256 * get_or s (i + 1) 0 + 65536 * get_or s (i + 2) 0 + 16777216 * get_or s (i + 3) 0

-- k times the first, k + 1 times the second, ..
unfoldable pub weighted : ℕ → List ℕ → ℕ
weighted k [] = 0
weighted k (b ∷ s) = k * b + weighted (suc k) s

-- "1 plus the sum of (p + 1) × byte over positions p = 0 to 507", of the bytes before the check
abbrev pub check_of : List ℕ → ℕ
check_of body = 1 + weighted 1 body
