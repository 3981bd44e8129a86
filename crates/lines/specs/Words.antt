-- Words as they stand in a text, a byte for each letter (01, "Where to use each form": "the listing's fixed words likewise").
use Rattle.std.specs.Prelude.{ℕ, List, [], ◌∷◌}
use Prim.Native.Char.{code}
use Prim.Native.String.{String}
use Prim.Native.String as string

abbrev pub bytes : String → List ℕ
bytes string.[] = []
bytes (string.◌∷◌ c s) = code c ∷ bytes s
