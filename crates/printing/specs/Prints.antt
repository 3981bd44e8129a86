-- What the printing program prints for the bytes that it reads (01, "The printing program"; its refusals are make's, in make's order).
use Rattle.std.specs.Prelude.{ℕ, suc, ◌*◌, ◌≤◌, ◌<◌, ◌≡◌, ◌≢◌, ◌⊎◌, List, length}
use Rattle.plant.specs.Plant.{Live, Safe}
use Rattle.plant.specs.Number.{Number}
use Rattle.sheet.specs.Model.{Good, initial, plant}
use Rattle.sheet.specs.Table.{Entry, Rows}
use Rattle.state.specs.Lowest.{lowest_bad}
use Rattle.blocks.specs.Sizes.{most_rows}
use Rattle.places.specs.Places.{most_live}
use Rattle.state.specs.Lent.{lent}
use Rattle.lines.specs.Lines.{line_bytes, listing_text, refusal_text}
use Rattle.text.specs.SheetText.{Spells}
use Rattle.lines.specs.Printed.{Printed}
use Rattle.lines.specs.Pages.{Adds}
use Rattle.lines.specs.declared.page.Page.{Page}

-- what is printed for a sheet's numbers: the listing of its table, or refusal 2, 4 or 5
pub data SheetText (numbers printed : List ℕ) : Type 0 where
  bad_job : lowest_bad (lent numbers) ≢ 0 → printed ≡ refusal_text 2 (lowest_bad (lent numbers)) → SheetText numbers printed
  too_many : Good (lent numbers) → (n : ℕ) → Number (Live (plant (lent numbers))) n → most_live < n → printed ≡ refusal_text 4 0 → SheetText numbers printed
  impossible : Good (lent numbers) → (n : ℕ) → Number (Live (plant (lent numbers))) n → n ≤ most_live → ¬ (Safe (plant (lent numbers)) initial)
      → printed ≡ refusal_text 5 0 → SheetText numbers printed
  listed : Good (lent numbers) → (n : ℕ) → Number (Live (plant (lent numbers))) n → n ≤ most_live → Safe (plant (lent numbers)) initial
      → (rows : List Entry) → Rows (lent numbers) rows → printed ≡ listing_text (length (lent numbers)) rows → SheetText numbers printed

-- what is printed for a text: that of the numbers that it spells. "Anything else is refusal 1."
abbrev pub Prints : (text printed : List ℕ) → Type 0
Prints text printed =
    ((numbers : List ℕ) × Spells text numbers × SheetText numbers printed)
    ⊎ (((numbers : List ℕ) → ¬ (Spells text numbers)) × (printed ≡ refusal_text 1 0))

-- the room for it: a header, and a line for each row of the longest table
abbrev pub most_printed : ℕ
most_printed = line_bytes * suc most_rows

-- it stands behind what a page held
abbrev pub SheetPrintsOn : (numbers : List ℕ) (before after : Page) → Type 0
SheetPrintsOn numbers before after = (printed : List ℕ) × SheetText numbers printed × Adds before printed after

-- the same of what is printed for a text
abbrev pub PrintsOn : (text : List ℕ) (before after : Page) → Type 0
PrintsOn text before after = (printed : List ℕ) × Prints text printed × Adds before printed after

-- it stands at the front of the output, and the rest is as before
abbrev pub TextPrinted : (text out₀ : List ℕ) (r : ℕ) (out : List ℕ) → Type 0
TextPrinted text out₀ r out = (printed : List ℕ) × Prints text printed × Printed out₀ 0 printed r out
