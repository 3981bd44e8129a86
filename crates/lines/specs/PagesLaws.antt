-- Printing one thing after another on a page. Assumes nothing.
use Rattle.std.specs.Prelude.{ℕ, refl, List, [], ◌++◌}
use Rattle.std.proofs.Common.{arith, ◌∙◌}
use Rattle.lines.specs.PrintedLaws.{printed_none, printed_then}
use Rattle.lines.specs.Pages.{HasRoom, Adds}
use Rattle.lines.specs.declared.page.Page.{Page}

-- nothing
pub adds_none : (p : Page) → HasRoom p 0 → Adds p [] p
adds_none p h = record { same_slice = refl; as_long = refl; printed = printed_none p.bytes.now p.end (omega (arith, h)) }

-- one thing, and another behind it
pub adds_then : {p q r : Page} {s t : List ℕ} → Adds p s q → Adds q t r → Adds p (s ++ t) r
adds_then a b = record { same_slice = b.same_slice ∙ a.same_slice; as_long = b.as_long ∙ a.as_long; printed = printed_then a.printed b.printed }
