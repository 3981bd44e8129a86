-- What a page holds more after something is printed on it.
use Rattle.std.specs.Prelude.{ℕ, ◌+◌, ◌≤◌, ◌≡◌, List, length}
use Rattle.lines.specs.Printed.{Printed}
use Rattle.lines.specs.declared.page.Page.{Page}

-- so many bytes more have room on it
abbrev pub HasRoom : Page → ℕ → Type 0
HasRoom p n = p.end + n ≤ length p.bytes.now

-- these bytes stand behind what was printed, on the same slice, and the rest of it is as before
pub record Adds (before : Page) (bytes : List ℕ) (after : Page) : Type 0 where
  pub same_slice : after.bytes.ghost_name ≡ before.bytes.ghost_name
  pub as_long : length after.bytes.now ≡ length before.bytes.now
  pub printed : Printed before.bytes.now before.end bytes after.end after.bytes.now
