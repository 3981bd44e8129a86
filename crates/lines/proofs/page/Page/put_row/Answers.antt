-- `put_row`: the state's fields, then the marks. Assumes nothing.
use native.Mathlib.Omega.{arith}
use Rattle.blocks.specs.Rows.{entry_of}
use Rattle.lines.specs.LineLaws.{row_parts, state_length}
use Rattle.lines.specs.PagesLaws.{adds_then}
use borrow.Author.Rules.{rules}
use Rattle.lines.proofs.page.Page.put_row.Goals as goal

pub put_marks-requires : goal.put_marks-requires
put_marks-requires c = (search rules, omega (arith, state_length c.args.n c.args.row.word c.requires.0 (search rules)))

pub returns : goal.returns
returns c = rw (row_parts c.args.n (entry_of c.args.row)) (adds_then c.put_state.ensures c.put_marks.ensures)
