-- `main`: what is printed stands in the output.
use Rattle.std.proofs.Common.{sym, length-take-le}
use Rattle.printing.specs.OneText.{text_printed_end}
use Rattle.print_table.proofs.main.Goals as goal

pub slice_bounds-write_all-end : goal.slice_bounds-write_all-end
slice_bounds-write_all-end c = let p = c.print-printed in sym (length-take-le p.result p.new.out (text_printed_end p.ensures))
