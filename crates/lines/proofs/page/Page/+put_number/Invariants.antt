-- The measure is the number: what is printed before the last digit is its tenth.
use Rattle.lines.proofs.page.Page.+put_number.Given as goal

abbrev pub decreases-put_number : goal.decreases-put_number
decreases-put_number l = l.n
