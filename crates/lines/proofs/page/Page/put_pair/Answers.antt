-- `put_pair`: each piece stands behind the one before. Assumes nothing.
use Rattle.lines.specs.PagesLaws.{adds_then}
use Rattle.lines.proofs.page.Page.put_pair.Goals as goal

pub returns : goal.returns
returns c =
    adds_then c.put.ensures
    (adds_then c.put_number.ensures
    (adds_then c.put-2.ensures
    (adds_then c.put_number-2.ensures c.put-3.ensures)))
