-- `report` meets its contract: the line for either order. Assumes nothing.
use Rattle.meaning.specs.Forms.{line_of}
use Rattle.listing.proofs.head.report.Goals as goal

pub plain_line-requires : goal.plain_line-requires
plain_line-requires c = unfold line_of in rw c.if-by_width.true at c.requires

pub returns-then-by_width : goal.returns-then-by_width
returns-then-by_width c = unfold line_of in rw c.if-by_width.true c.plain_line.ensures

pub plain_line-requires-2 : goal.plain_line-requires-2
plain_line-requires-2 c = unfold line_of in rw c.if-by_width.false at c.requires

pub returns : goal.returns
returns c = unfold line_of in rw c.if-by_width.false c.plain_line-2.ensures
