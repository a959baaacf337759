-- `is_negative` meets its contract: what is compared are the two shifted operands. Assumes nothing.
use mathlib.Core.Path.{ap₂, ◌∙◌}
use lib.Dec.{ltb}
use Rattle.products.proofs.RowProductLaws.{negative_less}
use Rattle.products.proofs.row_product.is_negative.Goals as goal

pub returns : goal.returns
returns c =
    let s = c.args in
    ap₂ ltb c.shifted.ensures.0 c.shifted-2.ensures.0
    ∙ negative_less s.u s.v s.x.l1 s.x.l2 s.x.s c.if-x-eq0.false
