-- `look_pair` meets its contract: an operation has one of its two operands unshifted. Assumes nothing.
use mathlib.Core.Path.{sym}
use Rattle.search.proofs.Sides.{one_op_is}
use Rattle.search.proofs.Least.{lowers_then}
use Rattle.search.proofs.serving.Reach.look_pair.Goals as goal

pub returns : goal.returns
returns c =
    let a = c.args in
    lowers_then c.look_side-least.ensures c.look_side.ensures (λ s. sym (one_op_is a.self.limit a.u a.v s))
