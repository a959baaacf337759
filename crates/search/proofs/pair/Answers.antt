-- `pair` meets its contract: an operation has one of its two operands unshifted. Assumes nothing.
use mathlib.Core.Path.{sym}
use Rattle.search.proofs.Sides.{one_op_is}
use Rattle.search.proofs.Marks.{adds_then}
use Rattle.search.proofs.pair.Goals as goal

pub returns : goal.returns
returns c =
    let a = c.args in
    adds_then c.side.ensures c.side-2.ensures (λ k. sym (one_op_is a.limit a.u a.v k))
