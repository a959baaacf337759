-- `row_widths` meets its contract: each place of the front holds the width of its row. Assumes nothing.
use Rattle.std.proofs.Common.{arith, length-take}
use Rattle.widths.proofs.Measured.{widths_over}
use Rattle.widths.proofs.row_widths.Goals as goal

pub returns : goal.returns
returns c =
    let a = c.args in
    let long = length-take a.graph.count a.out.now in
    widths_over a.input _ _ _ _ (omega arith) (λ k h. c.loop-i.invariant k (omega arith))
