-- `values` meets its contract: each place of the front holds the value of its row. Assumes nothing.
use Rattle.std.proofs.Common.{arith, length-take}
use Rattle.rows.proofs.Places.{values_over}
use Rattle.rows.proofs.values.Goals as goal

pub returns : goal.returns
returns c = let long = length-take c.args.n c.args.out.now in values_over _ _ _ _ (omega arith) (λ k h. c.loop-i.invariant k (omega arith))
