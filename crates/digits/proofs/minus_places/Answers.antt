-- `digits::minus_places` meets its contract. The loop's invariant: the word so far, and the word of what is left `power` times as high, make that of n. Assumes nothing.
use Rattle.std.proofs.Common.{arith}
use Rattle.digits.proofs.FormWords.{add_step}
use Rattle.digits.proofs.minus_places.Goals as goal

pub loop-rest-preserved : goal.loop-rest-preserved
loop-rest-preserved c = rw (c.above-rest.ensures, c.from.ensures, c.sign.ensures) (add_step _ _ _ _ c.loop-rest.invariant (omega arith))
