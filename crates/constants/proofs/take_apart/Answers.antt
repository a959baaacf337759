-- `take_apart` meets its contract: the machine's count of trailing zeros gives the shift. Assumes nothing.
use native.Mathlib.Omega.{arith}
use Rattle.constants.proofs.Laws.{taken_apart}
use Rattle.constants.proofs.take_apart.Goals as goal

pub returns : goal.returns
returns c = taken_apart c.args.t _ c.magnitude-m.result c.ranges.t c.magnitude-m.ensures (omega arith) (λ z. omega arith) (cc)
