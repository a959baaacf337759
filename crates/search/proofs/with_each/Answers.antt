-- `with_each` meets its contract. The loop's invariant: the results with the first values are marked, and nothing else is new. Assumes nothing.
use native.Mathlib.Omega.{arith}
use Rattle.search.proofs.Marks.{with_start, with_more}
use Rattle.search.proofs.with_each.Goals as goal

pub loop-u-init : goal.loop-u-init
loop-u-init c = let a = c.args in with_start a.limit a.v a.ready.now a.map.now

pub loop-u-preserved : goal.loop-u-preserved
loop-u-preserved c =
    let a = c.args in
    with_more a.limit a.v a.ready.now c.loop-u.u-index (omega arith) c.loop-u.invariant c.pair.ensures
