-- `look_each` meets its contract. The loop's invariant: the results with the first values are looked at. Assumes nothing.
use native.Mathlib.Omega.{arith}
use Rattle.search.proofs.Least.{with_start, with_more}
use Rattle.search.proofs.serving.Reach.look_each.Goals as goal

pub loop-u-init : goal.loop-u-init
loop-u-init c = let a = c.args in with_start a.self.limit a.c a.ready.now a.self.map.now a.self.low a.best

pub loop-u-preserved : goal.loop-u-preserved
loop-u-preserved c =
    let a = c.args in
    with_more a.self.limit a.c a.ready.now a.self.map.now a.self.low c.loop-u.u-index (omega arith) c.loop-u.invariant c.look_pair-least.ensures
