-- `mark` meets its contract: n is 0, or what is left of it is too great, or one byte is set. Assumes nothing.
use mathlib.Core.Path.{refl}
use native.Mathlib.Omega.{arith}
use Rattle.search.proofs.Marks.{mark_none, mark_past, mark_one}
use Rattle.search.proofs.mark.Goals as goal

pub returns-then-n-eq0 : goal.returns-then-n-eq0
returns-then-n-eq0 c =
    let a = c.args in
    mark_none a.limit a.map.now a.map.now a.n refl c.if-n-eq0.true

pub returns-then-m-power : goal.returns-then-m-power
returns-then-m-power c =
    let o = c.odd_part-m in
    mark_one c.args.limit c.args.map.now _ c.args.n o.result refl o.ensures (omega arith) (omega arith) c.requires.1

pub returns-else-m-power : goal.returns-else-m-power
returns-else-m-power c =
    let o = c.odd_part-m in
    let a = c.args in
    mark_past a.limit a.map.now a.map.now a.n o.result refl o.ensures (omega arith)
