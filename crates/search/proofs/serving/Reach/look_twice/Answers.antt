-- `look_twice` meets its contract. The loop's invariant: the factors for the shifts 1 .. l are looked at. Assumes nothing.
use mathlib.Core.Path.{ap}
use Prim.Native.Nat.{ℕ, ◌+◌, ◌-◌}
use native.Mathlib.Omega.{arith}
use Rattle.search.proofs.Least.{twice_start, twice_more, power_two}
use Rattle.search.proofs.serving.Reach.look_twice.Goals as goal

pub loop-l-init : goal.loop-l-init
loop-l-init c = let a = c.args in twice_start a.c a.self.map.now a.self.low a.best

pub look_factor-least-requires : goal.look_factor-least-requires
look_factor-least-requires c =
    (rw c.from-d.ensures c.requires, omega (arith, c.power-p.ensures, power_two c.loop-l.l))

pub loop-l-preserved : goal.loop-l-preserved
loop-l-preserved c =
    let a = c.args in
    twice_more a.c a.self.map.now a.self.low c.loop-l.l _ _ (ap (λ (x : ℕ). x - 1) c.power-p.ensures.0) (ap (λ (x : ℕ). x + 1) c.power-p.ensures.0)
    c.loop-l.invariant (rw c.from-d.ensures at c.look_factor-least.ensures) (rw c.from-d.ensures at c.look_factor-least-in-loop-l.ensures)
