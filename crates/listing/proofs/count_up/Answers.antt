-- `count_up` meets its contract. Assumes nothing.
use mathlib.Core.Path.{◌≡◌, sym, ap, ◌∙◌}
use Prim.Native.Nat.{ℕ}
use native.Mathlib.Omega.{arith}
use Rattle.meaning.specs.Basics.{up_from, over}
use Rattle.laws.proofs.Refusals.Stages.{over_none}
use Rattle.listing.proofs.Laws.{counted}
use Rattle.listing.proofs.count_up.Goals as goal

pub loop-i-init : goal.loop-i-init
loop-i-init c = sym (over_none _)

pub loop-i-preserved : goal.loop-i-preserved
loop-i-preserved c = let h = c.requires in counted _ _ c.loop-i.i (omega arith) c.loop-i.invariant

pub returns : goal.returns
returns c =
    let e : c.loop-i.i ≡ c.args.n = omega arith in
    c.loop-i.invariant ∙ ap (λ (k : ℕ). over (up_from 1 k) c.args.order.now) e
