-- `csd_sum` meets its contract. Assumes nothing.
use mathlib.Core.Path.{◌≡◌, ap, ◌∙◌}
use Prim.Native.Nat.{◌≤◌}
use native.Mathlib.Omega.{arith}
use lib.ListN.{length}
use lib.Seq.{take_all}
use Rattle.meaning.specs.Limits.{most_targets}
use Rattle.meaning.specs.Constants.{wanted}
use Rattle.laws.proofs.Constants.Wanted.{wanted_length}
use Rattle.few.proofs.Lent.{values_of}
use Rattle.listing.proofs.Laws.{sum_more, sum_end, wanted_positive}
use Rattle.listing.proofs.head.csd_sum.Goals as goal
use Rattle.listing.proofs.head.csd_sum.Goals.{After-deref-c-items}

-- no target is left out
its_list : (c : After-deref-c-items) → c.deref-c-items.result.now ≡ wanted c.args.ts.now
its_list c = values_of 0 c.deref-c-items.ensures c.wanted_of-wanted.ensures.value ∙ ap wanted (take_all most_targets c.args.ts.now c.requires)

-- at most 16 constants
few : (c : After-deref-c-items) → length c.deref-c-items.result.now ≤ 16
few c = omega (arith, ap length (its_list c), wanted_length c.args.ts.now, c.requires)

pub loop-c-init : goal.loop-c-init
loop-c-init c = (omega arith, omega arith)

pub cost-sum-requires : goal.cost-sum-requires
cost-sum-requires c =
    let list = its_list (goal.at.cost-sum-requires c).After-deref-c-items in
    rw list (wanted_positive _ _ (omega (arith, ap length list)))

pub overflow_add-sum : goal.overflow_add-sum
overflow_add-sum c = omega (arith, c.cost-sum.ensures.1, few (goal.at.overflow_add-sum c).After-deref-c-items)

pub loop-c-preserved : goal.loop-c-preserved
loop-c-preserved c =
    let list = its_list (goal.at.loop-c-preserved c).After-deref-c-items in (
      omega (arith, c.cost-sum.ensures.1),
      rw (c.cost-sum.ensures.0, list) (sum_more _ _ _ c.loop-c.invariant.1 (omega (arith, ap length list))),
    )

pub returns : goal.returns
returns c =
    sum_end (wanted c.args.ts.now) c.loop-c.c-index _ c.loop-c.invariant.1 (omega (arith, ap length (its_list (goal.at.returns c).After-deref-c-items)))
