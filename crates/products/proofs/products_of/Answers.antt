-- `products_of` meets its contract. The loop's invariant: the products of the rows passed are made. Assumes nothing.
use mathlib.Core.Path.{◌≡◌, ap, ◌∙◌}
use Prim.Native.Nat.{◌^◌, ◌≤◌}
use native.Mathlib.Omega.{arith}
use borrow.Author.Rules.{rules}
use lib.IntN.{nat_abs}
use lib.ListN.{length}
use mir.Syntax.{w32, w64}
use mir.Val.{SFits, to_z, of_z}
use mir.ValLaws.{to_z-of_z}
use Rattle.laws.proofs.Whole.Signed.{wide}
use Rattle.products.specs.Worked.{Next}
use Rattle.products.proofs.Laws.{made_first, made_more}
use Rattle.products.proofs.Ranges.{abs_32, next_of}
use Rattle.products.proofs.products_of.Goals as goal
use Rattle.products.proofs.products_of.Goals.{After-deref, After-next_product-next}

next : (c : After-deref) → Next c.args.graph.words.now c.loop-i.i c.deref.result.now
next c =
    let small : nat_abs (to_z w32 (of_z w32 c.args.x)) ≤ 2 ^ 31 = rw (to_z-of_z w32 _ c.ranges.x) (abs_32 _ c.ranges.x) in
    next_of _ _ c.requires _ small _ _ (omega arith) (c.deref.ensures.0 ∙ c.loop-i.invariant)

fit : (c : After-next_product-next) → SFits w64 c.next_product-next.result
fit c = search rules

pub loop-i-init : goal.loop-i-init
loop-i-init c =
    let fit : SFits w64 (to_z w32 (of_z w32 c.args.x)) = rw (to_z-of_z w32 _ c.ranges.x) (wide _ c.ranges.x) in
    (rw (c.new-made.ensures, c.from.ensures, to_z-of_z w64 _ fit) at c.push.ensures.items) ∙ made_first c.args.graph.words.now _

pub next_product-next-requires : goal.next_product-next-requires
next_product-next-requires c = (omega arith, next c)

pub push-requires-in-loop-i : goal.push-requires-in-loop-i
push-requires-in-loop-i c =
    let n = next (goal.at.push-requires-in-loop-i c).After-deref in
    omega (arith, ap length c.deref.ensures.0, n.count, c.args.graph.few)

pub loop-i-preserved : goal.loop-i-preserved
loop-i-preserved c =
    (rw (to_z-of_z w64 _ (fit (goal.at.loop-i-preserved c).After-next_product-next)) at c.push-in-loop-i.ensures.items)
    ∙ made_more _ _ c.loop-i.i _ _ c.loop-i.invariant (rw c.deref.ensures.0 at c.next_product-next.ensures)

pub returns : goal.returns
returns c =
    let e : c.loop-i.i ≡ c.args.graph.count = omega arith in
    (rw (e, to_z-of_z w32 _ c.ranges.x) at c.loop-i.invariant)
