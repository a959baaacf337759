-- `write_targets` meets its contract. Assumes nothing.
use mathlib.Core.Path.{◌∙◌}
use native.Mathlib.Omega.{arith}
use borrow.Author.Rules.{rules}
use lib.IntN.{pos}
use lib.ListN.{get_or}
use mir.Syntax.{w32, w64}
use mir.Val.{SFits}
use mir.ValLaws.{to_z-of_z}
use Rattle.meaning.specs.Graph.{is_served}
use Rattle.laws.proofs.Lists.Over.{over_start, over_more, over_end}
use Rattle.meaning.specs.Products.{target_product}
use Rattle.products.proofs.Laws.{every_at}
use Rattle.products.proofs.write_targets.Goals as goal
use Rattle.products.proofs.write_targets.Goals.{After-target_product}

fit : (c : After-target_product) → SFits w64 c.target_product.result
fit c = search rules

pub loop-k-init : goal.loop-k-init
loop-k-init c = let s = c.args in over_start (target_product s.values.now s.made.now) s.ts.now s.out.now

pub target_product-requires : goal.target_product-requires
target_product-requires c =
    let h : SFits w32 (get_or c.args.ts.now c.loop-k.k (pos 0)) = search rules in
    (c.requires.1, rw (to_z-of_z w32 _ h) (every_at (is_served c.args.values.now) c.args.ts.now c.loop-k.k (pos 0) (omega arith) c.requires.2))

pub loop-k-preserved : goal.loop-k-preserved
loop-k-preserved c =
    let l = c.loop-k in
    let h : SFits w32 (get_or c.args.ts.now l.k (pos 0)) = search rules in
    rw (to_z-of_z w64 _ (fit c), c.target_product.ensures, to_z-of_z w32 _ h, l.invariant)
    (over_more (target_product c.args.values.now c.args.made.now) c.args.ts.now (pos 0) c.args.out.now l.k (omega arith) c.requires.0)

pub returns : goal.returns
returns c =
    let s = c.args in
    c.loop-k.invariant ∙ over_end (target_product s.values.now s.made.now) s.ts.now s.out.now c.loop-k.k (omega arith)
