-- `work` meets its contract: by the rows' values and their products. Assumes nothing.
use mathlib.Core.Path.{◌≡◌, ap₂, ◌∙◌}
use mathlib.Core.List.{map}
use mir.Syntax.{w32}
use mir.ValLaws.{to_z-of_z}
use Rattle.meaning.specs.Basics.{over}
use Rattle.meaning.specs.Graph.{rows, values}
use Rattle.meaning.specs.Products.{products, target_product, target_products}
use Rattle.products.proofs.Ranges.{abs_32, made_of}
use Rattle.products.proofs.work.Goals as goal
use Rattle.products.proofs.work.Goals.{After-deref-2}

values_are : (c : After-deref-2) → let g = c.args.graph in c.deref.result.now ≡ values (rows g.count g.words.now)
values_are c = c.deref.ensures.0 ∙ c.values-values.ensures

made_are : (c : After-deref-2) → let g = c.args.graph in c.deref-2.result.now ≡ products (rows g.count g.words.now) c.args.x
made_are c = c.deref-2.ensures.0 ∙ (rw (to_z-of_z w32 _ c.ranges.x) at c.products_of-made.ensures)

pub write_targets-requires : goal.write_targets-requires
write_targets-requires c =
    let s = (goal.at.write_targets-requires c).After-deref-2 in
    let p = c.requires in
    (p.room, rw (values_are s) (made_of _ _ p.valid c.args.x (abs_32 _ c.ranges.x) _ (made_are s)), rw (values_are s) p.served)

pub returns : goal.returns
unfolding target_products
returns c =
    let s = (goal.at.returns c).After-deref-2 in
    c.write_targets.ensures ∙ ap₂ (λ vals ps. over (map (target_product vals ps) c.args.ts.now) c.args.out.now) (values_are s) (made_are s)
