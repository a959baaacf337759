-- `write` meets its contract: the rows' values and their order, and then the listing by them. Assumes nothing.
use mathlib.Core.Path.{◌≡◌, ◌∙◌}
use lib.ListN.{take}
use Rattle.meaning.specs.Graph.{rows, values}
use Rattle.meaning.specs.Listing.{row_order}
use Rattle.listing.proofs.Laws.{front_of, order_count}
use Rattle.listing.proofs.write.Goals as goal
use Rattle.listing.proofs.write.Goals.{After-arrange}

-- the order of the row lines
order_is : (c : After-arrange) → let a = c.args in take a.n c.arrange.new.order ≡ row_order a.head.by_width (values (rows a.n a.words.now))
order_is c =
    let a = c.args in
    let xs = values (rows a.n a.words.now) in
    let made : c.as_slice.result.now ≡ xs = c.as_slice.ensures.value ∙ c.values-values.ensures in
    front_of _ _ _ a.n (order_count a.head.by_width a.n a.words.now)
    (rw made at c.arrange.ensures)

pub print-requires : goal.print-requires
print-requires c =
    let a = c.args in
    let p = c.requires in
    record {
      order_is = order_is (goal.at.print-requires c).After-arrange;
      values_are = c.as_slice-2.ensures.value ∙ c.values-values.ensures;
      targets = p.targets;
      fits = p.fits;
    }
