use Rattle.std.proofs.Common.{◌≡◌}
use Rattle.meaning.specs.Graph.{rows}
use Rattle.meaning.specs.Products.{products}
use Rattle.products.proofs.products_of.Given as goal

abbrev pub invariant-loop-i : goal.invariant-loop-i
invariant-loop-i l = l.made.items ≡ products (rows l.i l.graph.words.now) l.x
