use mathlib.Core.Path.{◌≡◌}
use mathlib.Core.List.{map}
use lib.ListN.{take}
use Rattle.meaning.specs.Basics.{over}
use Rattle.meaning.specs.Products.{target_product}
use Rattle.products.proofs.write_targets.Given as goal

abbrev pub invariant-loop-k : goal.invariant-loop-k
invariant-loop-k l = l.out ≡ over (map (target_product l.values l.made) (take l.k l.ts)) l.initial.out
