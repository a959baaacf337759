use lib.ListN.{take}
use Rattle.search.specs.Sides.{is_with}
use Rattle.search.specs.Marks.{Adds}
use Rattle.search.proofs.with_each.Given as goal

abbrev pub invariant-loop-u : goal.invariant-loop-u
invariant-loop-u l = Adds l.initial.map l.map (λ c. is_with l.limit l.v (take l.u-index l.ready) c)
