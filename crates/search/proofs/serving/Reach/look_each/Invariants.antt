use lib.ListN.{take}
use Rattle.search.specs.Sides.{is_with}
use Rattle.search.specs.Least.{Lowers}
use Rattle.search.proofs.serving.Reach.look_each.Given as goal

abbrev pub invariant-loop-u : goal.invariant-loop-u
invariant-loop-u l = Lowers l.self.map.now l.self.low (λ s. is_with l.self.limit l.c (take l.u-index l.ready) s) l.best l.least
