use Rattle.search.specs.Sides.{is_twice}
use Rattle.search.specs.Least.{Lowers}
use Rattle.search.proofs.serving.Reach.look_twice.Given as goal

abbrev pub invariant-loop-l : goal.invariant-loop-l
invariant-loop-l l = Lowers l.self.map.now l.self.low (λ s. is_twice l.l l.c s) l.best l.least
