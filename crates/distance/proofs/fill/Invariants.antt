use Rattle.search.specs.Marks.{State}
use Rattle.distance.proofs.fill.Given as goal

abbrev pub invariant-loop-n : goal.invariant-loop-n
invariant-loop-n l = State l.limit l.map l.vals l.n
