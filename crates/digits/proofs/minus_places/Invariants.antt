use Rattle.digits.proofs.FormWords.{Adding}
use Rattle.digits.proofs.minus_places.Given as goal

abbrev pub invariant-loop-rest : goal.invariant-loop-rest
invariant-loop-rest l = Adding l.n l.minus l.power l.rest

abbrev pub decreases-loop-rest : goal.decreases-loop-rest
decreases-loop-rest l = l.rest
