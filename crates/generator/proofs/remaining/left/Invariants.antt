use Rattle.search.specs.Held.{listed}
use Rattle.generator.proofs.RemainingLaws.{Sifted}
use Rattle.generator.proofs.remaining.left.Given as goal

abbrev pub invariant-loop-c : goal.invariant-loop-c
invariant-loop-c l = Sifted (listed l.set) l.wanted l.left.items l.c-index
