use Rattle.generator.proofs.Turns.{Turned}
use Rattle.generator.proofs.draw.Given as goal

abbrev pub invariant-loop : goal.invariant-loop
invariant-loop l = Turned l.limit l.wanted l.initial.draft l.counter l.draft
