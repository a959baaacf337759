use Rattle.std.proofs.Common.{◌≡◌}
use Rattle.meaning.specs.Graph.{rows, values}
use Rattle.graph.proofs.all_served.Given as goal

abbrev pub invariant-loop-i : goal.invariant-loop-i
invariant-loop-i l = l.values.items ≡ values (rows l.i l.graph.words.now)
