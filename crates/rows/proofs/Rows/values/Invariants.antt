use Rattle.std.proofs.Common.{◌≡◌}
use Rattle.meaning.specs.Graph.{rows, values}
use Rattle.rows.proofs.Rows.values.Given as goal

abbrev pub invariant-loop-i : goal.invariant-loop-i
invariant-loop-i l = l.values.items ≡ values (rows l.i l.self.words.now)
