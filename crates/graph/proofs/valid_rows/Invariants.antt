use mathlib.Core.Path.{◌≡◌}
use lib.ListN.{take, drop}
use Rattle.meaning.specs.declared.Refusal.TheVariants as no
use Rattle.meaning.specs.Limits.{limit}
use Rattle.meaning.specs.Graph.{rows, does_fit}
use Rattle.meaning.specs.Refusals.{need_each, valid_rows}
use Rattle.graph.proofs.valid_rows.Given as goal

-- the answer for the rows is the answer for what is left of them
abbrev pub invariant-loop-i : goal.invariant-loop-i
invariant-loop-i l = valid_rows l.b (rows l.graph.count l.graph.words.now) ≡ need_each no.Row (does_fit (limit l.b)) (take l.i (rows l.graph.count l.graph.words.now)) (drop l.i (rows l.graph.count l.graph.words.now))
