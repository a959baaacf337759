use mathlib.Core.Path.{◌≡◌}
use mathlib.Core.List.{List}
use lib.ListN.{drop}
use Rattle.meaning.specs.declared.Row.{Row}
use Rattle.meaning.specs.Graph.{ready}
use Rattle.meaning.specs.Generator.{rule_b}
use Rattle.search.specs.Held.{listed}
use Rattle.generator.proofs.draft.Draft.pick.Given as goal

abbrev pub invariant-loop-c : goal.invariant-loop-c
invariant-loop-c l = (before : List Row) → ready before ≡ listed l.self.set → rule_b l.self.limit before l.wanted ≡ rule_b l.self.limit before (drop l.c-index l.wanted)
