-- `agrees` meets its contract: what the operation makes is held to the row's r and value. Assumes nothing.
use mathlib.Core.Path.{sym, ◌∙◌}
use Rattle.graph.proofs.ValidRowLaws.{agrees_none, agrees_value, agrees_other}
use Rattle.graph.proofs.valid_row.agrees.Goals as goal

pub returns-in_default : goal.returns-in_default
returns-in_default c = agrees_none _ _ _ _ _ _ _ _ (sym c.operate.ensures ∙ c.in_default.is)

pub returns-then-made-x : goal.returns-then-made-x
returns-then-made-x c = agrees_value _ _ _ _ _ _ _ _ _ (sym c.operate.ensures ∙ c.in-Some.is) c.if-made-x.true

pub returns-else-made-x : goal.returns-else-made-x
returns-else-made-x c = agrees_other _ _ _ _ _ _ _ _ _ (sym c.operate.ensures ∙ c.in-Some.is) c.if-made-x.false
