-- `multiply` meets its contract: refused with the graph, then by the buffer; the targets' products over the front. Assumes nothing.
use mir.Syntax.{w32}
use mir.ValLaws.{to_z-of_z}
use Rattle.products.proofs.Multiplied.{graph_refused, short_buffer, all_multiplied}
use Rattle.products.proofs.multiply.Goals as goal

pub returns-in_err-graph : goal.returns-in_err-graph
returns-in_err-graph c = graph_refused _ _ _ _ _ _ _ _ c.in_err-graph.ensures.refusal c.from_residual.ensures.1

pub returns-then-out-ts : goal.returns-then-out-ts
returns-then-out-ts c = short_buffer _ _ _ _ _ _ c.in_ok-graph.ensures.rows.2 c.if-out-ts.true

pub returns : goal.returns
returns c = all_multiplied _ _ _ _ _ _ _ _ _ c.in_ok-graph.ensures.rows c.if-out-ts.false (rw (to_z-of_z w32 _ c.ranges.x) at c.work.ensures)
