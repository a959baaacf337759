-- `measure` meets its contract: refused with the graph, then by the buffer; the rows' widths and then the outputs' over the front. Assumes nothing.
use Rattle.widths.proofs.Measured.{graph_refused, short_buffer, both_written}
use Rattle.widths.proofs.measure.Goals as goal

pub returns-in_err-graph : goal.returns-in_err-graph
returns-in_err-graph c = graph_refused _ _ _ _ _ _ _ _ c.in_err-graph.ensures.refusal c.from_residual.ensures.1

pub returns-then-out-n : goal.returns-then-out-n
returns-then-out-n c = short_buffer _ _ _ _ _ _ c.in_ok-graph.ensures.rows.2 c.if-out-n.true

pub returns : goal.returns
returns c = both_written _ _ _ _ _ _ _ _ _ _ c.in_ok-graph.ensures.rows c.if-out-n.false c.row_widths.ensures c.output_widths.ensures
