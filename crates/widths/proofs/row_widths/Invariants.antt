use Rattle.std.proofs.Common.{◌≡◌, ℕ, ◌<◌, get_or}
use Rattle.meaning.specs.Graph.{row_after}
use Rattle.meaning.specs.Widths.{row_width}
use Rattle.widths.proofs.row_widths.Given as goal

abbrev pub invariant-loop-i : goal.invariant-loop-i
invariant-loop-i l = (k : ℕ) → k < l.i → get_or l.place-items k 0 ≡ row_width l.input (row_after l.graph.words.now k).value
