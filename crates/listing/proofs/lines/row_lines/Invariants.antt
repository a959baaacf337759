use lib.ListN.{take}
use Rattle.meaning.specs.Forms.{lines_of, row_form}
use Rattle.meaning.specs.Graph.{rows}
use Rattle.meaning.specs.Listing.{rows_by}
use Rattle.writing.specs.Wrote.{Wrote}
use Rattle.listing.proofs.lines.row_lines.Given as goal

abbrev pub invariant-loop-i : goal.invariant-loop-i
invariant-loop-i l = Wrote l.initial.out l.from (lines_of row_form (take l.i-index (rows_by l.input (rows l.graph.count l.graph.words.now) l.order))) l.out l.at
