-- `row_lines` meets its contract. Assumes nothing.
use mathlib.Core.Path.{◌≡◌, sym, ap, ◌∙◌}
use mathlib.Core.List.{List, []}
use Prim.Native.Nat.{◌<◌}
use native.Mathlib.Omega.{arith}
use lib.IntN.{ℤ}
use lib.ListN.{length, get_or}
use mir.Syntax.{w32}
use mir.Val.{to_z, of_z}
use mir.ValLaws.{to_z-of_z}
use Rattle.meaning.specs.Forms.{row_form}
use Rattle.meaning.specs.Graph.{row_at, rows}
use Rattle.meaning.specs.Listing.{row_numbers, rows_by}
use Rattle.laws.proofs.Graph.Rows.{row_of}
use Rattle.writing.proofs.Writing.{lines_start, line_fits, line_on}
use Rattle.listing.proofs.Laws.{rows_length, rows_at}
use Rattle.listing.proofs.lines.row_lines.Goals as goal
use Rattle.listing.proofs.lines.row_lines.Goals.{After-after-x, Start}

abbrev lines : Start → List (List ℤ)
lines c = rows_by (to_z w32 (of_z w32 c.args.input)) (rows c.args.graph.count c.args.graph.words.now) c.args.order.now

count : (c : Start) → length (lines c) ≡ length c.args.order.now
count c = rows_length (to_z w32 (of_z w32 c.args.input)) (rows c.args.graph.count c.args.graph.words.now) c.args.order.now

-- the numbers of the line that is next
numbers : (c : After-after-x) → let a = c.args in
    get_or (rows_by (to_z w32 (of_z w32 a.input)) (rows a.graph.count a.graph.words.now) a.order.now) c.loop-i.i-index []
    ≡ row_numbers (to_z w32 (of_z w32 a.input)) (get_or a.order.now c.loop-i.i-index 0) c.after-x.result
numbers c =
    let a = c.args in
    let t : c.loop-i.i-index < length a.order.now = omega arith in
    rows_at (to_z w32 (of_z w32 a.input)) (rows a.graph.count a.graph.words.now) a.order.now c.loop-i.i-index t
    ∙ ap (row_numbers (to_z w32 (of_z w32 a.input)) (get_or a.order.now c.loop-i.i-index 0))
    (row_of a.graph.count a.graph.words.now _ (row_at [] 0) (omega (arith, c.requires.0.low _ t, c.requires.0.high _ t)) ∙ sym c.after-x.ensures)

pub loop-i-init : goal.loop-i-init
loop-i-init c = lines_start row_form (lines (goal.at.loop-i-init c).Start) _ _ (omega arith)

pub row_line-at-requires : goal.row_line-at-requires
row_line-at-requires c =
    let at = goal.at.row_line-at-requires c in
    rw (← numbers at.After-after-x)
    (line_fits row_form (lines at.Start) c.loop-i.i-index c.loop-i.invariant (omega (arith, count at.Start)) (rw (to_z-of_z w32 _ c.ranges.input) c.requires.1))

pub loop-i-preserved : goal.loop-i-preserved
loop-i-preserved c =
    let at = goal.at.loop-i-preserved c in
    line_on row_form (lines at.Start) c.loop-i.i-index c.loop-i.invariant (omega (arith, count at.Start)) (rw (numbers at.After-after-x) c.row_line-at.ensures)
