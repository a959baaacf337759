-- `print` meets its contract: the head, the row lines and the out lines, one after the other. Assumes nothing.
use mathlib.Core.Path.{◌≡◌, refl}
use mathlib.Core.List.{List, ◌++◌}
use Prim.Native.Nat.{ℕ, ◌+◌, ◌≤◌}
use native.Mathlib.Omega.{arith}
use lib.ListN.{length}
use mir.Syntax.{w32}
use mir.Val.{SFits}
use mir.ValLaws.{to_z-of_z}
use Rattle.meaning.specs.Constants.{wanted}
use Rattle.meaning.specs.Digits.{csd_sum}
use Rattle.meaning.specs.Forms.{lines_of, row_form, out_form}
use Rattle.meaning.specs.Graph.{rows}
use Rattle.meaning.specs.Listing.{head_text, rows_by, outs_from, graph_in, listing_of}
use Rattle.writing.specs.Wrote.{Wrote}
use Rattle.writing.proofs.Writing.{◌⨾◌, room, front_fits, same_text}
use Rattle.laws.proofs.Graph.Rows.{length_rows, length_values}
use Rattle.listing.specs.Parts.{InRows, InOuts}
use Rattle.listing.proofs.Laws.{order_rows}
use borrow.Author.Rules.{rules}
use Rattle.listing.proofs.print.Goals as goal
use Rattle.listing.proofs.print.Goals.{After-head_lines-at, After-row_lines-at, Start}

-- the texts, up to each part
abbrev head : Start → List ℕ
head f = head_text f.args.head f.args.graph.count (csd_sum (wanted f.args.ts.now))

abbrev row_text : Start → List ℕ
row_text f = lines_of row_form (rows_by f.args.head.input (rows f.args.graph.count f.args.graph.words.now) f.args.order.now)

abbrev out_text : Start → List ℕ
out_text f = lines_of out_form (outs_from f.args.head.input f.args.values.now 1 f.args.ts.now)

-- which are the listing
whole : (f : Start) → head f ++ row_text f ++ out_text f ≡ listing_of (graph_in f.args.head f.args.ts.now f.args.graph.count f.args.graph.words.now)
unfolding listing_of
whole f = rw (f.requires.order_is, f.requires.values_are, length_rows f.args.graph.count f.args.graph.words.now) refl

-- there is room for each
fits3 : (f : Start) → 0 + length (head f ++ row_text f ++ out_text f) ≤ length f.args.out.now
fits3 f = rw (whole f) (omega (arith, f.requires.fits))

fits2 : (f : Start) → 0 + length (head f ++ row_text f) ≤ length f.args.out.now
fits2 f = front_fits 0 (head f ++ row_text f) (out_text f) (fits3 f)

fits1 : (f : Start) → 0 + length (head f) ≤ length f.args.out.now
fits1 f = front_fits 0 (head f) (row_text f) (fits2 f)

-- what the lines stand on
in_rows : (f : Start) → InRows f.args.graph.count f.args.order.now
in_rows f = rw f.requires.order_is (order_rows f.args.head.by_width f.args.graph.count f.args.graph.words.now)

in_outs : (f : Start) → InOuts f.args.values.now f.args.ts.now
in_outs f =
    let g = f.args.graph in
    record { values = rw (f.requires.values_are, length_values (rows g.count g.words.now), length_rows g.count g.words.now) g.few; targets = f.requires.targets }

input_fits : (f : Start) → SFits w32 f.args.head.input
input_fits f = search rules

-- what is written up to each part
wrote1 : (c : After-head_lines-at) → let a = c.args in
    Wrote a.out.now 0 (head_text a.head a.graph.count (csd_sum (wanted a.ts.now))) c.head_lines-at.new.out c.head_lines-at.result
wrote1 c = rw c.csd_sum.ensures at c.head_lines-at.ensures

wrote2 : (c : After-row_lines-at) → let a = c.args in
    Wrote a.out.now 0 (head_text a.head a.graph.count (csd_sum (wanted a.ts.now))) c.head_lines-at.new.out c.head_lines-at.result
    → Wrote a.out.now 0
    (head_text a.head a.graph.count (csd_sum (wanted a.ts.now))
    ++ lines_of row_form (rows_by a.head.input (rows a.graph.count a.graph.words.now) a.order.now))
    c.row_lines-at.new.out
    c.row_lines-at.result
wrote2 c w = let h : SFits w32 c.args.head.input = search rules in w ⨾ rw (to_z-of_z w32 _ h) at c.row_lines-at.ensures

pub head_lines-at-requires : goal.head_lines-at-requires
head_lines-at-requires c = (c.args.graph.few, rw c.csd_sum.ensures (omega (arith, fits1 (goal.at.head_lines-at-requires c).Start)))

pub row_lines-at-requires : goal.row_lines-at-requires
row_lines-at-requires c =
    let at = goal.at.row_lines-at-requires c in
    (in_rows at.Start, rw (to_z-of_z w32 _ (input_fits at.Start)) (room _ (wrote1 at.After-head_lines-at) (fits2 at.Start)))

pub out_lines-requires : goal.out_lines-requires
out_lines-requires c =
    let at = goal.at.out_lines-requires c in
    (in_outs at.Start, rw (to_z-of_z w32 _ (input_fits at.Start)) (room _ (wrote2 at.After-row_lines-at (wrote1 at.After-head_lines-at)) (fits3 at.Start)))

pub returns : goal.returns
returns c =
    let at = goal.at.returns c in
    same_text (whole at.Start) (wrote2 at.After-row_lines-at (wrote1 at.After-head_lines-at) ⨾ rw (to_z-of_z w32 _ (input_fits at.Start)) at c.out_lines.ensures)
