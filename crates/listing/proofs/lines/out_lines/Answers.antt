-- `out_lines` meets its contract. Assumes nothing.
use mathlib.Core.Path.{◌≡◌, ap, sym, ◌∙◌}
use mathlib.Core.List.{List, []}
use Prim.Native.Nat.{ℕ, ◌+◌, ◌<◌}
use native.Mathlib.Omega.{arith}
use lib.IntN.{ℤ, pos}
use lib.ListN.{length, get_or}
use mir.Syntax.{w32}
use mir.Val.{SFits, to_z, of_z}
use mir.ValLaws.{to_z-of_z}
use borrow.Author.Rules.{rules}
use Rattle.meaning.specs.Forms.{line_of, out_form}
use Rattle.meaning.specs.Listing.{out_numbers, outs_from}
use Rattle.writing.proofs.Writing.{lines_start, line_fits, line_on, lines_end}
use Rattle.listing.proofs.Laws.{outs_length, outs_at}
use Rattle.listing.proofs.lines.out_lines.Goals as goal
use Rattle.listing.proofs.lines.out_lines.Goals.{Start}

abbrev lines : Start → List (List ℤ)
lines c = outs_from (to_z w32 (of_z w32 c.args.input)) c.args.values.now 1 c.args.ts.now

count : (c : Start) → length (lines c) ≡ length c.args.ts.now
count c = outs_length (to_z w32 (of_z w32 c.args.input)) c.args.values.now c.args.ts.now

-- the numbers of the line that is next
module _ (input : ℤ) (values : List ℕ) (ts : List ℤ) (k : ℕ) (h : SFits w32 (get_or ts k (pos 0))) (l : k < length ts) where
  numbers : out_numbers input values (k + 1) (to_z w32 (of_z w32 (get_or ts k (pos 0)))) ≡ get_or (outs_from input values 1 ts) k []
  numbers = ap (out_numbers input values (k + 1)) (to_z-of_z w32 _ h) ∙ sym (outs_at input values ts k l)

pub loop-k-init : goal.loop-k-init
loop-k-init c = lines_start out_form (lines (goal.at.loop-k-init c).Start) _ _ (omega arith)

pub out_line-at-requires : goal.out_line-at-requires
out_line-at-requires c = (
  c.requires.0.values,
  let start = (goal.at.out_line-at-requires c).Start in
      let h : SFits w32 (get_or c.args.ts.now c.loop-k.k (pos 0)) = search rules in
      let r = line_fits out_form (lines start) c.loop-k.k c.loop-k.invariant (omega (arith, count start)) (rw (to_z-of_z w32 _ c.ranges.input) c.requires.1) in
      omega (arith, ap (λ (zs : List ℤ). length (line_of out_form zs)) (numbers (to_z w32 (of_z w32 c.args.input)) c.args.values.now c.args.ts.now c.loop-k.k h (omega arith))),
)

pub loop-k-preserved : goal.loop-k-preserved
loop-k-preserved c =
    let start = (goal.at.loop-k-preserved c).Start in
    let h : SFits w32 (get_or c.args.ts.now c.loop-k.k (pos 0)) = search rules in
    line_on out_form (lines start) c.loop-k.k c.loop-k.invariant (omega (arith, count start))
    (rw (numbers (to_z w32 (of_z w32 c.args.input)) c.args.values.now c.args.ts.now c.loop-k.k h (omega arith)) at c.out_line-at.ensures)

pub returns : goal.returns
returns c =
    rw (to_z-of_z w32 _ c.ranges.input) at (lines_end out_form (lines (goal.at.returns c).Start) c.loop-k.k c.loop-k.invariant (omega (arith, count (goal.at.returns c).Start)))
