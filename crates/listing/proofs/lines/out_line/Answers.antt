-- `out_line_lem` meets its contract: the target's numbers in its form. Assumes nothing.
use mathlib.Core.Path.{◌≡◌, ap, ◌∙◌}
use mathlib.Core.List.{List, [], ◌∷◌}
use Prim.Native.Nat.{◌≤◌}
use native.Mathlib.Omega.{arith}
use lib.IntN.{ℤ, pos}
use lib.ListN.{length}
use mir.Syntax.{w32, w64}
use mir.Val.{SFits, to_z, of_z}
use mir.ValLaws.{to_z-of_z, to_z_pos}
use borrow.Author.Rules.{rules}
use Rattle.meaning.specs.declared.Parts.{Parts}
use Rattle.meaning.specs.Constants.{apart, sign_of, shift_of, odd_of}
use Rattle.meaning.specs.Forms.{line_of, out_form}
use Rattle.meaning.specs.Graph.{output_index}
use Rattle.meaning.specs.Limits.{most_rows}
use Rattle.meaning.specs.Listing.{out_width, out_numbers}
use Rattle.laws.proofs.Text.Listings.{index_most}
use Rattle.writing.proofs.Writing.{same_text}
use Rattle.listing.proofs.lines.out_line.Goals as goal
use Rattle.listing.proofs.lines.out_line.Goals.{After-out_width, After-output_index-index, After-take_apart-parts}

-- the target's own parts, and the index that its output uses
parts_are : (c : After-take_apart-parts) → c.take_apart-parts.result ≡ apart c.args.t
parts_are c = rw (to_z-of_z w32 _ c.ranges.t) at c.take_apart-parts.ensures

index_is : (c : After-output_index-index) → let a = c.args in c.output_index-index.result ≡ output_index a.values.now (odd_of a.t)
unfolding apart
index_is c = rw (to_z-of_z w32 _ c.ranges.t) at (c.output_index-index.ensures ∙ ap (λ (p : Parts). output_index c.args.values.now p.odd) c.take_apart-parts.ensures)

index_few : (c : After-output_index-index) → c.output_index-index.result ≤ most_rows
index_few c =
    rw (index_is c) (omega (arith, index_most c.args.values.now (odd_of c.args.t), c.requires.0))

-- the width, over whole numbers
width : (c : After-out_width) → let a = c.args in to_z w64 (of_z w64 c.out_width.result) ≡ out_width a.input a.t
width c =
    let h : SFits w64 c.out_width.result = search rules in
    to_z-of_z w64 _ h ∙ rw (to_z-of_z w32 _ c.ranges.input, to_z-of_z w32 _ c.ranges.t) at c.out_width.ensures

-- the numbers written
numbers : (c : After-out_width) → let a = c.args in let p = c.take_apart-parts.result in
    p ≡ apart a.t → c.output_index-index.result ≡ output_index a.values.now (odd_of a.t) → c.output_index-index.result ≤ most_rows →
    to_z w64 (of_z w64 c.from.result) ∷ to_z w64 c.output_index-index.result ∷ to_z w64 (of_z w64 c.from-2.result) ∷ to_z w64 (of_z w64 c.from-3.result)
    ∷ to_z w64 (of_z w64 c.out_width.result) ∷ [] ≡ out_numbers a.input a.values.now a.k a.t
unfolding out_numbers apart
numbers c parts index few =
    let a = c.args in
    let h1 : SFits w64 c.from.result = search rules in
    let h2 : SFits w64 c.from-2.result = search rules in
    let h3 : SFits w64 c.from-3.result = search rules in
    let sign : SFits w32 c.take_apart-parts.result.sign = search rules in
    let e1 : to_z w64 (of_z w64 c.from.result) ≡ pos a.k = to_z-of_z w64 _ h1 ∙ c.from.ensures in
    let e2 : to_z w64 c.output_index-index.result ≡ pos (output_index a.values.now (odd_of a.t)) = to_z_pos w64 _ (omega (arith, few)) ∙ ap pos index in
    let e3 : to_z w64 (of_z w64 c.from-2.result) ≡ pos (shift_of a.t) = to_z-of_z w64 _ h2 ∙ c.from-2.ensures ∙ ap (λ (q : Parts). pos q.shift) parts in
    let e4 : to_z w64 (of_z w64 c.from-3.result) ≡ sign_of a.t = to_z-of_z w64 _ h3 ∙ c.from-3.ensures ∙ to_z-of_z w32 _ sign ∙ ap (λ (q : Parts). q.sign) parts in
    λ j. e1 j ∷ e2 j ∷ e3 j ∷ e4 j ∷ width c j ∷ []

pub overflow_cast-numbers : goal.overflow_cast-numbers
overflow_cast-numbers c = record { sfits = omega (arith, index_few (goal.at.overflow_cast-numbers c).After-output_index-index) }

pub put_line-requires : goal.put_line-requires
put_line-requires c =
    let at = goal.at.put_line-requires c in
    omega (arith, ap (λ (zs : List ℤ). length (line_of out_form zs)) (numbers at.After-out_width (parts_are at.After-take_apart-parts) (index_is at.After-output_index-index) (index_few at.After-output_index-index)), c.requires.1)

pub returns : goal.returns
returns c =
    let at = goal.at.returns c in
    same_text (ap (line_of out_form) (numbers at.After-out_width (parts_are at.After-take_apart-parts) (index_is at.After-output_index-index) (index_few at.After-output_index-index))) c.put_line.ensures
