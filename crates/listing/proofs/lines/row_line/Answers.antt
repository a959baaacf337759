-- `row_line` meets its contract: the row's numbers in its form. Assumes nothing.
use mathlib.Core.Path.{◌≡◌, refl, ap, ◌∙◌}
use mathlib.Core.List.{List, [], ◌∷◌}
use native.Mathlib.Omega.{arith}
use lib.IntN.{ℤ, pos, ◌+ℤ◌}
use lib.ListN.{length}
use mir.Syntax.{w32, w64}
use mir.Val.{SFits, to_z, of_z}
use mir.ValLaws.{to_z-of_z}
use borrow.Author.Rules.{rules}
use Rattle.meaning.specs.Forms.{line_of, row_form}
use Rattle.meaning.specs.Listing.{row_numbers}
use Rattle.meaning.specs.Widths.{row_width}
use Rattle.writing.proofs.Writing.{same_text}
use Rattle.listing.proofs.lines.row_line.Goals as goal
use Rattle.listing.proofs.lines.row_line.Goals.{After-from-8}

-- the width, over whole numbers
width : (c : After-from-8) → let a = c.args in to_z w64 (of_z w64 c.wider-width.result) ≡ a.input +ℤ pos (row_width 0 a.x.value)
width c =
    let h : SFits w64 c.wider-width.result = search rules in
    to_z-of_z w64 _ h ∙ rw (to_z-of_z w32 _ c.ranges.input, c.row_width.ensures) at c.wider-width.ensures

-- the numbers written
numbers : (c : After-from-8) → let a = c.args in
    to_z w64 (of_z w64 c.from.result) ∷ to_z w64 (of_z w64 c.from-2.result) ∷ to_z w64 (of_z w64 c.from-3.result) ∷ to_z w64 (of_z w64 c.from-4.result)
    ∷ to_z w64 (of_z w64 c.from-5.result) ∷ to_z w64 (of_z w64 c.from-6.result) ∷ to_z w64 (of_z w64 c.from-7.result) ∷ to_z w64 (of_z w64 c.from-8.result)
    ∷ to_z w64 (of_z w64 c.wider-width.result) ∷ [] ≡ row_numbers a.input a.i a.x
unfolding row_numbers
numbers c =
    let h1 : SFits w64 c.from.result = search rules in
    let h2 : SFits w64 c.from-2.result = search rules in
    let h3 : SFits w64 c.from-3.result = search rules in
    let h4 : SFits w64 c.from-4.result = search rules in
    let h5 : SFits w64 c.from-5.result = search rules in
    let h6 : SFits w64 c.from-6.result = search rules in
    let h7 : SFits w64 c.from-7.result = search rules in
    let h8 : SFits w64 c.from-8.result = search rules in
    rw (
      width c,
      to_z-of_z w64 _ h1,
      to_z-of_z w64 _ h2,
      to_z-of_z w64 _ h3,
      to_z-of_z w64 _ h4,
      to_z-of_z w64 _ h5,
      to_z-of_z w64 _ h6,
      to_z-of_z w64 _ h7,
      to_z-of_z w64 _ h8,
      c.from.ensures,
      c.from-2.ensures,
      c.from-3.ensures,
      c.from-4.ensures,
      c.from-5.ensures,
      c.from-6.ensures,
      c.from-7.ensures,
      c.from-8.ensures,
    ) refl

pub put_line-requires : goal.put_line-requires
put_line-requires c =
    omega (arith, ap (λ (zs : List ℤ). length (line_of row_form zs)) (numbers (goal.at.put_line-requires c).After-from-8), c.requires)

pub returns : goal.returns
returns c = same_text (ap (line_of row_form) (numbers (goal.at.returns c).After-from-8)) c.put_line.ensures
