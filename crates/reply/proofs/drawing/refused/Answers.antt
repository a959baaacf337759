-- `refused` meets its contract: a line of its number and its place. Assumes nothing.
use mathlib.Core.Path.{◌≡◌, ap, ap₂, ◌∙◌}
use mathlib.Core.List.{[], ◌∷◌}
use native.Mathlib.Omega.{arith}
use lib.IntN.{ℤ, pos}
use lib.ListN.{length}
use mir.Syntax.{w64}
use mir.Val.{SFits, to_z, of_z}
use mir.ValLaws.{to_z-of_z}
use borrow.Author.Rules.{rules}
use Rattle.meaning.specs.Forms.{line_of, refused_form}
use Rattle.meaning.specs.Listing.{refused_line}
use Rattle.laws.proofs.Text.Listings.{refused_room}
use Rattle.writing.proofs.Writing.{same_text}
use Rattle.reply.proofs.drawing.refused.Goals as goal
use Rattle.reply.proofs.drawing.refused.Goals.{After-from-2}

-- the line that is written
line : (c : After-from-2) → line_of refused_form (to_z w64 (of_z w64 c.from.result) ∷ to_z w64 (of_z w64 c.from-2.result) ∷ []) ≡ refused_line c.args.why
unfolding refused_line
line c =
    let h : SFits w64 c.from.result = search rules in
    let k : SFits w64 c.from-2.result = search rules in
    ap₂ (λ (x y : ℤ). line_of refused_form (x ∷ y ∷ []))
    (to_z-of_z w64 _ h ∙ c.from.ensures ∙ ap pos c.number.ensures) (to_z-of_z w64 _ k ∙ c.from-2.ensures ∙ ap pos c.place.ensures)

pub put_line-requires : goal.put_line-requires
put_line-requires c =
    omega (arith, ap length (line (goal.at.put_line-requires c).After-from-2), c.requires, refused_room c.args.why (omega (arith, c.place.ensures)))

pub returns : goal.returns
returns c = same_text (line (goal.at.returns c).After-from-2) c.put_line.ensures
