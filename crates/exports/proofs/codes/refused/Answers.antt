-- `refused` meets its contract: 1000 × number + place is far below 2^63. Assumes nothing.
use mathlib.Core.Path.{◌∙◌}
use native.Mathlib.Omega.{arith}
use borrow.Author.Rules.{rules}
use mir.Syntax.{w64}
use mir.Val.{SFits}
use mir.ValLaws.{to_z-of_z}
use Rattle.exports.proofs.Fits.{refusal_told}
use Rattle.exports.proofs.codes.refused.Goals as goal
use Rattle.exports.proofs.codes.refused.Goals.{After-negative}

fit : (c : After-negative) → SFits w64 c.negative.result
fit c = search rules

pub returns : goal.returns
returns c =
    to_z-of_z w64 _ (fit c)
    ∙ refusal_told _ _ _ c.negative.ensures (omega (arith, c.from-number.ensures, c.from-place.ensures))
