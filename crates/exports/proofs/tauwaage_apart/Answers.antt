-- `tauwaage_apart` meets its contract: the answer with 3, and what was written. Assumes nothing.
use mathlib.Core.Path.{ap, ◌∙◌}
use Rattle.meaning.specs.Calls.{TakesApart}
use borrow.Author.Rules.{rules}
use mir.Syntax.{w64}
use mir.Val.{SFits}
use Rattle.exports.specs.Codes.{code}
use Rattle.exports.proofs.Handed.{handed, code_and, for_constant}
use Rattle.exports.proofs.tauwaage_apart.Goals as goal

pub returns : goal.returns
returns c =
    let fit : SFits w64 c.of.result = search rules in
    handed _ (λ _. 3) _ _ fit (c.of.ensures ∙ ap (code (λ k. k)) c.and.ensures ∙ code_and _ _) (for_constant TakesApart c.args.constant c.apart_to.ensures (search rules))
