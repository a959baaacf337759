-- `tauwaage_check` meets its contract: the answer of the check, and 0 for acceptance. Assumes nothing.
use mathlib.Core.Path.{ap, ◌∙◌}
use borrow.Author.Rules.{rules}
use mir.Syntax.{w64}
use mir.Val.{SFits}
use Rattle.exports.specs.Codes.{code}
use Rattle.exports.proofs.Handed.{handed, code_and}
use Rattle.exports.proofs.tauwaage_check.Goals as goal

pub returns : goal.returns
returns c =
    let fit : SFits w64 c.of.result = search rules in
    handed _ (λ _. 0) _ _ fit (c.of.ensures ∙ ap (code (λ k. k)) c.and.ensures ∙ code_and _ _) c.check.ensures
