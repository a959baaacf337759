-- `tauwaage_products` meets its contract: the answer with the number of targets, and what was written. Assumes nothing.
use mathlib.Core.Path.{ap, ◌∙◌}
use lib.ListN.{length}
use mir.Syntax.{w32}
use mir.ValLaws.{to_z-of_z}
use borrow.Author.Rules.{rules}
use mir.Syntax.{w64}
use mir.Val.{SFits}
use Rattle.exports.specs.Codes.{code}
use Rattle.exports.proofs.Handed.{handed, code_and}
use Rattle.exports.proofs.tauwaage_products.Goals as goal

pub returns : goal.returns
returns c =
    let fit : SFits w64 c.of.result = search rules in
    handed _ (λ _. length c.args.targets.now) _ _ fit (c.of.ensures ∙ ap (code (λ k. k)) c.and.ensures ∙ code_and _ _) (rw (to_z-of_z w32 _ c.ranges.x) at c.multiply-answer.ensures)
