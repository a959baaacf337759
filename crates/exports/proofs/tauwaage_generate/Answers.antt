-- `tauwaage_generate` meets its contract: the code of the answer, and what the generator wrote. Assumes nothing.
use mathlib.Core.Path.{◌∙◌}
use borrow.Author.Rules.{rules}
use mir.Syntax.{w64}
use mir.Val.{SFits}
use Rattle.exports.proofs.Handed.{handed, code_mapped}
use Rattle.exports.proofs.tauwaage_generate.Goals as goal

pub returns : goal.returns
returns c =
    let fit : SFits w64 c.of.result = search rules in
    handed _ (λ n. n) _ _ fit (c.of.ensures ∙ code_mapped (λ n. n) _ _ c.map.ensures.cases) c.generate.ensures
