-- `tauwaage_canonic` meets its contract: the code of the answer, and what was written. Assumes nothing.
use mathlib.Core.Path.{◌∙◌}
use Rattle.meaning.specs.Calls.{WritesForm}
use borrow.Author.Rules.{rules}
use mir.Syntax.{w64}
use mir.Val.{SFits}
use Rattle.exports.proofs.Handed.{handed, code_mapped, for_constant}
use Rattle.exports.proofs.tauwaage_canonic.Goals as goal

pub returns : goal.returns
returns c =
    let fit : SFits w64 c.of.result = search rules in
    handed _ (λ n. n) _ _ fit (c.of.ensures ∙ code_mapped (λ n. n) _ _ c.map.ensures.cases) (for_constant WritesForm c.args.constant c.canonic_to.ensures (search rules))
