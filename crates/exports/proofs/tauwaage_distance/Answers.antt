-- `tauwaage_distance` meets its contract: the code of the distance. Assumes nothing.
use mathlib.Core.Path.{◌∙◌}
use Rattle.exports.specs.Codes.{operations}
use borrow.Author.Rules.{rules}
use mir.Syntax.{w64}
use mir.Val.{SFits}
use Rattle.exports.proofs.Handed.{handed, code_mapped}
use Rattle.exports.proofs.tauwaage_distance.Goals as goal

pub returns : goal.returns
returns c =
    let fit : SFits w64 c.of.result = search rules in
    handed _ operations _ _ fit (c.of.ensures ∙ code_mapped operations _ _ c.map.ensures.cases) c.distance.ensures
