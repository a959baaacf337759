-- `pair_choice` meets its contract: the one or else the other. Assumes nothing.
use mathlib.Core.Path.{◌∙◌}
use Rattle.std.proofs.Common.{rules}
use Rattle.generator.specs.Search.{right_choice, left_choice}
use Rattle.generator.proofs.FirstChoice.{or_else_is, pair_is}
use Rattle.generator.proofs.first_choice.pair_choice.Goals as goal

pub returns : goal.returns
returns c =
    let p = c.args.p in
    or_else_is (right_choice p) (left_choice p) _ c.rights.ensures c.or_else.ensures (λ h. search rules) ∙ pair_is p
