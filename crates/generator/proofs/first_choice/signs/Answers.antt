-- `signs` meets its contract: the one or else the other. Assumes nothing.
use mathlib.Core.Path.{◌∙◌}
use Rattle.std.proofs.Common.{rules}
use Rattle.generator.specs.Search.{choice_of}
use Rattle.generator.proofs.FirstChoice.{or_else_is, sign_is}
use Rattle.generator.proofs.first_choice.signs.Goals as goal

pub returns : goal.returns
returns c =
    let a = c.args in
    or_else_is (choice_of a.p a.l1 a.l2 0) (choice_of a.p a.l1 a.l2 1) _ c.choice.ensures c.or_else.ensures (λ h. search rules) ∙ sign_is a.p a.l1 a.l2
