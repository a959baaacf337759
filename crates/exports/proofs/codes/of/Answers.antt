-- `of` meets its contract: the number fits as it requires, and a refusal's code is `refused`'s. Assumes nothing.
use mathlib.Core.Path.{sym, ap, ◌∙◌}
use native.Mathlib.Omega.{arith}
use borrow.Author.Rules.{rules}
use mir.Syntax.{w64}
use mir.Val.{SFits}
use mir.ValLaws.{to_z-of_z, to_z_pos}
use Rattle.exports.specs.Codes.{code}
use Rattle.exports.proofs.codes.of.Goals as goal

pub returns-in-Ok : goal.returns-in-Ok
unfolding code
returns-in-Ok c = to_z_pos w64 _ (c.requires _ c.in-Ok.is) ∙ sym (ap (code (λ n. n)) c.in-Ok.is)

pub returns-in-Err : goal.returns-in-Err
unfolding code
returns-in-Err c =
    let fit : SFits w64 c.refused.result = search rules in
    to_z-of_z w64 _ fit ∙ c.refused.ensures ∙ sym (ap (code (λ n. n)) c.in-Err.is)

pub overflow_cast-result : goal.overflow_cast-result
overflow_cast-result c = omega (arith, c.requires _ c.in-Ok.is)
