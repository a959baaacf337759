-- `tauwaage_ranking` meets its contract: the answer with the number of rows, and what was written. Assumes nothing.
use mathlib.Core.Path.{sym, ap, ◌∙◌}
use native.Mathlib.Omega.{arith}
use borrow.Author.Rules.{rules}
use mir.Syntax.{w64}
use mir.Val.{SFits}
use Rattle.exports.specs.Codes.{code}
use Rattle.exports.proofs.Handed.{handed, code_and, and_accepts, ranked_rows}
use Rattle.exports.proofs.tauwaage_ranking.Goals as goal

pub of-requires : goal.of-requires
of-requires c = λ n e.
    let (a, k) = and_accepts _ _ _ (sym c.and.ensures ∙ e) in
    omega (arith, k, ranked_rows _ _ _ _ _ _ (sym c.rank-answer.ensures.answers ∙ a))

pub returns : goal.returns
returns c =
    let fit : SFits w64 c.of.result = search rules in
    handed _ (λ _. c.args.rows) _ _ fit (c.of.ensures ∙ ap (code (λ k. k)) c.and.ensures ∙ code_and _ _) c.rank-answer.ensures
