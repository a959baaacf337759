-- `tauwaage_widths` meets its contract: the answer with rows + targets, and what was written. Assumes nothing.
use mathlib.Core.Path.{◌≡◌, sym, ◌∙◌}
use Prim.Native.Nat.{◌+◌, ◌≤◌}
use native.Mathlib.Omega.{arith}
use borrow.Author.Rules.{rules}
use lib.ListN.{length}
use mir.Syntax.{w64}
use mir.Val.{SFits}
use Rattle.meaning.specs.Limits.{most_rows}
use Rattle.exports.proofs.Handed.{handed, code_done, code_refused, measured_rows}
use Rattle.exports.proofs.tauwaage_widths.Goals as goal
use Rattle.exports.proofs.tauwaage_widths.Goals.{In-Ok}

few : (c : In-Ok) → c.args.rows ≤ most_rows
few c = measured_rows _ _ _ _ _ _ (sym c.measure-answer.ensures.answers ∙ c.in-Ok.is)

pub overflow_add-rows : goal.overflow_add-rows
overflow_add-rows c = omega (arith, few c)

pub of-requires : goal.of-requires
of-requires c = λ n e. let k : c.args.rows + length c.args.targets.now ≡ n = cc in omega (arith, k, few c)

pub returns-in-Ok : goal.returns-in-Ok
returns-in-Ok c =
    let fit : SFits w64 c.of.result = search rules in
    handed _ (λ _. c.args.rows + length c.args.targets.now) _ _ fit (c.of.ensures ∙ code_done _ _ _ c.in-Ok.is) c.measure-answer.ensures

pub returns-in-Err : goal.returns-in-Err
returns-in-Err c =
    let fit : SFits w64 c.of-in-Err.result = search rules in
    handed _ (λ _. c.args.rows + length c.args.targets.now) _ _ fit (c.of-in-Err.ensures ∙ code_refused _ _ _ c.in-Err.is) c.measure-answer.ensures
