-- `tauwaage_job` meets its contract: the text's bytes, which its buffer holds, and what was written. Assumes nothing.
use mathlib.Core.Path.{◌∙◌, subst}
use native.Mathlib.Omega.{arith}
use borrow.Author.Rules.{rules}
use mir.Syntax.{w64}
use mir.Val.{SFits}
use Rattle.std.specs.Prelude.{Result}
use Rattle.meaning.specs.declared.Refusal.{Refusal}
use Rattle.meaning.specs.Calls.{Prints}
use Prim.Native.Nat.{ℕ}
use Rattle.exports.proofs.Handed.{handed, code_mapped, number_mapped, bytes_within}
use Rattle.exports.proofs.tauwaage_job.Goals as goal

pub of-requires : goal.of-requires
of-requires c = λ n e.
    let a = number_mapped _ _ n c.map.ensures.cases e in
    omega (arith, bytes_within _ _ _ _ (subst (λ (r : Result ℕ Refusal). Prints c.args.text.now r c.args.out.now c.answer.new.out) a c.answer.ensures) c.out-1.given)

pub returns : goal.returns
returns c =
    let fit : SFits w64 c.of.result = search rules in
    handed _ (λ n. n) _ _ fit (c.of.ensures ∙ code_mapped (λ n. n) _ _ c.map.ensures.cases) c.answer.ensures
