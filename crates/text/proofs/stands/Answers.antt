-- `stands` meets its contract. Assumes nothing.
use Rattle.std.proofs.Common.{◌≡◌, ◌∙◌, ap, drop, eqb, arith}
use Rattle.std.proofs.lemmas.Grind.{common_steps}
use Rattle.text.proofs.Places.{starts_is}
use Rattle.std.specs.List.{starts_with}
use Rattle.text.proofs.stands.Goals as goal

pub returns : goal.returns
returns c =
    let e : c.unwrap_or_default.result.now ≡ drop c.args.from c.args.s.now = let a = c.get.ensures.lookup in let h = c.unwrap_or_default.ensures in grind (arith, common_steps) in
    c.starts_with.ensures.value ∙ ap (λ xs. starts_with eqb xs c.args.text.now) e ∙ starts_is _ _ _
