-- `choice_for` meets its contract: each call tries one u index. Assumes nothing.
use mathlib.Core.Path.{refl, ◌∙◌}
use native.Mathlib.Omega.{arith}
use lib.ListN.{length}
use Rattle.std.proofs.Common.{rules}
use Rattle.laws.proofs.Lists.FindMap.{find_map_is}
use Rattle.generator.specs.Search.{from_choice}
use Rattle.generator.proofs.FirstChoice.{choice_is}
use Rattle.generator.proofs.first_choice.choice_for.Goals as goal

pub returns : goal.returns
returns c =
    let a = c.args in
    let n = length a.ready.now in
    find_map_is (λ i. from_choice a.limit a.ready.now a.c i) (λ k o q e. search rules) 0 n n refl (omega arith) c.find_map.ensures.runs
    ∙ choice_is a.limit a.ready.now a.c
