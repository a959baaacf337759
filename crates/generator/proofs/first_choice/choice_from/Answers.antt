-- `choice_from` meets its contract: each call tries the pair at one v index. Assumes nothing.
use mathlib.Core.Path.{refl}
use lib.ListN.{length}
use Rattle.std.proofs.Common.{rules}
use Rattle.laws.proofs.Lists.FindMap.{find_map_is}
use Rattle.generator.specs.Search.{pair_choice, pair_at, from_choice}
use Rattle.generator.proofs.first_choice.choice_from.Goals as goal

pub returns : goal.returns
unfolding from_choice
returns c =
    let a = c.args in
    find_map_is (λ j. pair_choice (pair_at a.limit a.ready.now a.c a.i j)) (λ k o q e. search rules) a.i (length a.ready.now) _ refl refl c.find_map.ensures.runs
