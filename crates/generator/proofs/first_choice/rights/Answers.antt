-- `rights` meets its contract: each call tries one shift. Assumes nothing.
use mathlib.Core.Path.{refl}
use Prim.Native.Nat.{◌+◌}
use native.Mathlib.Omega.{arith}
use Rattle.std.proofs.Common.{rules}
use Rattle.laws.proofs.Lists.FindMap.{find_map_is}
use Rattle.generator.specs.Search.{sign_choice, right_choice}
use Rattle.generator.proofs.first_choice.rights.Goals as goal

pub returns : goal.returns
unfolding right_choice
returns c =
    let p = c.args.p in
    find_map_is (λ l. sign_choice p 0 l) (λ k o q e. search rules) 0 (p.limit + 1) (p.limit + 1) refl (omega arith) c.find_map.ensures.runs
