use mathlib.Core.Path.{◌≡◌}
use mathlib.Core.List.{◌++◌}
use Prim.Native.Nat.{◌+◌, ◌^◌}
use Rattle.search.specs.Walk.{pairs_from, to_come, is_among}
use Rattle.search.specs.Least.{Lowers}
use Rattle.search.proofs.serving.Reach.look_side.Given as goal

abbrev pub invariant-loop-sum : goal.invariant-loop-sum
invariant-loop-sum l = record {
  walk : l.yielded ++ to_come l.sum-iterator ≡ pairs_from l.u l.v (l.u + 2 ^ l.self.limit) 0 (l.self.limit + 1);
  lowers : Lowers l.self.map.now l.self.low (λ s. is_among l.self.limit l.yielded s) l.best l.least;
}
