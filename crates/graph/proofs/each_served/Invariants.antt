use mathlib.Core.Path.{◌≡◌}
use mathlib.Core.Bool.{Bool}
use mathlib.Core.List.{List, []}
use Prim.Native.Nat.{ℕ}
use lib.IntN.{ℤ}
use lib.ListN.{take, drop}
use Rattle.meaning.specs.declared.Refusal.TheVariants.{Unserved}
use Rattle.meaning.specs.Graph.{is_served}
use Rattle.meaning.specs.Refusals.{need_each}
use Rattle.graph.proofs.each_served.Given as goal

abbrev pub has_row : List ℕ → List ℤ → ℤ → Bool
has_row values before t = is_served values t

-- the answer for the list is the answer for what is left of it
abbrev pub invariant-loop-i : goal.invariant-loop-i
invariant-loop-i l = need_each Unserved (has_row l.values) [] l.ts ≡ need_each Unserved (has_row l.values) (take l.i l.ts) (drop l.i l.ts)
