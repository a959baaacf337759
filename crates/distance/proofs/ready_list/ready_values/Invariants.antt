use mathlib.Core.Path.{◌≡◌}
use mathlib.Core.Bool.{Bool, ◌&&◌}
use mathlib.Core.List.{List}
use Prim.Native.Nat.{ℕ, ◌%◌, ◌^◌}
use lib.Dec.{eqb, ltb}
use lib.ListN.{take, drop}
use Rattle.meaning.specs.declared.Refusal.TheVariants as no
use Rattle.meaning.specs.Limits.{limit}
use Rattle.meaning.specs.Refusals.{need_each, ready_values}
use Rattle.distance.proofs.ready_list.ready_values.Given as goal

abbrev pub fit : ℕ → List ℕ → ℕ → Bool
fit b before v = eqb (v % 2) 1 && ltb v (2 ^ limit b)

abbrev pub invariant-loop-i : goal.invariant-loop-i
invariant-loop-i l = ready_values l.b l.vals ≡ need_each no.Ready (fit l.b) (take l.i l.vals) (drop l.i l.vals)
