use mathlib.Core.Path.{◌≡◌}
use mathlib.Core.Bool.{Bool}
use mathlib.Core.List.{List}
use Prim.Native.Nat.{ℕ, ◌^◌}
use lib.Dec.{ltb}
use lib.IntN.{ℤ}
use lib.ListN.{take, drop}
use Rattle.meaning.specs.declared.Refusal.TheVariants.{OddPart}
use Rattle.meaning.specs.Constants.{odd_of}
use Rattle.meaning.specs.Refusals.{need_each, odd_parts}
use Rattle.constants.proofs.odd_parts.Given as goal

abbrev pub small : ℕ → List ℤ → ℤ → Bool
small b before t = ltb (odd_of t) (2 ^ b)

-- the answer for the list is the answer for what is left of it
abbrev pub invariant-loop-i : goal.invariant-loop-i
invariant-loop-i l = odd_parts l.b l.ts ≡ need_each OddPart (small l.b) (take l.i l.ts) (drop l.i l.ts)
