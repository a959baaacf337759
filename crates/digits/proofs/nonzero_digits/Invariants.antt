use mathlib.Core.Path.{◌≡◌}
use Prim.Native.Nat.{◌+◌, ◌≤◌}
use Rattle.meaning.specs.Digits.{canonic, nonzeros}
use Rattle.digits.proofs.nonzero_digits.Given as goal

abbrev pub invariant-loop-left : goal.invariant-loop-left
invariant-loop-left l = (l.count + nonzeros (canonic l.left) ≡ nonzeros (canonic l.n)) × (l.count ≤ 17)

abbrev pub decreases-loop-left : goal.decreases-loop-left
decreases-loop-left l = l.left
