use mathlib.Core.Path.{◌≡◌}
use Prim.Native.Nat.{◌+◌, ◌*◌, ◌≤◌}
use lib.ListN.{drop}
use Rattle.meaning.specs.Constants.{wanted}
use Rattle.meaning.specs.Digits.{csd_sum}
use Rattle.listing.proofs.head.csd_sum.Given as goal

-- the sum so far and that of the constants left are the whole
abbrev pub invariant-loop-c : goal.invariant-loop-c
invariant-loop-c l = (l.sum ≤ 16 * l.c-index) × (csd_sum (wanted l.ts) ≡ l.sum + csd_sum (drop l.c-index (wanted l.ts)))
