-- `cost` meets its contract: a number of 32 bits has at most 17 nonzero digits, and a positive one has some. Assumes nothing.
use mathlib.Core.Path.{ap}
use Prim.Native.Nat.{ℕ, ◌-◌}
use native.Mathlib.Omega.{arith}
use Rattle.laws.proofs.Digits.Chain.{count_is}
use Rattle.laws.proofs.Digits.Count.{few_seventeen}
use Rattle.listing.proofs.head.cost.Goals as goal

pub overflow_sub-result : goal.overflow_sub-result
overflow_sub-result c = omega (arith, count_is c.args.c c.requires)

pub returns : goal.returns
returns c =
    let e = c.nonzero_digits.ensures in
    (ap (λ (d : ℕ). d - 1) e, omega (arith, few_seventeen c.args.c c.ranges.c.fits))
