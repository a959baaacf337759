-- `shifted` meets its contract: by its requirement the product is at most 2^62. Assumes nothing.
use mathlib.Core.Path.{◌≡◌, ap, ◌∙◌}
use Prim.Native.Nat.{◌^◌}
use native.Mathlib.Omega.{arith}
use lib.IntN.{pos, ◌*ℤ◌}
use mir.Syntax.{w64}
use mir.Val.{SFits, to_z}
use mir.ValLaws.{to_z-of_z, to_z_pos}
use Rattle.laws.proofs.Whole.Integers.{abs_mul, abs_fits}
use Rattle.products.proofs.row_product.shifted.Goals as goal
use Rattle.products.proofs.row_product.shifted.Goals.{After-power, Start}

mul_fits : (c : Start) → SFits w64 (pos (2 ^ c.args.l) *ℤ c.args.p)
mul_fits c = abs_fits _ (omega (arith, abs_mul (pos (2 ^ c.args.l)) c.args.p))

power_is : (c : After-power) → to_z w64 c.power.result ≡ pos (2 ^ c.args.l)
power_is c = to_z_pos w64 _ (omega (arith, c.power.ensures)) ∙ ap pos c.power.ensures.0

pub overflow_mul-result : goal.overflow_mul-result
overflow_mul-result c = rw (to_z-of_z w64 _ c.ranges.p, power_is c) (mul_fits (goal.at.overflow_mul-result c).Start)

pub returns : goal.returns
returns c = rw (to_z-of_z w64 _ c.ranges.p, power_is c) (to_z-of_z w64 _ (mul_fits (goal.at.returns c).Start))
