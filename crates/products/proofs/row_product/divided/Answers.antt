-- `divided` meets its contract: a quotient is no larger than what is divided. Assumes nothing.
use mathlib.Core.Path.{◌≡◌, ap, ◌∙◌}
use Prim.Native.Nat.{◌^◌}
use native.Mathlib.Omega.{arith}
use lib.IntN.{pos}
use lib.Pow.{pow_pos}
use lib.Signed.{quot_z}
use mir.Syntax.{w64}
use mir.Val.{SFits, to_z}
use mir.ValLaws.{to_z-of_z, to_z_pos}
use Rattle.laws.proofs.Whole.Integers.{abs_fits, abs_quot}
use Rattle.products.proofs.row_product.divided.Goals as goal
use Rattle.products.proofs.row_product.divided.Goals.{After-power, Start}

power_is : (c : After-power) → to_z w64 c.power.result ≡ pos (2 ^ c.args.r)
power_is c = to_z_pos w64 _ (omega (arith, c.power.ensures)) ∙ ap pos c.power.ensures.0

quotient_fits : (c : Start) → SFits w64 (quot_z c.args.z (pos (2 ^ c.args.r)))
quotient_fits c = abs_fits _ (omega (arith, abs_quot c.args.z (2 ^ c.args.r)))

pub nonzero_div-result : goal.nonzero_div-result
nonzero_div-result c = rw (to_z-of_z w64 _ c.ranges.z, power_is c) (omega (arith, c.power.ensures, pow_pos c.args.r), quotient_fits (goal.at.nonzero_div-result c).Start)

pub returns : goal.returns
returns c = rw (to_z-of_z w64 _ c.ranges.z, power_is c) (to_z-of_z w64 _ (quotient_fits (goal.at.returns c).Start))
