-- `negate` meets its contract. Assumes nothing.
use mathlib.Core.Path.{◌≡◌}
use mathlib.Core.Bool.{Bool, true, false}
use native.Mathlib.Omega.{arith}
use lib.IntN.{ℤ, pos, ◌-ℤ◌, +ℤ_idl}
use mir.Syntax.{w64}
use mir.Val.{SFits}
use mir.ValLaws.{to_z-of_z}
use Rattle.laws.proofs.Whole.Integers.{abs_neg, abs_fits}
use Rattle.meaning.specs.Products.{negated_if}
use Rattle.products.proofs.row_product.negate.Goals as goal
use Rattle.products.proofs.row_product.negate.Goals.{Start}

neg_fits : (c : Start) → SFits w64 (pos 0 -ℤ c.args.z)
neg_fits c = abs_fits _ (rw +ℤ_idl (omega (arith, abs_neg c.args.z)))

pub overflow_sub-result : goal.overflow_sub-result
overflow_sub-result c = rw (to_z-of_z w64 _ c.ranges.z) (neg_fits (goal.at.overflow_sub-result c).Start)

-- whether n is negative, as code has asked for it
asked_yes : (n : Bool) (z : ℤ) → n ≡ true → pos 0 -ℤ z ≡ negated_if n z
asked_yes n z e = rw e (+ℤ_idl _)

asked_no : (n : Bool) (z : ℤ) → n ≡ false → z ≡ negated_if n z
asked_no n z e = rw e

pub returns-then-negative : goal.returns-then-negative
returns-then-negative c = rw (to_z-of_z w64 _ c.ranges.z, to_z-of_z w64 _ (neg_fits (goal.at.returns-then-negative c).Start)) (asked_yes c.args.negative _ c.if-negative.true)

pub returns : goal.returns
returns c = rw (to_z-of_z w64 _ c.ranges.z) (asked_no c.args.negative _ c.if-negative.false)
