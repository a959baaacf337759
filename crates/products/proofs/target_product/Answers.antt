-- `target_product` meets its contract: the sign is at most 1 in magnitude. Assumes nothing.
use mathlib.Core.Path.{◌≡◌, ap, ◌∙◌}
use Prim.Native.Nat.{◌^◌, ◌≤◌}
use native.Mathlib.Omega.{arith}
use borrow.Author.Rules.{rules}
use lib.IntN.{pos, nat_abs, ◌*ℤ◌}
use lib.ListN.{get_or}
use mir.Syntax.{w32, w64}
use mir.Val.{SFits, to_z, of_z}
use mir.ValLaws.{to_z-of_z}
use Rattle.laws.proofs.Whole.Integers.{abs_mul, abs_fits}
use Rattle.laws.proofs.Whole.Signed.{wide}
use Rattle.meaning.specs.Constants.{sign_of, shift_of, odd_of, apart}
use Rattle.meaning.specs.Graph.{output_index}
use Rattle.meaning.specs.Products.{target_product}
use Rattle.products.proofs.Ranges.{Reached, reached_of, sign_fits, signed_low, shift_low}
use Rattle.products.proofs.target_product.Goals as goal
use Rattle.products.proofs.target_product.Goals.{After-output_index-index, After-p-1, After-shifted, After-take_apart-parts, Start}

-- what the requirement says of the target's index
reached : (c : Start) → let s = c.args in Reached s.values.now s.made.now s.t
reached c = reached_of _ _ _ c.ranges.t c.requires.1 c.requires.0

-- the parts of the target itself
parts_are : (c : After-take_apart-parts) → c.take_apart-parts.result ≡ apart c.args.t
parts_are c = rw (to_z-of_z w32 _ c.ranges.t) at c.take_apart-parts.ensures

sign_is : (c : After-take_apart-parts) → c.take_apart-parts.result.sign ≡ sign_of c.args.t
unfolding apart
sign_is c = ap (λ p. p.sign) (parts_are c)

shift_is : (c : After-take_apart-parts) → c.take_apart-parts.result.shift ≡ shift_of c.args.t
unfolding apart
shift_is c = ap (λ p. p.shift) (parts_are c)

at_is : (c : After-output_index-index) → let s = c.args in c.output_index-index.result ≡ output_index s.values.now (odd_of s.t)
unfolding apart
at_is c = let s = c.args in c.output_index-index.ensures ∙ ap (λ p. output_index s.values.now p.odd) (parts_are (goal.at.offset_bounds-made-index c).After-take_apart-parts)

-- the product at that index
p_is : (c : After-p-1) → let z = get_or c.args.made.now c.output_index-index.result (pos 0) in to_z w64 (of_z w64 z) ≡ z
p_is c = to_z-of_z w64 _ (record { sfits = c.p-1.given })

-- 2^shift times it
scaled_is : (c : After-shifted) → let s = c.args in
    c.shifted.result ≡ pos (2 ^ shift_of s.t) *ℤ get_or s.made.now (output_index s.values.now (odd_of s.t)) (pos 0)
scaled_is c =
    rw (p_is (goal.at.overflow_mul-result c).After-p-1, shift_is (goal.at.overflow_mul-result c).After-take_apart-parts, at_is (goal.at.overflow_mul-result c).After-output_index-index) at c.shifted.ensures

scaled_low : (c : After-shifted) → nat_abs c.shifted.result ≤ 2 ^ 62
scaled_low c =
    rw (scaled_is c, abs_mul (pos (2 ^ shift_of c.args.t)) _) (reached (goal.at.overflow_mul-result c).Start).low

fit : (c : After-shifted) → SFits w64 c.shifted.result
fit c = search rules

-- the sign that was read
read_sign : (c : After-take_apart-parts) → to_z w32 (of_z w32 c.take_apart-parts.result.sign) ≡ sign_of c.args.t
read_sign c = rw (sign_is c) (to_z-of_z w32 _ (sign_fits c.args.t))

product_fits : (c : After-shifted) → SFits w64 (sign_of c.args.t *ℤ c.shifted.result)
product_fits c =
    abs_fits _ (omega (arith, scaled_low c, signed_low c.args.t c.shifted.result))

pub bounds-made-index : goal.bounds-made-index
bounds-made-index c = rw (at_is c) (reached (goal.at.bounds-made-index c).Start).inside

pub offset_bounds-made-index : goal.offset_bounds-made-index
offset_bounds-made-index c = omega (arith, bounds-made-index c)

pub shifted-requires : goal.shifted-requires
shifted-requires c =
    rw (p_is (goal.at.shifted-requires c).After-p-1, shift_is (goal.at.shifted-requires c).After-take_apart-parts, at_is (goal.at.shifted-requires c).After-output_index-index) (shift_low c.args.t c.ranges.t, (reached (goal.at.shifted-requires c).Start).low)

pub overflow_mul-result : goal.overflow_mul-result
overflow_mul-result c =
    rw (c.from.ensures, read_sign (goal.at.overflow_mul-result c).After-take_apart-parts, to_z-of_z w64 _ (wide _ (sign_fits c.args.t)), to_z-of_z w64 _ (fit c)) (product_fits c)

pub returns : goal.returns
unfolding target_product
returns c =
    rw (c.from.ensures, read_sign (goal.at.returns c).After-take_apart-parts, to_z-of_z w64 _ (wide _ (sign_fits c.args.t)), to_z-of_z w64 _ (fit c), to_z-of_z w64 _ (product_fits c), scaled_is c)
