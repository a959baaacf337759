-- `join` meets its contract: each shifted product is at most 2^61. Assumes nothing.
use mathlib.Core.Path.{◌≡◌}
use Prim.Native.Nat.{◌^◌, ◌≤◌}
use native.Mathlib.Omega.{arith}
use borrow.Author.Rules.{rules}
use lib.IntN.{pos, nat_abs, ◌+ℤ◌, ◌-ℤ◌, ◌*ℤ◌}
use mir.Syntax.{w64}
use mir.Val.{SFits}
use mir.ValLaws.{to_z-of_z}
use Rattle.laws.proofs.Whole.Integers.{abs_add, abs_sub, abs_mul, abs_fits}
use Rattle.products.proofs.RowProductLaws.{joined_minus}
use Rattle.products.proofs.row_product.join.Goals as goal
use Rattle.products.proofs.row_product.join.Goals.{After-shifted-a, After-shifted-b}

fit_a : (c : After-shifted-a) → SFits w64 c.shifted-a.result
fit_a c = search rules

fit_b : (c : After-shifted-b) → SFits w64 c.shifted-b.result
fit_b c = search rules

-- what each call gave, of the parameters themselves
a_is : (c : After-shifted-a) → c.shifted-a.result ≡ pos (2 ^ c.args.x.l1) *ℤ c.args.p
a_is c = rw (to_z-of_z w64 _ c.ranges.p) at c.shifted-a.ensures

b_is : (c : After-shifted-b) → c.shifted-b.result ≡ pos (2 ^ c.args.x.l2) *ℤ c.args.q
b_is c = rw (to_z-of_z w64 _ c.ranges.q) at c.shifted-b.ensures

-- and how large it is
a_low : (c : After-shifted-a) → nat_abs c.shifted-a.result ≤ 2 ^ 61
a_low c = rw (a_is c, abs_mul (pos (2 ^ c.args.x.l1)) c.args.p) c.requires.first

b_low : (c : After-shifted-b) → nat_abs c.shifted-b.result ≤ 2 ^ 61
b_low c = rw (b_is c, abs_mul (pos (2 ^ c.args.x.l2)) c.args.q) c.requires.second

sum_fits : (c : After-shifted-b) → SFits w64 (c.shifted-a.result +ℤ c.shifted-b.result)
sum_fits c = abs_fits _ (omega (arith, abs_add c.shifted-a.result c.shifted-b.result, a_low c.before, b_low c))

difference_fits : (c : After-shifted-b) → SFits w64 (c.shifted-a.result -ℤ c.shifted-b.result)
difference_fits c = abs_fits _ (omega (arith, abs_sub c.shifted-a.result c.shifted-b.result, a_low c.before, b_low c))

pub shifted-a-requires : goal.shifted-a-requires
shifted-a-requires c = rw (to_z-of_z w64 _ c.ranges.p) (let h = c.requires in omega arith)

pub shifted-b-requires : goal.shifted-b-requires
shifted-b-requires c = rw (to_z-of_z w64 _ c.ranges.q) (let h = c.requires in omega arith)

pub overflow_add-result : goal.overflow_add-result
overflow_add-result c =
    rw (to_z-of_z w64 _ (fit_a (goal.at.overflow_add-result c).After-shifted-a), to_z-of_z w64 _ (fit_b (goal.at.overflow_add-result c).After-shifted-b)) (sum_fits (goal.at.overflow_add-result c).After-shifted-b)

pub returns-then-x-eq0 : goal.returns-then-x-eq0
returns-then-x-eq0 c =
    rw (to_z-of_z w64 _ (fit_a (goal.at.returns-then-x-eq0 c).After-shifted-a), to_z-of_z w64 _ (fit_b (goal.at.returns-then-x-eq0 c).After-shifted-b), to_z-of_z w64 _ (sum_fits (goal.at.returns-then-x-eq0 c).After-shifted-b), a_is (goal.at.returns-then-x-eq0 c).After-shifted-a, b_is (goal.at.returns-then-x-eq0 c).After-shifted-b, c.if-x-eq0.true)

pub overflow_sub-result : goal.overflow_sub-result
overflow_sub-result c =
    rw (to_z-of_z w64 _ (fit_a (goal.at.overflow_sub-result c).After-shifted-a), to_z-of_z w64 _ (fit_b (goal.at.overflow_sub-result c).After-shifted-b)) (difference_fits (goal.at.overflow_sub-result c).After-shifted-b)

pub returns : goal.returns
returns c =
    let s = c.args in
    rw (to_z-of_z w64 _ (fit_a (goal.at.returns c).After-shifted-a), to_z-of_z w64 _ (fit_b (goal.at.returns c).After-shifted-b), to_z-of_z w64 _ (difference_fits (goal.at.returns c).After-shifted-b), a_is (goal.at.returns c).After-shifted-a, b_is (goal.at.returns c).After-shifted-b)
    (joined_minus s.p s.q s.x.l1 s.x.l2 s.x.s c.if-x-eq0.false)
