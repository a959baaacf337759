-- `whole_of` meets its contract: both shifted operands are below 2 ^ 62, so that neither their sum nor their difference leaves 64 bits. Assumes nothing.
use mathlib.Core.Path.{◌≡◌}
use native.Mathlib.Omega.{arith}
use lib.IntN.{pos, ◌+ℤ◌, ◌-ℤ◌}
use mir.Syntax.{w64}
use mir.Val.{SFits, to_z}
use mir.ValLaws.{to_z-of_z, to_z_pos}
use Rattle.laws.proofs.Whole.Integers.{abs_add, abs_sub, abs_fits}
use Rattle.operation.proofs.Laws.{whole_minus}
use Rattle.operation.proofs.whole_of.Goals as goal
use Rattle.operation.proofs.whole_of.Goals.{After-shifted-a, After-shifted-b}

a_is : (c : After-shifted-a) → to_z w64 c.shifted-a.result ≡ pos c.shifted-a.result
a_is c = to_z_pos w64 _ (omega (arith, c.shifted-a.ensures))

b_is : (c : After-shifted-b) → to_z w64 c.shifted-b.result ≡ pos c.shifted-b.result
b_is c = to_z_pos w64 _ (omega (arith, c.shifted-b.ensures))

add_fits : (c : After-shifted-b) → SFits w64 (pos c.shifted-a.result +ℤ pos c.shifted-b.result)
add_fits c =
    abs_fits _
    (omega (arith, c.shifted-a.ensures, c.shifted-b.ensures, abs_add (pos c.shifted-a.result) (pos c.shifted-b.result)))

sub_fits : (c : After-shifted-b) → SFits w64 (pos c.shifted-a.result -ℤ pos c.shifted-b.result)
sub_fits c =
    abs_fits _
    (omega (arith, c.shifted-a.ensures, c.shifted-b.ensures, abs_sub (pos c.shifted-a.result) (pos c.shifted-b.result)))

pub overflow_add-result : goal.overflow_add-result
overflow_add-result c = rw (a_is (goal.at.overflow_add-result c).After-shifted-a, b_is (goal.at.overflow_add-result c).After-shifted-b) (add_fits (goal.at.overflow_add-result c).After-shifted-b)

pub returns-then-s-eq0 : goal.returns-then-s-eq0
returns-then-s-eq0 c =
    rw (a_is (goal.at.returns-then-s-eq0 c).After-shifted-a, b_is (goal.at.returns-then-s-eq0 c).After-shifted-b, to_z-of_z w64 _ (add_fits (goal.at.returns-then-s-eq0 c).After-shifted-b), c.shifted-a.ensures.0, c.shifted-b.ensures.0, c.if-s-eq0.true)

pub overflow_sub-result : goal.overflow_sub-result
overflow_sub-result c = rw (a_is (goal.at.overflow_sub-result c).After-shifted-a, b_is (goal.at.overflow_sub-result c).After-shifted-b) (sub_fits (goal.at.overflow_sub-result c).After-shifted-b)

pub returns : goal.returns
returns c =
    rw (a_is (goal.at.returns c).After-shifted-a, b_is (goal.at.returns c).After-shifted-b, to_z-of_z w64 _ (sub_fits (goal.at.returns c).After-shifted-b), c.shifted-a.ensures.0, c.shifted-b.ensures.0)
    (whole_minus _ _ _ _ _ c.if-s-eq0.false)
