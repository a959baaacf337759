-- `outcome_of` meets its contract: the machine's count of trailing zeros is r. Assumes nothing.
use mathlib.Core.Path.{◌≡◌, ◌∙◌, sym}
use Prim.Native.Nat.{ℕ, ◌*◌, ◌%◌, ◌^◌, ◌<◌, ◌≤◌}
use native.Mathlib.Omega.{arith}
use lib.Count.{count_trailing_zeros}
use lib.IntN.{nat_abs}
use lib.Pow.{shl_exact, pow_mono}
use mir.Syntax.{w64}
use mir.ValLaws.{to_z-of_z}
use Rattle.meaning.specs.Basics.{zeros}
use Rattle.laws.proofs.Whole.Zeros.{machine_is, zeros_low}
use Rattle.operation.proofs.Laws.{outcome_made, outcome_none, outcome_over}
use Rattle.operation.proofs.outcome_of.Goals as goal
use Rattle.operation.proofs.outcome_of.Goals.{After-magnitude64-m, Else-m-eq0}

mag_is : (c : After-magnitude64-m) → c.magnitude64-m.result ≡ nat_abs c.args.n
mag_is c = rw (to_z-of_z w64 _ c.ranges.n) at c.magnitude64-m.ensures

count : (c : Else-m-eq0) → count_trailing_zeros 64 c.magnitude64-m.result ≡ zeros c.magnitude64-m.result
count c = machine_is 64 c.magnitude64-m.result (omega (arith, c.if-m-eq0.false)) (omega arith)

below : (c : Else-m-eq0) → count_trailing_zeros 64 c.magnitude64-m.result < 64
below c = rw (count c) (zeros_low 64 c.magnitude64-m.result (omega (arith, c.if-m-eq0.false)) (omega arith))

-- 1 << limit
power : (l : ℕ) → l ≤ 19 → 1 * 2 ^ l % 2 ^ 64 ≡ 2 ^ l
power l h = shl_exact 1 l 64 (omega arith) (omega arith) ∙ omega arith

pub returns-then-m-eq0 : goal.returns-then-m-eq0
returns-then-m-eq0 c = sym (outcome_none _ _ (sym (mag_is (goal.at.returns-then-m-eq0 c).After-magnitude64-m) ∙ c.if-m-eq0.true))

pub overflow_cast-value : goal.overflow_cast-value
overflow_cast-value c = omega (arith, below c)

pub overflow_shr-value : goal.overflow_shr-value
overflow_shr-value c = below c

pub returns-then-limit-value : goal.returns-then-limit-value
returns-then-limit-value c =
    sym (outcome_over _ _ (rw (count (goal.at.returns-then-limit-value c).Else-m-eq0, mag_is (goal.at.returns-then-limit-value c).After-magnitude64-m, power _ c.requires) at c.if-limit-value.true))

pub overflow_cast-result : goal.overflow_cast-result
overflow_cast-result c =
    let l = c.args.limit in
    omega (arith, rw (power l c.requires) at c.if-limit-value.false, pow_mono {i = l} {j = 19} c.requires)

pub returns : goal.returns
returns c =
    rw (to_z-of_z w64 _ c.ranges.n, count (goal.at.returns c).Else-m-eq0, mag_is (goal.at.returns c).After-magnitude64-m)
    (sym (outcome_made c.args.limit c.args.n (omega (arith, mag_is (goal.at.returns c).After-magnitude64-m, c.if-m-eq0.false)) (rw (count (goal.at.returns c).Else-m-eq0, mag_is (goal.at.returns c).After-magnitude64-m, power _ c.requires) at c.if-limit-value.false)))
