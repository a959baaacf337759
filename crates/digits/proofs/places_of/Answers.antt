-- `digits::places_of` meets its contract: the words of the magnitude, exchanged where t is negative. Assumes nothing.
use native.Mathlib.Omega.{arith}
use mir.Syntax.{w32}
use mir.ValLaws.{to_z-of_z}
use Rattle.digits.proofs.FormWords.{Found, found_fits, found_above, found_below, words_held}
use Rattle.digits.proofs.places_of.Goals as goal
use Rattle.digits.proofs.places_of.Goals.{After-minus_places-low}

-- of t itself: a signed argument comes back through its bits
found : (c : After-minus_places-low) → Found c.args.t c.magnitude-n.result c.minus_places-low.result c.nonzero_digits-count.result
found c =
    record { size = rw (to_z-of_z w32 _ c.ranges.t) at c.magnitude-n.ensures; minus = c.minus_places-low.ensures; digits = c.nonzero_digits-count.ensures }

pub overflow_add-high : goal.overflow_add-high
overflow_add-high c = omega (arith, found_fits _ _ _ _ (found c) c.ranges.t)

pub returns-then-t-lt0 : goal.returns-then-t-lt0
returns-then-t-lt0 c =
    let w = found_below _ _ _ _ (found (goal.at.returns-then-t-lt0 c).After-minus_places-low) (rw (to_z-of_z w32 _ c.ranges.t) at c.if-t-lt0.true) in
    words_held (record { plus = omega arith; minus = omega arith; digits = omega arith })

pub returns-else-t-lt0 : goal.returns-else-t-lt0
returns-else-t-lt0 c =
    let w = found_above _ _ _ _ (found (goal.at.returns-else-t-lt0 c).After-minus_places-low) (rw (to_z-of_z w32 _ c.ranges.t) at c.if-t-lt0.false) in
    words_held (record { plus = omega arith; minus = omega arith; digits = omega arith })
