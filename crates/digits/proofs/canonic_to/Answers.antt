-- `digits::canonic_to` meets its contract: 4 where there is no room; else two stores. Assumes nothing.
use Prim.Native.Nat.{◌≤◌}
use native.Mathlib.Omega.{arith}
use lib.ListN.{length}
use mir.Syntax.{w32}
use mir.ValLaws.{to_z-of_z}
use Rattle.meaning.specs.Basics.{over}
use Rattle.laws.proofs.Lists.Over.{front_two, two_words}
use Rattle.digits.proofs.FormWords.{held_words, form_refused, form_done}
use Rattle.digits.proofs.canonic_to.Goals as goal

pub returns-then-out-lt2 : goal.returns-then-out-lt2
returns-then-out-lt2 c = form_refused _ c.args.out.now (omega arith)

pub returns : goal.returns
unfolding over
returns c =
    let out = c.args.out.now in
    let room : 2 ≤ length out = omega arith in
    let w = held_words (rw (to_z-of_z w32 _ c.ranges.t) at c.places_of-places.ensures) in
    form_done _ _ out _ room (omega arith) (rw (front_two 0 out room) (two_words (omega arith) (omega arith)))
