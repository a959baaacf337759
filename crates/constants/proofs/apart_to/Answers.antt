-- `apart_to` meets its contract: 4 where there is no room; else three stores. Assumes nothing.
use mathlib.Core.Path.{◌≡◌, refl, sym, ap, subst⁻¹}
use Prim.Native.Nat.{◌≤◌}
use native.Mathlib.Omega.{arith}
use lib.IntN.{pos}
use lib.ListN.{length, length-set}
use mir.Syntax.{w32}
use mir.Val.{SFits}
use mir.ValLaws.{to_z-of_z}
use Rattle.meaning.specs.declared.Refusal.TheVariants as no
use Rattle.meaning.specs.Basics.{over}
use Rattle.meaning.specs.Constants.{apart}
use Rattle.meaning.specs.Refusals.{apart_told, apart_written}
use Rattle.laws.proofs.Refusals.Stages.{refused_done, accepted_done, short_room, enough_room}
use Rattle.laws.proofs.Lists.Over.{front_three, three_words}
use Rattle.constants.proofs.Laws.{PartsFit, parts_fit}
use Rattle.constants.proofs.apart_to.Goals as goal
use Rattle.constants.proofs.apart_to.Goals.{After-take_apart-parts}

-- what was found, of t itself: a signed argument comes back through its bits
found : (c : After-take_apart-parts) → c.take_apart-parts.result ≡ apart c.args.t
found c = rw (to_z-of_z w32 _ c.ranges.t) at c.take_apart-parts.ensures

fit : (c : After-take_apart-parts) → PartsFit c.take_apart-parts.result
fit c = subst⁻¹ PartsFit (found c) (parts_fit _ c.ranges.t)

pub returns-then-out-lt3 : goal.returns-then-out-lt3
unfolding apart_told apart_written
returns-then-out-lt3 c = refused_done _ _ no.Buffer _ _ (sym (short_room 3 (length c.args.out.now) (omega arith))) refl

pub overflow_cast-out : goal.overflow_cast-out
overflow_cast-out c = let f = fit (goal.at.overflow_cast-out c).After-take_apart-parts in omega arith

pub bounds-out-1 : goal.bounds-out-1
bounds-out-1 c = simp length-set (omega arith)

pub overflow_cast-out-2 : goal.overflow_cast-out-2
overflow_cast-out-2 c = let f = fit (goal.at.overflow_cast-out-2 c).After-take_apart-parts in omega arith

pub returns : goal.returns
unfolding apart_told apart_written over
returns c =
    let out = c.args.out.now in
    let room : 3 ≤ length out = omega arith in
    let f = fit (goal.at.returns c).After-take_apart-parts in
    let shift = ap (λ p. p.shift) (found (goal.at.returns c).After-take_apart-parts) in
    let odd = ap (λ p. p.odd) (found (goal.at.returns c).After-take_apart-parts) in
    let low : SFits w32 (pos c.take_apart-parts.result.shift) = omega arith in
    let high : SFits w32 (pos c.take_apart-parts.result.odd) = omega arith in
    accepted_done _ _ _ _ (enough_room 3 _ room)
    (rw (front_three (pos 0) out room, to_z-of_z w32 _ f.sign, to_z-of_z w32 _ low, to_z-of_z w32 _ high)
    (three_words (ap (λ p. p.sign) (found (goal.at.returns c).After-take_apart-parts)) (ap pos (omega arith)) (ap pos (omega arith))))
