-- `made` meets its contract: the shifts first, then what n comes to. Assumes nothing.
use mathlib.Core.Path.{◌≡◌, ◌∙◌, ap, sym}
use mathlib.Core.Bool.{true}
use mathlib.Core.List.{[], ◌∷◌}
use Prim.Native.Nat.{min}
use native.Mathlib.Omega.{arith}
use borrow.Author.Rules.{rules}
use lib.Dec.{leb, eqb, leb→le}
use mir.Syntax.{w64}
use mir.Val.{SFits}
use mir.ValLaws.{to_z-of_z}
use Rattle.meaning.specs.Basics.{all}
use Rattle.laws.proofs.Lists.Tests.{all_of, T_of}
use Rattle.operation.specs.Code.{outcome_of}
use Rattle.operation.proofs.Laws.{operated_not, operated_by}
use Rattle.operation.proofs.made.Goals as goal
use Rattle.operation.proofs.made.Goals.{After-whole_of-n, Else-not-shifts_fit}

shifts : (c : Else-not-shifts_fit) → let s = c.args in all (leb s.l1 s.limit ∷ leb s.l2 s.limit ∷ leb s.s 1 ∷ eqb (min s.l1 s.l2) 0 ∷ []) ≡ true
shifts c = sym c.shifts_fit.ensures ∙ c.if-not-shifts_fit.false

pub returns-then-not-shifts_fit : goal.returns-then-not-shifts_fit
returns-then-not-shifts_fit c = sym (operated_not _ _ _ _ _ _ (sym c.shifts_fit.ensures ∙ c.if-not-shifts_fit.true))

pub whole_of-n-requires : goal.whole_of-n-requires
whole_of-n-requires c =
    let s = c.args in
    let p = all_of (leb s.l1 s.limit ∷ leb s.l2 s.limit ∷ leb s.s 1 ∷ eqb (min s.l1 s.l2) 0 ∷ []) (T_of (shifts c)) in
    omega (arith, leb→le)

fit : (c : After-whole_of-n) → SFits w64 c.whole_of-n.result
fit c = search rules

pub returns : goal.returns
returns c =
    let s = c.args in
    (rw (to_z-of_z w64 _ (fit (goal.at.returns c).After-whole_of-n)) at c.outcome_of.ensures)
    ∙ ap (outcome_of s.limit) c.whole_of-n.ensures
    ∙ sym (operated_by _ _ _ _ _ _ (shifts (goal.at.returns c).Else-not-shifts_fit))
