-- `each_served` meets its contract. Assumes nothing.
use mathlib.Core.Path.{◌≡◌, sym, ap, ◌∙◌}
use mathlib.Core.Bool.{◌||◌}
use native.Mathlib.Omega.{arith}
use borrow.Author.Rules.{rules}
use lib.Dec.{leb}
use lib.IntN.{pos}
use lib.ListN.{get_or}
use mir.Syntax.{w32}
use mir.Val.{SFits}
use mir.ValLaws.{to_z-of_z}
use Rattle.meaning.specs.declared.Refusal.TheVariants.{Unserved}
use Rattle.meaning.specs.Basics.{has}
use Rattle.meaning.specs.Constants.{apart}
use Rattle.meaning.specs.Graph.{is_served}
use Rattle.laws.proofs.Refusals.Members.{each_miss, each_hit, each_end}
use Rattle.graph.proofs.each_served.Invariants.{has_row}
use Rattle.graph.proofs.each_served.Goals as goal
use Rattle.graph.proofs.each_served.Goals.{After-served}

-- the turn's test is the definition's, of the element itself
test_is : (c : After-served) → let a = c.args in c.served.result ≡ is_served a.values.now (get_or a.ts.now c.loop-i.i (pos 0))
unfolding is_served apart
test_is c =
    let a = c.args in
    let h : SFits w32 (get_or a.ts.now c.loop-i.i (pos 0)) = search rules in
    c.served.ensures ∙ ap (λ p. leb p.odd 1 || has a.values.now p.odd) (rw (to_z-of_z w32 _ h) at c.take_apart.ensures)

pub returns-then-not-served : goal.returns-then-not-served
returns-then-not-served c =
    sym
    (c.loop-i.invariant
    ∙ each_hit Unserved (has_row c.args.values.now) (pos 0) c.loop-i.i c.args.ts.now (omega arith)
    (sym (test_is (goal.at.returns-then-not-served c).After-served) ∙ c.if-not-served.true))

pub loop-i-preserved : goal.loop-i-preserved
loop-i-preserved c =
    c.loop-i.invariant
    ∙ each_miss Unserved (has_row c.args.values.now) (pos 0) c.loop-i.i c.args.ts.now (omega arith)
    (sym (test_is (goal.at.loop-i-preserved c).After-served) ∙ c.if-not-served.false)

pub returns : goal.returns
returns c = sym (c.loop-i.invariant ∙ each_end Unserved (has_row c.args.values.now) (pos 0) c.loop-i.i c.args.ts.now (omega arith))
