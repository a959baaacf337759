-- `ready_values` meets its contract. The loop's invariant: the answer for the list is the answer for what is left of it. Assumes nothing.
use mathlib.Core.Path.{◌≡◌, sym, ap, ◌∙◌}
use mathlib.Core.Bool.{◌&&◌}
use Prim.Native.Nat.{◌%◌, ◌^◌}
use native.Mathlib.Omega.{arith}
use lib.Dec.{eqb, ltb}
use lib.ListN.{get_or, take}
use Rattle.meaning.specs.declared.Refusal.TheVariants as no
use Rattle.laws.proofs.Refusals.Members.{each_miss, each_hit, each_end}
use Rattle.distance.proofs.ready_list.ready_values.Invariants.{fit}
use Rattle.distance.proofs.ready_list.ready_values.Goals as goal
use Rattle.distance.proofs.ready_list.ready_values.Goals.{After-odd_below}

-- the turn's test is the definition's
test_is : (c : After-odd_below) → let a = c.args in
    c.odd_below.result ≡ fit a.b (take c.loop-i.i a.vals.now) (get_or a.vals.now c.loop-i.i 0)
test_is c =
    let v = get_or c.args.vals.now c.loop-i.i 0 in
    c.odd_below.ensures ∙ ap (λ L. eqb (v % 2) 1 && ltb v (2 ^ L)) c.limit-limit.ensures

pub returns-then-not-odd_below : goal.returns-then-not-odd_below
returns-then-not-odd_below c =
    let a = c.args in
    sym
    (c.loop-i.invariant
    ∙ each_hit no.Ready (fit a.b) 0 c.loop-i.i a.vals.now (omega arith)
    (sym (test_is (goal.at.returns-then-not-odd_below c).After-odd_below) ∙ c.if-not-odd_below.true))

pub loop-i-preserved : goal.loop-i-preserved
loop-i-preserved c =
    let a = c.args in
    c.loop-i.invariant
    ∙ each_miss no.Ready (fit a.b) 0 c.loop-i.i a.vals.now (omega arith)
    (sym (test_is (goal.at.loop-i-preserved c).After-odd_below) ∙ c.if-not-odd_below.false)

pub returns : goal.returns
returns c =
    let a = c.args in
    sym (c.loop-i.invariant ∙ each_end no.Ready (fit a.b) 0 c.loop-i.i a.vals.now (omega arith))
