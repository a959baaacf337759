-- `choice` meets its contract: r is all the trailing zeros of |n|, and what is left is c or not. Assumes nothing.
use mathlib.Core.Path.{◌≡◌, sym, ap, ◌∙◌}
use Prim.Native.Nat.{◌/◌, ◌^◌, ◌<◌}
use native.Mathlib.Omega.{arith}
use lib.Count.{count_trailing_zeros}
use Rattle.meaning.specs.Basics.{zeros}
use Rattle.laws.proofs.Whole.Zeros.{machine_is}
use Rattle.std.specs.Prelude.{Some}
use Rattle.generator.proofs.FirstChoice.{choice_miss, choice_hit}
use Rattle.generator.proofs.first_choice.choice.Goals as goal
use Rattle.generator.proofs.first_choice.choice.Goals.{Else-m-eq0}

positive : (c : Else-m-eq0) → 0 < c.size_of-m.result
positive c = omega (arith, c.if-m-eq0.false)

counts : (c : Else-m-eq0) → count_trailing_zeros 64 c.size_of-m.result ≡ zeros c.size_of-m.result
counts c = machine_is 64 c.size_of-m.result (positive c) (omega (arith, c.size_of-m.type_inv))

pub returns-then-m-eq0 : goal.returns-then-m-eq0
returns-then-m-eq0 c =
    let a = c.args in
    choice_miss a.p a.l1 a.l2 a.s _ c.size_of-m.ensures (λ h e. omega (arith, c.if-m-eq0.true))

pub returns-then-m-r : goal.returns-then-m-r
returns-then-m-r c =
    let a = c.args in
    choice_miss a.p a.l1 a.l2 a.s _ c.size_of-m.ensures
    (λ h e. c.if-m-r.true (ap (λ k. c.size_of-m.result / 2 ^ k) (counts (goal.at.returns-then-m-r c).Else-m-eq0) ∙ e ∙ sym c.from.ensures))

pub returns : goal.returns
returns c =
    let m = c.size_of-m.result in
    let a = c.args in
    let (t, h) = c.requires in
    ap (λ r. Some (record { u = a.p.i; v = a.p.j; l1 = a.l1; l2 = a.l2; s = a.s; r = r })) (counts (goal.at.returns c).Else-m-eq0)
    ∙ choice_hit a.p a.l1 a.l2 a.s m c.size_of-m.ensures t.left t.right t.unshifted h (positive (goal.at.returns c).Else-m-eq0)
    (ap (λ k. m / 2 ^ k) (sym (counts (goal.at.returns c).Else-m-eq0)) ∙ c.if-m-r.false ∙ c.from.ensures) t.sought.below
