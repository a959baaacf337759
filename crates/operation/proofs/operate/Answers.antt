-- `operate` meets its contract. Assumes nothing.
use mathlib.Core.Path.{◌≡◌, ◌∙◌, ap, sym}
use mathlib.Core.Bool.{true, cond}
use native.Mathlib.Omega.{arith}
use Prim.Native.Nat.{◌≤◌}
use lib.Dec.{leb→le}
use Rattle.std.specs.Prelude.{None}
use Rattle.meaning.specs.Basics.{all}
use Rattle.meaning.specs.Limits.{bit_tests, limit}
use Rattle.meaning.specs.Operation.{operated, operated_under}
use Rattle.laws.proofs.Lists.Tests.{all_of, T_of}
use Rattle.operation.proofs.operate.Goals as goal
use Rattle.operation.proofs.operate.Goals.{Else-not-within}

in_range : (c : Else-not-within) → all (bit_tests c.args.b) ≡ true
in_range c = sym c.within.ensures ∙ c.if-not-within.false

small : (c : Else-not-within) → c.args.b ≤ 16
small c = leb→le _ _ (all_of (bit_tests c.args.b) (T_of (in_range c))).1.0

pub returns-then-not-within : goal.returns-then-not-within
unfolding operated_under
returns-then-not-within c =
    let s = c.args in
    sym (ap (λ t. cond t (operated (limit s.b) s.u s.v s.l1 s.l2 s.s) None) (sym c.within.ensures ∙ c.if-not-within.true))

pub limit-limit-requires : goal.limit-limit-requires
limit-limit-requires c = small c

pub made-requires : goal.made-requires
made-requires c = omega (arith, small (goal.at.made-requires c).Else-not-within, c.limit-limit.ensures)

pub returns : goal.returns
unfolding operated_under
returns c =
    let s = c.args in
    c.made.ensures
    ∙ ap (λ L. operated L s.u s.v s.l1 s.l2 s.s) c.limit-limit.ensures
    ∙ sym (ap (λ t. cond t (operated (limit s.b) s.u s.v s.l1 s.l2 s.s) None) (in_range (goal.at.returns c).Else-not-within))
