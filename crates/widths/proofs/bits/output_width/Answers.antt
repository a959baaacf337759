-- `output_width` meets its contract: 32 bits of input and at most 32 more. Assumes nothing.
use mathlib.Core.Path.{◌≡◌, sym, ap, ◌∙◌}
use mathlib.Core.Bool.{cond}
use Prim.Native.Nat.{◌+◌, ◌≤◌}
use native.Mathlib.Omega.{arith}
use borrow.Author.Tests.{ne_eqb}
use lib.IntN.{nat_abs}
use mir.Syntax.{w32}
use mir.ValLaws.{to_z-of_z}
use Rattle.meaning.specs.Widths.{extra_bits}
use Rattle.laws.proofs.Widths.Extra.{extra_small}
use Rattle.widths.proofs.bits.output_width.Goals as goal
use Rattle.widths.proofs.bits.output_width.Goals.{After-magnitude-m}

mag_is : (c : After-magnitude-m) → c.magnitude-m.result ≡ nat_abs c.args.t
mag_is c = rw (to_z-of_z w32 _ c.ranges.t) at c.magnitude-m.ensures

pub overflow_add-result : goal.overflow_add-result
overflow_add-result c =
    let m = c.magnitude-m.result in
    let h : extra_bits m ≤ 32 = extra_small m (omega arith) in
    omega (arith, c.extra_bits.ensures)

pub returns : goal.returns
returns c =
    let a = c.args in
    let e = mag_is (goal.at.returns c).After-magnitude-m in
    ap (λ k. a.input + k) (c.extra_bits.ensures ∙ ap extra_bits e)
    ∙ sym (ap (λ b. cond b 1 (a.input + extra_bits (nat_abs a.t))) (ne_eqb _ 0 (λ z. let h : c.magnitude-m.result ≡ 0 = e ∙ z in omega arith)))
