-- `output_widths` meets its contract. The loop's invariant: the widths of the targets passed stand over the slice from a place on. Assumes nothing.
use mathlib.Core.Path.{◌≡◌, sym, ap, ap₂, ◌∙◌}
use mathlib.Core.List.{map}
use Prim.Native.Nat.{◌+◌}
use native.Mathlib.Omega.{arith}
use lib.IntN.{pos}
use lib.ListN.{length, take, set, get_or}
use lib.Seq.{take-length}
use mir.Syntax.{w32}
use borrow.Author.Rules.{rules}
use mir.Val.{SFits}
use mir.ValLaws.{to_z-of_z}
use Rattle.meaning.specs.Basics.{over_at}
use Rattle.meaning.specs.Widths.{output_width}
use Rattle.laws.proofs.Lists.Over.{over_at_none, over_at_more}
use Rattle.widths.proofs.output_widths.Goals as goal
use Rattle.widths.proofs.output_widths.Goals.{After-output_width}

pub loop-i-init : goal.loop-i-init
loop-i-init c = sym (over_at_none c.args.from c.args.out.now)

-- the width that the turn stores, of the element itself
width_is : (c : After-output_width) → let a = c.args in
    c.output_width.result ≡ output_width a.input (get_or a.ts.now c.loop-i.i (pos 0))
width_is c =
    let h : SFits w32 (get_or c.args.ts.now c.loop-i.i (pos 0)) = search rules in
    rw (to_z-of_z w32 _ h) at c.output_width.ensures

pub loop-i-preserved : goal.loop-i-preserved
loop-i-preserved c =
    let a = c.args in
    ap₂ (λ l v. set l (a.from + c.loop-i.i) v) c.loop-i.invariant (width_is c)
    ∙ over_at_more (output_width a.input) a.ts.now (pos 0) a.from a.out.now c.loop-i.i (omega arith) (omega arith)

pub returns : goal.returns
returns c =
    let a = c.args in
    let e : c.loop-i.i ≡ length a.ts.now = omega arith in
    c.loop-i.invariant
    ∙ ap (λ l. over_at a.from (map (output_width a.input) l) a.out.now) (ap (λ k. take k a.ts.now) e ∙ take-length a.ts.now)
