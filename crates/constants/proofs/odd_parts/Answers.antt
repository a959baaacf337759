-- `odd_parts` meets its contract. Assumes nothing.
use mathlib.Core.Path.{◌≡◌, sym, ap, ◌∙◌}
use Prim.Native.Nat.{ℕ, ◌*◌, ◌%◌, ◌^◌, ◌≤◌}
use native.Mathlib.Omega.{arith}
use borrow.Author.Rules.{rules}
use borrow.Author.Tests.{lt-ltb, le-ltb}
use lib.IntN.{pos}
use lib.ListN.{get_or}
use lib.Pow.{shl_exact}
use mir.Syntax.{w32}
use mir.Val.{SFits}
use mir.ValLaws.{to_z-of_z}
use Rattle.meaning.specs.declared.Refusal.TheVariants.{OddPart}
use Rattle.meaning.specs.Constants.{odd_of, apart}
use Rattle.laws.proofs.Refusals.Members.{each_miss, each_hit, each_end}
use Rattle.constants.proofs.odd_parts.Invariants.{small}
use Rattle.constants.proofs.odd_parts.Goals as goal
use Rattle.constants.proofs.odd_parts.Goals.{After-take_apart}

-- 1 << b
power : (b : ℕ) → b ≤ 16 → 1 * 2 ^ b % 2 ^ 32 ≡ 2 ^ b
power b h = shl_exact 1 b 32 (omega arith) (omega arith) ∙ omega arith

-- the odd part that the turn finds, of the element itself
odd_is : (c : After-take_apart) → c.take_apart.result.odd ≡ odd_of (get_or c.args.ts.now c.loop-i.i (pos 0))
unfolding apart
odd_is c =
    let h : SFits w32 (get_or c.args.ts.now c.loop-i.i (pos 0)) = search rules in
    ap (λ p. p.odd) (rw (to_z-of_z w32 _ h) at c.take_apart.ensures)

pub returns-then-top-take_apart : goal.returns-then-top-take_apart
returns-then-top-take_apart c =
    sym
    (c.loop-i.invariant
    ∙ each_hit OddPart (small c.args.b) (pos 0) c.loop-i.i c.args.ts.now (omega arith)
    (le-ltb _ _ (rw (odd_is (goal.at.returns-then-top-take_apart c).After-take_apart, power _ c.requires.0) at c.if-top-take_apart.true)))

pub loop-i-preserved : goal.loop-i-preserved
loop-i-preserved c =
    c.loop-i.invariant
    ∙ each_miss OddPart (small c.args.b) (pos 0) c.loop-i.i c.args.ts.now (omega arith)
    (lt-ltb _ _ (rw (odd_is (goal.at.loop-i-preserved c).After-take_apart, power _ c.requires.0) at c.if-top-take_apart.false))

pub returns : goal.returns
returns c = sym (c.loop-i.invariant ∙ each_end OddPart (small c.args.b) (pos 0) c.loop-i.i c.args.ts.now (omega arith))
