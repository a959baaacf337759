-- `number` meets its contract: a sign where the number is below 0, and then its magnitude. Assumes nothing.
use mathlib.Core.Path.{◌≡◌, ap, sym, ◌∙◌}
use Prim.Native.Nat.{ℕ}
use native.Mathlib.Omega.{arith}
use mathlib.Core.List.{◌∷◌}
use lib.IntN.{nat_abs}
use lib.ListN.{length, length-set}
use mir.Syntax.{w64}
use mir.ValLaws.{to_z-of_z}
use Rattle.meaning.specs.Text.{unsigned_text, text_of}
use Rattle.writing.proofs.Writing.{◌⨾◌, same_text, byte, below_text, other_text}
use Rattle.writing.proofs.number.Goals as goal
use Rattle.writing.proofs.number.Goals.{After-unsigned_abs, After-unsigned_abs-2, Then-z-lt0}

-- below 0
minus : (c : Then-z-lt0) → text_of c.args.z ≡ 45 ∷ unsigned_text (nat_abs c.args.z)
minus c = below_text c.args.z (rw (to_z-of_z w64 _ c.ranges.z) at c.if-z-lt0.true)

magnitude : (c : After-unsigned_abs) → c.unsigned_abs.result ≡ nat_abs c.args.z
magnitude c = c.unsigned_abs.ensures.value ∙ ap nat_abs (to_z-of_z w64 _ c.ranges.z)

-- not below 0
plain : (c : After-unsigned_abs-2) → unsigned_text c.unsigned_abs-2.result ≡ text_of c.args.z
plain c =
    let h = to_z-of_z w64 _ c.ranges.z in
    ap unsigned_text (c.unsigned_abs-2.ensures.value ∙ ap nat_abs h) ∙ sym (other_text c.args.z (rw h at c.if-z-lt0.false))

pub bounds-out-at : goal.bounds-out-at
bounds-out-at c = omega (arith, ap length (minus c), c.requires)

pub overflow_add-at : goal.overflow_add-at
overflow_add-at c = omega (arith, ap length (minus (goal.at.overflow_add-at c).Then-z-lt0), c.requires)

pub decimal-requires : goal.decimal-requires
decimal-requires c =
    rw (magnitude c) (simp length-set (omega (arith, ap length (minus (goal.at.decimal-requires c).Then-z-lt0), c.requires)))

pub shape_of-out-then-z-lt0 : goal.shape_of-out-then-z-lt0
shape_of-out-then-z-lt0 c = c.decimal.auto.out ∙ simp length-set

pub returns-then-z-lt0 : goal.returns-then-z-lt0
returns-then-z-lt0 c =
    same_text (ap (λ (x : ℕ). 45 ∷ unsigned_text x) (magnitude (goal.at.returns-then-z-lt0 c).After-unsigned_abs) ∙ sym (minus (goal.at.returns-then-z-lt0 c).Then-z-lt0)) (byte _ _ 45 (bounds-out-at (goal.at.returns-then-z-lt0 c).Then-z-lt0) ⨾ c.decimal.ensures)

pub decimal-requires-2 : goal.decimal-requires-2
decimal-requires-2 c = rw (plain c) c.requires

pub returns : goal.returns
returns c = same_text (plain (goal.at.returns c).After-unsigned_abs-2) c.decimal-2.ensures
