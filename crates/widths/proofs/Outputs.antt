-- The width of a zero output, of t as its bits say it. Assumes nothing.
use mathlib.Core.Path.{◌≡◌, sym, ap, ◌∙◌}
use mathlib.Core.Bool.{cond}
use Prim.Native.Nat.{ℕ, ◌+◌}
use borrow.Author.Tests.{eq-eqb}
use lib.IntN.{ℤ, nat_abs}
use mir.Syntax.{w32}
use mir.Val.{SFits, to_z, of_z}
use mir.ValLaws.{to_z-of_z}
use Rattle.meaning.specs.Widths.{extra_bits, output_width}

pub zero_output : (w m : ℕ) (t : ℤ) → SFits w32 t → m ≡ nat_abs (to_z w32 (of_z w32 t)) → m ≡ 0 → 1 ≡ output_width w t
zero_output w m t h e z =
    sym (ap (λ b. cond b 1 (w + extra_bits (nat_abs t))) (eq-eqb _ 0 (sym (rw (to_z-of_z w32 t h) at e) ∙ z)))
