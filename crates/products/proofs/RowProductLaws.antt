-- What the steps of a row's product come to, and how large they are. Assumes nothing.
use mathlib.Core.Path.{◌≡◌, refl}
use mathlib.Core.Bool.{Bool, true, false}
use Prim.Native.Nat.{ℕ, zero, suc, ◌+◌, ◌*◌, ◌^◌, ◌≤◌}
use native.Mathlib.Omega.{arith}
use lib.Dec.{ltb}
use lib.IntN.{ℤ, pos, nat_abs, ◌-ℤ◌, ◌*ℤ◌}
use Rattle.laws.proofs.Whole.Integers.{abs_add, abs_sub, abs_mul, abs_neg}
use Rattle.meaning.specs.Products.{is_negative, joined, negated_if}

-- as code meets a sign that is not 0
pub joined_minus : (p q : ℤ) (l1 l2 s : ℕ) → (s ≡ 0 → ⊥) → pos (2 ^ l1) *ℤ p -ℤ pos (2 ^ l2) *ℤ q ≡ joined p q l1 l2 s
joined_minus p q l1 l2 zero h = absurd (h refl)
joined_minus p q l1 l2 (suc s) h = refl

pub negative_less : (u v l1 l2 s : ℕ) → (s ≡ 0 → ⊥) → ltb (2 ^ l1 * u) (2 ^ l2 * v) ≡ is_negative u v l1 l2 s
negative_less u v l1 l2 zero h = absurd (h refl)
negative_less u v l1 l2 (suc s) h = refl

-- how large a step's result is
pub abs_joined : (p q : ℤ) (l1 l2 s : ℕ) → nat_abs (joined p q l1 l2 s) ≤ 2 ^ l1 * nat_abs p + 2 ^ l2 * nat_abs q
abs_joined p q l1 l2 zero =
    omega (arith, abs_add (pos (2 ^ l1) *ℤ p) (pos (2 ^ l2) *ℤ q), abs_mul (pos (2 ^ l1)) p, abs_mul (pos (2 ^ l2)) q)
abs_joined p q l1 l2 (suc s) =
    omega (arith, abs_sub (pos (2 ^ l1) *ℤ p) (pos (2 ^ l2) *ℤ q), abs_mul (pos (2 ^ l1)) p, abs_mul (pos (2 ^ l2)) q)

pub abs_negated : (t : Bool) (z : ℤ) → nat_abs (negated_if t z) ≡ nat_abs z
abs_negated false z = refl
abs_negated true z = abs_neg z
