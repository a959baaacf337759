-- Laws of ℤ that the kit lacks: magnitudes, distribution, association, exact division; and what fits 64 bits. Assumes nothing.
use mathlib.Core.Path.{◌≡◌, refl, sym, ap, ◌∙◌}
use mathlib.Core.Bool.{Bool, true, false, cond}
use Prim.Native.Nat.{ℕ, zero, suc, ◌+◌, ◌-◌, ◌*◌, ◌/◌, ◌^◌, ◌≤◌, ◌<◌}
use native.Mathlib.Nat.{zero-div, mul-div_left, not-suc-le-zero, div-le_self, le_trans, le_of_eq}
use native.Mathlib.Omega.{arith}
use borrow.Author.Tests.{ltb-true}
use lib.Dec.{T, ltb}
use lib.IntN.{ℤ, pos, negsuc, neg_ℤ, suc_ℤ, pred_ℤ, nat_abs, sub_ℕ, +ℤ_one, ◌+ℤ◌, ◌-ℤ◌, ◌*ℤ◌, +ℤ_idl, +ℤ_assoc, +ℤ_comm, suc_ℤ-+ℤ, pred_ℤ-+ℤ, suc_ℤ-*ℤ, pred_ℤ-*ℤ, zero-*ℤ, neg_ℤ-suc_ℤ, neg_ℤ-pred_ℤ, neg_ℤ-+ℤ, neg_ℤ-neg_ℤ}
use lib.Signed.{quot_z, lt_z, mag, non_neg}
use mir.Syntax.{w64}
use mir.Val.{SFits, Fits}

-- ---- magnitudes

pub abs_neg : (z : ℤ) → nat_abs (neg_ℤ z) ≡ nat_abs z
abs_neg (pos zero) = refl
abs_neg (pos (suc n)) = refl
abs_neg (negsuc n) = refl

abs_subℕ : (a b : ℕ) → nat_abs (sub_ℕ a b) ≤ a + b
abs_subℕ a b = go (ltb a b) refl
  where
    go : (t : Bool) → ltb a b ≡ t → nat_abs (cond t (negsuc (b - suc a)) (pos (a - b))) ≤ a + b
    go true e = omega (arith, ltb-true a b e)
    go false e = omega arith

pub abs_add : (a b : ℤ) → nat_abs (a +ℤ b) ≤ nat_abs a + nat_abs b
abs_add (pos a) (pos b) = omega arith
abs_add (pos a) (negsuc b) = abs_subℕ a (suc b)
abs_add (negsuc a) (pos b) = omega (arith, abs_subℕ b (suc a))
abs_add (negsuc a) (negsuc b) = omega arith

pub abs_sub : (a b : ℤ) → nat_abs (a -ℤ b) ≤ nat_abs a + nat_abs b
abs_sub a b = omega (arith, abs_add a (neg_ℤ b), abs_neg b)

pub abs_mul : (a b : ℤ) → nat_abs (a *ℤ b) ≡ nat_abs a * nat_abs b
abs_mul (pos a) (pos b) = refl
abs_mul (pos a) (negsuc b) = abs_neg (pos (a * suc b))
abs_mul (negsuc a) (pos b) = abs_neg (pos (suc a * b))
abs_mul (negsuc a) (negsuc b) = refl

-- a number whose magnitude is below 2 ^ 63 fits 64 bits
pub abs_fits : (z : ℤ) → nat_abs z < 2 ^ 63 → SFits w64 z
abs_fits (pos n) h = omega arith
abs_fits (negsuc n) h = omega arith

-- ---- distribution and association, by steps of one in the first factor

-- what holds of 0, and of each number's two neighbours where it holds of the number, holds of all
pub walkℤ : (P : ℤ → Type 0) → P (pos zero) → ((m : ℤ) → P m → P (suc_ℤ m)) → ((m : ℤ) → P m → P (pred_ℤ m)) → (k : ℤ) → P k
walkℤ P z u d (pos zero) = z
walkℤ P z u d (pos (suc n)) = u (pos n) (walkℤ P z u d (pos n))
walkℤ P z u d (negsuc zero) = d (pos zero) z
walkℤ P z u d (negsuc (suc n)) = d (negsuc n) (walkℤ P z u d (negsuc n))

swap : (a b c : ℤ) → a +ℤ b +ℤ c ≡ a +ℤ c +ℤ b
swap a b c = +ℤ_assoc a b c ∙ ap (λ x. a +ℤ x) (+ℤ_comm b c) ∙ sym (+ℤ_assoc a c b)

up_add : (m b c : ℤ) → (m +ℤ b) *ℤ c ≡ m *ℤ c +ℤ b *ℤ c → (suc_ℤ m +ℤ b) *ℤ c ≡ suc_ℤ m *ℤ c +ℤ b *ℤ c
up_add m b c ih =
    ap (λ x. x *ℤ c) (suc_ℤ-+ℤ m b) ∙ suc_ℤ-*ℤ (m +ℤ b) c ∙ ap (λ x. x +ℤ c) ih ∙ swap (m *ℤ c) (b *ℤ c) c
    ∙ ap (λ x. x +ℤ b *ℤ c) (sym (suc_ℤ-*ℤ m c))

down_add : (m b c : ℤ) → (m +ℤ b) *ℤ c ≡ m *ℤ c +ℤ b *ℤ c → (pred_ℤ m +ℤ b) *ℤ c ≡ pred_ℤ m *ℤ c +ℤ b *ℤ c
down_add m b c ih =
    ap (λ x. x *ℤ c) (pred_ℤ-+ℤ m b) ∙ pred_ℤ-*ℤ (m +ℤ b) c ∙ ap (λ x. x -ℤ c) ih ∙ swap (m *ℤ c) (b *ℤ c) (neg_ℤ c)
    ∙ ap (λ x. x +ℤ b *ℤ c) (sym (pred_ℤ-*ℤ m c))

pub add_mul : (a b c : ℤ) → (a +ℤ b) *ℤ c ≡ a *ℤ c +ℤ b *ℤ c
add_mul a b c =
    walkℤ (λ m. (m +ℤ b) *ℤ c ≡ m *ℤ c +ℤ b *ℤ c)
    (ap (λ x. x *ℤ c) (+ℤ_idl b) ∙ sym (+ℤ_idl (b *ℤ c)) ∙ ap (λ x. x +ℤ b *ℤ c) (sym (zero-*ℤ c)))
    (λ m. up_add m b c) (λ m. down_add m b c) a

up_neg : (m c : ℤ) → neg_ℤ m *ℤ c ≡ neg_ℤ (m *ℤ c) → neg_ℤ (suc_ℤ m) *ℤ c ≡ neg_ℤ (suc_ℤ m *ℤ c)
up_neg m c ih =
    ap (λ x. x *ℤ c) (neg_ℤ-suc_ℤ m) ∙ pred_ℤ-*ℤ (neg_ℤ m) c ∙ ap (λ x. x -ℤ c) ih ∙ sym (neg_ℤ-+ℤ (m *ℤ c) c) ∙ ap neg_ℤ (sym (suc_ℤ-*ℤ m c))

down_neg : (m c : ℤ) → neg_ℤ m *ℤ c ≡ neg_ℤ (m *ℤ c) → neg_ℤ (pred_ℤ m) *ℤ c ≡ neg_ℤ (pred_ℤ m *ℤ c)
down_neg m c ih =
    ap (λ x. x *ℤ c) (neg_ℤ-pred_ℤ m) ∙ suc_ℤ-*ℤ (neg_ℤ m) c ∙ ap (λ x. x +ℤ c) ih ∙ ap (λ x. neg_ℤ (m *ℤ c) +ℤ x) (sym (neg_ℤ-neg_ℤ c))
    ∙ sym (neg_ℤ-+ℤ (m *ℤ c) (neg_ℤ c)) ∙ ap neg_ℤ (sym (pred_ℤ-*ℤ m c))

pub neg_mul : (a c : ℤ) → neg_ℤ a *ℤ c ≡ neg_ℤ (a *ℤ c)
neg_mul a c =
    walkℤ (λ m. neg_ℤ m *ℤ c ≡ neg_ℤ (m *ℤ c)) (zero-*ℤ c ∙ ap neg_ℤ (sym (zero-*ℤ c))) (λ m. up_neg m c) (λ m. down_neg m c) a

up_mul : (m b c : ℤ) → m *ℤ b *ℤ c ≡ m *ℤ (b *ℤ c) → suc_ℤ m *ℤ b *ℤ c ≡ suc_ℤ m *ℤ (b *ℤ c)
up_mul m b c ih =
    ap (λ x. x *ℤ c) (suc_ℤ-*ℤ m b) ∙ add_mul (m *ℤ b) b c ∙ ap (λ x. x +ℤ b *ℤ c) ih ∙ sym (suc_ℤ-*ℤ m (b *ℤ c))

down_mul : (m b c : ℤ) → m *ℤ b *ℤ c ≡ m *ℤ (b *ℤ c) → pred_ℤ m *ℤ b *ℤ c ≡ pred_ℤ m *ℤ (b *ℤ c)
down_mul m b c ih =
    ap (λ x. x *ℤ c) (pred_ℤ-*ℤ m b) ∙ add_mul (m *ℤ b) (neg_ℤ b) c ∙ ap (λ x. x +ℤ neg_ℤ b *ℤ c) ih
    ∙ ap (λ x. m *ℤ (b *ℤ c) +ℤ x) (neg_mul b c) ∙ sym (pred_ℤ-*ℤ m (b *ℤ c))

pub mul_assocℤ : (a b c : ℤ) → a *ℤ b *ℤ c ≡ a *ℤ (b *ℤ c)
mul_assocℤ a b c =
    walkℤ (λ m. m *ℤ b *ℤ c ≡ m *ℤ (b *ℤ c)) (ap (λ x. x *ℤ c) (zero-*ℤ b) ∙ zero-*ℤ c ∙ sym (zero-*ℤ (b *ℤ c)))
    (λ m. up_mul m b c) (λ m. down_mul m b c) a

pub sub_mul : (a b c : ℤ) → (a -ℤ b) *ℤ c ≡ a *ℤ c -ℤ b *ℤ c
sub_mul a b c = add_mul a (neg_ℤ b) c ∙ ap (λ x. a *ℤ c +ℤ x) (neg_mul b c)

-- ---- exact division

quot_neg : (m d : ℕ) → quot_z (neg_ℤ (pos m)) (pos d) ≡ neg_ℤ (pos (m / d))
quot_neg zero d = ap pos (zero-div d) ∙ ap (λ (x : ℕ). neg_ℤ (pos x)) (sym (zero-div d))
quot_neg (suc m) d = refl

pub quot_exact : (z : ℤ) (d : ℕ) → 0 < d → quot_z (z *ℤ pos d) (pos d) ≡ z
quot_exact (pos a) d h = ap pos (mul-div_left a h)
quot_exact (negsuc a) d h = quot_neg (suc a * d) d ∙ ap (λ (x : ℕ). neg_ℤ (pos x)) (mul-div_left (suc a) h)

-- ---- the magnitude of a negative number, by way of its successor: no step leaves 64 bits

pub suc_fits : (z : ℤ) → SFits w64 z → lt_z z (pos 0) ≡ true → SFits w64 (z +ℤ pos 1)
suc_fits (pos n) h e = absurd (not-suc-le-zero (ltb-true n 0 e))
suc_fits (negsuc zero) h e = rw +ℤ_one (omega arith)
suc_fits (negsuc (suc n)) h e = rw +ℤ_one (omega arith)

neg_suc : (z : ℤ) → lt_z z (pos 0) ≡ true → neg_ℤ (suc_ℤ z) ≡ pos (mag z)
neg_suc (pos n) e = absurd (not-suc-le-zero (ltb-true n 0 e))
neg_suc (negsuc zero) e = refl
neg_suc (negsuc (suc n)) e = refl

pub flipped : (z : ℤ) → lt_z z (pos 0) ≡ true → pos 0 -ℤ (z +ℤ pos 1) ≡ pos (mag z)
flipped z e = rw (+ℤ_idl, +ℤ_one) (neg_suc z e)

pub mag_one : (z : ℤ) → lt_z z (pos 0) ≡ true → mag z + 1 ≡ nat_abs z
mag_one (pos n) e = absurd (not-suc-le-zero (ltb-true n 0 e))
mag_one (negsuc n) e = omega arith

pub keeps : (z : ℤ) → SFits w64 z → lt_z z (pos 0) ≡ false → T (non_neg z) × Fits w64 (nat_abs z)
keeps (pos n) h e = (tt, omega arith)
keeps (negsuc n) h e = absurd (true_false e)
  where
    true_false : true ≡ false → ⊥
    true_false q = let z : ◌≡◌ {A = ℕ} 0 1 = cc in omega arith

-- a quotient is no longer than the dividend
pub abs_quot : (z : ℤ) (d : ℕ) → nat_abs (quot_z z (pos d)) ≤ nat_abs z
abs_quot (pos a) d = div-le_self a d
abs_quot (negsuc a) d = le_trans (le_of_eq (abs_neg (pos (suc a / d)))) (div-le_self (suc a) d)
