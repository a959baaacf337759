-- Signed numbers of 32 bits in 64: they fit, and so do their negations. Assumes nothing.
use mathlib.Core.Path.{◌≡◌}
use mathlib.Core.Bool.{true, false}
use Prim.Native.Nat.{ℕ, zero, suc}
use native.Mathlib.Omega.{arith}
use native.Mathlib.Nat.{not-suc-le-zero}
use borrow.Author.Tests.{ltb-true}
use lib.Dec.{T}
use lib.IntN.{ℤ, pos, negsuc, neg_ℤ, nat_abs, ◌-ℤ◌, +ℤ_idl}
use lib.Signed.{lt_z, non_neg}
use mir.Syntax.{w32, w64}
use mir.Val.{SFits, Fits}
use Rattle.laws.proofs.Whole.Integers.{abs_neg}

pub wide : (z : ℤ) → SFits w32 z → SFits w64 z
wide (pos n) h = omega arith
wide (negsuc n) h = omega arith

neg_fits' : (z : ℤ) → SFits w32 z → SFits w64 (neg_ℤ z)
neg_fits' (pos zero) h = omega arith
neg_fits' (pos (suc n)) h = omega arith
neg_fits' (negsuc n) h = omega arith

pub neg_fits : (z : ℤ) → SFits w32 z → SFits w64 (pos 0 -ℤ z)
neg_fits z h = rw +ℤ_idl (neg_fits' z h)

-- below 0: the negation is the magnitude, and 32 bits hold it
neg_mag' : (z : ℤ) → SFits w32 z → lt_z z (pos 0) ≡ true → T (non_neg (neg_ℤ z)) × Fits w32 (nat_abs (neg_ℤ z))
neg_mag' (pos n) h e = absurd (not-suc-le-zero (ltb-true n 0 e))
neg_mag' (negsuc n) h e = (tt, omega arith)

pub neg_mag : (z : ℤ) → SFits w32 z → lt_z z (pos 0) ≡ true → T (non_neg (pos 0 -ℤ z)) × Fits w32 (nat_abs (pos 0 -ℤ z))
neg_mag z h e = rw +ℤ_idl (neg_mag' z h e)

pub abs_minus : (z : ℤ) → nat_abs (pos 0 -ℤ z) ≡ nat_abs z
abs_minus z = rw +ℤ_idl (abs_neg z)

-- not below 0: 32 unsigned bits hold it
pub keep_mag : (z : ℤ) → SFits w32 z → lt_z z (pos 0) ≡ false → T (non_neg z) × Fits w32 (nat_abs z)
keep_mag (pos n) h e = (tt, omega arith)
keep_mag (negsuc n) h e = absurd (true_false e)
  where
    true_false : true ≡ false → ⊥
    true_false q = let z : ◌≡◌ {A = ℕ} 0 1 = cc in omega arith
