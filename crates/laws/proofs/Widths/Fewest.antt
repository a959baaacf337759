-- Widths are the fewest bits: of a row's result, of |n| × x before the right shift, and of an output but for negative powers of two, for which the
-- present rule is one bit short. Assumes nothing.
use mathlib.Core.Path.{◌≡◌, refl, ap, ◌∙◌, subst, subst⁻¹}
use mathlib.Core.Bool.{Bool, cond}
use Prim.Native.Nat.{ℕ, zero, suc, ◌+◌, ◌-◌, ◌*◌, ◌/◌, ◌^◌, ◌≤◌, ◌<◌}
use native.Mathlib.Decide.{dec_le, ℕ_discrete}
use native.Mathlib.Nat.{mul-le-mul, mul-le-mul_right, mul-le-mul_left, mul-lt-mul_of_pos_left, mul-lt-mul_of_pos_right, mul-pos, lt_of_not-le, le_of_mul-le-mul_right}
use native.Mathlib.Omega.{arith}
use borrow.Author.Tests.{ne_eqb}
use lib.IntN.{ℤ, pos, negsuc, neg_ℤ, ◌*ℤ◌, zero-*ℤ}
use lib.Pow.{pow_mono, pow-lt, pow_pos, pow-add}
use Rattle.meaning.specs.Basics.{zeros}
use Rattle.meaning.specs.Constants.{sign_of, odd_of}
use Rattle.meaning.specs.Widths.{Least, extra_bits, FitsBits, Fewest, output_width}
use Rattle.laws.proofs.Widths.Extra.{extra_least}
use Rattle.laws.proofs.Whole.Zeros.{zeros_unique}

-- ---- what fits

neg_fits : (k y : ℕ) → y ≤ 2 ^ (k - 1) → FitsBits k (neg_ℤ (pos y))
neg_fits k zero h = pow_pos (k - 1)
neg_fits k (suc y) h = h

neg_over : (k y : ℕ) → 2 ^ (k - 1) < y → ¬ (FitsBits k (neg_ℤ (pos y)))
neg_over k zero h f = absurd (omega arith)
neg_over k (suc y) h f = omega arith

-- ---- m times the inputs of w bits, 2 ^ e the least power that is at least m

module _ (w m e : ℕ) (wide : 2 ≤ w) (some : 1 ≤ m) (l : Least m e) where
  abbrev D : ℕ
  D = 2 ^ (w - 1)

  top : 2 ^ (w + e - 1) ≡ 2 ^ e * D
  top = ap (λ k. 2 ^ k) (omega arith) ∙ pow-add 2 e (w - 1)

  below : (n : ℕ) → n < D → m * n < 2 ^ (w + e - 1)
  below n h =
      let a : m * n ≤ 2 ^ e * n = mul-le-mul_right n l.holds in
      let b : 2 ^ e * n < 2 ^ e * D = mul-lt-mul_of_pos_left h (pow_pos e) in
      omega (arith, top)

  upto : (n : ℕ) → n ≤ D → m * n ≤ 2 ^ (w + e - 1)
  upto n h = rw top (mul-le-mul l.holds h)

  under : (n : ℕ) → m < 2 ^ e → n ≤ D → m * n < 2 ^ (w + e - 1)
  under n g h =
      let a : m * n ≤ m * D = mul-le-mul_left m h in
      let b : m * D < 2 ^ e * D = mul-lt-mul_of_pos_right g (pow_pos (w - 1)) in
      omega (arith, top)

  -- the most negative input leaves fewer bits
  over : (j : ℕ) → 1 ≤ j → j < w + e → 2 ^ (j - 1) < m * D
  over j a b = go e refl
    where
      go : (d : ℕ) → e ≡ d → 2 ^ (j - 1) < m * D
      go zero q =
          let p : 2 ^ (j - 1) < D = pow-lt {i = j - 1} {j = w - 1} (omega arith) in
          let r : 1 * D ≤ m * D = mul-le-mul_right D some in
          omega arith
      go (suc d) q =
          let p : 2 ^ (j - 1) ≤ 2 ^ (d + (w - 1)) = pow_mono {i = j - 1} {j = d + (w - 1)} (omega arith) in
          let r : 2 ^ d < m = lt_of_not-le (λ h. let k = l.least d h in omega arith) in
          let t : 2 ^ d * D < m * D = mul-lt-mul_of_pos_right r (pow_pos (w - 1)) in
          omega (arith, pow-add 2 d (w - 1))

  abbrev lowest : ℤ
  lowest = negsuc (D - 1)

  lowest_fits : FitsBits w lowest
  lowest_fits = omega (arith, pow_pos (w - 1))

  whole : suc (D - 1) ≡ D
  whole = omega (arith, pow_pos (w - 1))

  pub plus_fewest : Fewest w (pos m) (w + e)
  plus_fewest = record { holds = holds; least = least }
    where
      holds : (x : ℤ) → FitsBits w x → FitsBits (w + e) (pos m *ℤ x)
      holds (pos n) h = below n h
      holds (negsuc n) h = neg_fits (w + e) (m * suc n) (upto (suc n) h)

      least : (j : ℕ) → 1 ≤ j → j < w + e → (x : ℤ) × FitsBits w x × ¬ (FitsBits j (pos m *ℤ x))
      least j a b = (lowest, lowest_fits, neg_over j (m * suc (D - 1)) (rw whole (over j a b)))

  minus_fits : m < 2 ^ e → (u : ℕ) → m ≡ suc u → (x : ℤ) → FitsBits w x → FitsBits (w + e) (negsuc u *ℤ x)
  minus_fits g u q (pos n) h = neg_fits (w + e) (suc u * n) (subst (λ z. z * n ≤ 2 ^ (w + e - 1)) q (upto n (omega arith)))
  minus_fits g u q (negsuc n) h = subst (λ z. z * suc n < 2 ^ (w + e - 1)) q (under (suc n) g h)

  minus_over : (u : ℕ) → m ≡ suc u → (j : ℕ) → 1 ≤ j → j < w + e → ¬ (FitsBits j (negsuc u *ℤ lowest))
  minus_over u q j a b f =
      let h : suc u * suc (D - 1) < 2 ^ (j - 1) = f in
      let k : 2 ^ (j - 1) < suc u * suc (D - 1) = rw whole (subst (λ z. 2 ^ (j - 1) < z * D) q (over j a b)) in
      omega arith

  -- a negative constant, unless its magnitude is a power of two
  pub minus_fewest : m < 2 ^ e → (u : ℕ) → m ≡ suc u → Fewest w (negsuc u) (w + e)
  minus_fewest g u q = record { holds = minus_fits g u q; least = λ j a b. (lowest, lowest_fits, minus_over u q j a b) }

-- ---- rows

pub row_fewest : (w v : ℕ) → 2 ≤ w → 1 ≤ v → Fewest w (pos v) (w + extra_bits v)
row_fewest w v h p = plus_fewest w v (extra_bits v) h p (extra_least v)

-- r trailing zeros more are r bits more
shifted_least : (v e r : ℕ) → 1 ≤ v → Least v e → Least (v * 2 ^ r) (e + r)
shifted_least v e r p l =
    record {
      holds = rw (pow-add 2 e r) (mul-le-mul_right (2 ^ r) l.holds);
      least = λ d h. go d h (dec_le r d);
    }
  where
    go : (d : ℕ) → v * 2 ^ r ≤ 2 ^ d → Dec (r ≤ d) → e + r ≤ d
    go d h (yes q) =
        let s : d ≡ (d - r) + r = omega arith in
        let t : v * 2 ^ r ≤ 2 ^ (d - r) * 2 ^ r = subst (λ z. v * 2 ^ r ≤ z) (ap (λ k. 2 ^ k) s ∙ pow-add 2 (d - r) r) h in
        let u = l.least (d - r) (le_of_mul-le-mul_right t (pow_pos r)) in
        omega arith
    go d h (no q) =
        let s : 2 ^ d < 2 ^ r = pow-lt {i = d} {j = r} (omega arith) in
        let t : 1 * 2 ^ r ≤ v * 2 ^ r = mul-le-mul_right (2 ^ r) p in
        absurd (omega arith)

-- before the right shift |n| × x is r bits wider
pub shifted_fewest : (w v r : ℕ) → 2 ≤ w → 1 ≤ v → Fewest w (pos (v * 2 ^ r)) (w + extra_bits v + r)
shifted_fewest w v r h p =
    subst (Fewest w (pos (v * 2 ^ r))) (omega arith)
    (plus_fewest w (v * 2 ^ r) (extra_bits v + r) h (mul-pos {m = v} {n = 2 ^ r} p (pow_pos r)) (shifted_least v (extra_bits v) r p (extra_least v)))

-- ---- outputs

zero_fewest : (w : ℕ) → Fewest w (pos 0) 1
zero_fewest w = record { holds = λ x h. subst⁻¹ (FitsBits 1) (zero-*ℤ x) (omega arith); least = λ j a b. absurd (omega arith) }

-- a magnitude that is no power of two is below the least power that is at least it
no_power : (m : ℕ) → (m / 2 ^ zeros m ≡ 1 → ⊥) → m < 2 ^ extra_bits m
no_power m n = go (ℕ_discrete m (2 ^ extra_bits m))
  where
    go : Dec (m ≡ 2 ^ extra_bits m) → m < 2 ^ extra_bits m
    go (yes e) = absurd (n (zeros_unique m (extra_bits m) 1 refl (e ∙ omega arith)).1)
    go (no f) = let h = (extra_least m).holds in omega arith

abbrev width : ℕ → ℕ → Bool → ℕ
width w m b = cond b 1 (w + extra_bits m)

pub output_fewest : (w : ℕ) (t : ℤ) → 2 ≤ w → (sign_of t ≡ negsuc 0 → odd_of t ≡ 1 → ⊥) → Fewest w t (output_width w t)
output_fewest w (pos zero) h n = zero_fewest w
output_fewest w (pos (suc m)) h n =
    subst⁻¹ (λ b. Fewest w (pos (suc m)) (width w (suc m) b)) (ne_eqb (suc m) 0 (omega arith)) (row_fewest w (suc m) h (omega arith))
output_fewest w (negsuc u) h n =
    subst⁻¹ (λ b. Fewest w (negsuc u) (width w (suc u) b)) (ne_eqb (suc u) 0 (omega arith))
    (minus_fewest w (suc u) (extra_bits (suc u)) h (omega arith) (extra_least (suc u)) (no_power (suc u) (n refl)) u refl)
