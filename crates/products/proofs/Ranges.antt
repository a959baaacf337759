-- The products of valid rows stay within 64 bits for every x of 32: a row's terms by the bounds of a valid row, a target's because it is the target
-- times x. Assumes nothing.
use mathlib.Core.Path.{◌≡◌, refl, sym, ap, ap₂, ◌∙◌}
use mathlib.Core.Bool.{Bool, true, false, cond}
use mathlib.Core.List.{List, ◌∷◌, map}
use Prim.Native.Nat.{ℕ, zero, suc, ◌*◌, ◌%◌, ◌^◌, ◌≤◌, ◌<◌}
use native.Mathlib.Nat.{mul_assoc, mul_comm, mul-le-mul, one-mul, le_refl, le_of_lt, le_trans, le_of_eq, le_of_suc-le-suc}
use native.Mathlib.Omega.{arith}
use lib.Dec.{T, leb}
use lib.IntN.{ℤ, pos, negsuc, nat_abs, ◌*ℤ◌}
use lib.ListN.{length, get_or, length-map}
use lib.Pow.{pow_mono}
use mir.Syntax.{w32}
use mir.Val.{SFits}
use Rattle.laws.proofs.Whole.Integers.{abs_mul}
use Rattle.meaning.specs.Basics.{index_from, zeros_in, zeros}
use Rattle.meaning.specs.Constants.{sign_of, shift_of, odd_of}
use Rattle.meaning.specs.Graph.{row_after, rows, values, ready, is_served, output_index}
use Rattle.meaning.specs.Products.{products}
use Rattle.laws.proofs.Whole.Zeros.{zeros_whole, zeros_left, zeros_low}
use Rattle.laws.proofs.Graph.Rows.{length_ready, sound_at}
use Rattle.laws.proofs.Products.{product_at, products_are, served_index}
use Rattle.laws.proofs.Graph.Bounds.{odds_ready, fits_low}
use Rattle.laws.proofs.Lists.Index.{index_inside}
use Rattle.products.specs.Worked.{Next, Graph, Made}

pub abs_32 : (x : ℤ) → SFits w32 x → nat_abs x ≤ 2 ^ 31
abs_32 (pos n) h = omega arith
abs_32 (negsuc n) h = omega arith

-- the parts of a target of 32 bits
pub sign_fits : (t : ℤ) → SFits w32 (sign_of t)
sign_fits (pos zero) = omega arith
sign_fits (pos (suc n)) = omega arith
sign_fits (negsuc n) = omega arith

abs_sign : (t : ℤ) → nat_abs (sign_of t) ≤ 1
abs_sign (pos zero) = omega arith
abs_sign (pos (suc n)) = omega arith
abs_sign (negsuc n) = omega arith

pub signed_low : (t z : ℤ) → nat_abs (sign_of t *ℤ z) ≤ nat_abs z
signed_low t z =
    rw (abs_mul (sign_of t) z) (le_trans (mul-le-mul (abs_sign t) (le_refl (nat_abs z))) (le_of_eq (one-mul (nat_abs z))))

pub shift_low : (t : ℤ) → SFits w32 t → shift_of t ≤ 31
shift_low (pos zero) h = unfold zeros zeros_in in (omega arith)
shift_low (pos (suc n)) h = le_of_suc-le-suc (zeros_low 32 (suc n) (omega arith) (omega arith))
shift_low (negsuc n) h = le_of_suc-le-suc (zeros_low 32 (suc n) (omega arith) (omega arith))

-- a target's index has a product, which its shift leaves within 64 bits
pub record Reached (vals : List ℕ) (ps : List ℤ) (t : ℤ) : Type 0 where
  pub inside : output_index vals (odd_of t) < length ps
  pub low : 2 ^ shift_of t * nat_abs (get_or ps (output_index vals (odd_of t)) (pos 0)) ≤ 2 ^ 62

-- a · |u x| is at most m · 2^31 where a · u is at most m
scaled_low : (a u m : ℕ) (x : ℤ) → a * u ≤ m → nat_abs x ≤ 2 ^ 31 → a * nat_abs (pos u *ℤ x) ≤ m * 2 ^ 31
scaled_low a u m x h k = rw (abs_mul (pos u) x) (le_trans (le_of_eq (sym (mul_assoc a u (nat_abs x)))) (mul-le-mul h k))

output_inside : (vals : List ℕ) (odd : ℕ) → output_index vals odd < suc (length vals)
unfolding output_index
output_inside vals odd = go (leb odd 1)
  where
    go : (b : Bool) → cond b 0 (index_from 1 vals odd) < suc (length vals)
    go true = omega arith
    go false = omega (arith, index_inside 1 vals odd (omega arith))

no_zeros : shift_of (pos 0) ≡ 0
unfolding zeros zeros_in
no_zeros = refl

module _ (n : ℕ) (w : List ℕ) (g : Graph (rows n w)) (x : ℤ) (low : nat_abs x ≤ 2 ^ 31) where
  -- 2 ^ (limit + 1)
  top : 2 ^ suc g.limit ≤ 2 ^ 20
  top = pow_mono {i = suc g.limit} {j = 20} (let h = g.most in omega arith)

  pub next_of : (i : ℕ) (ps : List ℤ) → i < n → ps ≡ products (rows i w) x → Next w i ps
  next_of i ps h e =
      let vals = ready (rows i w) in
      let y = row_after w i in
      let (s, f) = sound_at g.limit n w i g.sound h in
      let l = fits_low g.limit (rows i w) y (odds_ready g.limit (rows i w) g.least s) f in
      let d : ps ≡ map (λ v. pos v *ℤ x) vals = e ∙ products_are g.limit (rows i w) x s in
      let at : (k : ℕ) → get_or ps k (pos 0) ≡ pos (get_or vals k 0) *ℤ x = λ k. ap (λ qs. get_or qs k (pos 0)) d ∙ product_at x vals k in
      record {
        count = ap length d ∙ length-map vals (λ v. pos v *ℤ x) ∙ length_ready i w ∙ omega arith;
        first = let a = f.first in omega (arith, length_ready i w);
        second = let a = f.second in omega (arith, length_ready i w);
        within =
            record {
              left = let a = f.operation.left in let b = g.most in omega arith;
              right = let a = f.operation.right in let b = g.most in omega arith;
              back = let a = l.shift in let b = g.most in omega arith;
              first = rw (at y.u) (le_trans (scaled_low (2 ^ y.l1) (get_or vals y.u 0) (2 ^ 20) x (le_trans (le_of_lt l.left) top) low) (omega arith));
              second = rw (at y.v) (le_trans (scaled_low (2 ^ y.l2) (get_or vals y.v 0) (2 ^ 20) x (le_trans (le_of_lt l.right) top) low) (omega arith));
            };
      }

-- the index of zero is the input's
zero_index : (vals : List ℕ) → output_index vals (odd_of (pos 0)) ≡ 0
unfolding output_index zeros zeros_in
zero_index vals = refl

module _ (vals : List ℕ) where
  abbrev value : ℤ → ℕ
  value t = get_or (1 ∷ vals) (output_index vals (odd_of t)) 0

  -- any other target's index has its odd part
  nonzero_low : (t : ℤ) → SFits w32 t → T (is_served vals t) → odd_of t % 2 ≡ 1 → 2 ^ shift_of t * value t ≤ 2 ^ 31
  nonzero_low t k h o =
      rw (served_index vals t o h).at
      (le_trans (le_of_eq (mul_comm (2 ^ shift_of t) (odd_of t) ∙ zeros_whole (nat_abs t))) (abs_32 t k))

  value_low : (t : ℤ) → SFits w32 t → T (is_served vals t) → 2 ^ shift_of t * value t ≤ 2 ^ 31
  value_low (pos zero) k h =
      let e : 2 ^ shift_of (pos 0) * value (pos 0) ≡ 1 = ap₂ (λ k i. 2 ^ k * get_or (1 ∷ vals) i 0) no_zeros (zero_index vals) in
      omega arith
  value_low (pos (suc m)) k h = nonzero_low (pos (suc m)) k h (zeros_left (suc m) (omega arith))
  value_low (negsuc m) k h = nonzero_low (negsuc m) k h (zeros_left (suc m) (omega arith))

  pub reached_of : (ps : List ℤ) (t : ℤ) → SFits w32 t → T (is_served vals t) → Made vals ps → Reached vals ps t
  reached_of ps t k h m =
      let i = output_index vals (odd_of t) in
      let at = ap (λ qs. get_or qs i (pos 0)) m.are ∙ product_at m.x (1 ∷ vals) i in
      record {
        inside = rw (ap length m.are, length-map (1 ∷ vals) (λ v. pos v *ℤ m.x)) (output_inside vals (odd_of t));
        low = rw at (scaled_low (2 ^ shift_of t) (value t) (2 ^ 31) m.x (value_low t k h) m.small);
      }

-- the products of valid rows are made
pub made_of : (n : ℕ) (w : List ℕ) → Graph (rows n w) → (x : ℤ) → nat_abs x ≤ 2 ^ 31 → (ps : List ℤ) → ps ≡ products (rows n w) x → Made (values (rows n w)) ps
made_of n w g x low ps e = record { x = x; small = low; are = e ∙ products_are g.limit (rows n w) x g.sound }
