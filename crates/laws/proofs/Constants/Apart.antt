-- Taking apart is exact, and unique. Assumes nothing.
use mathlib.Core.Path.{◌≡◌, refl, sym, ap, ap₂, ◌∙◌}
use mathlib.Core.List.{[], ◌∷◌}
use Prim.Native.Nat.{ℕ, zero, suc, ◌*◌, ◌/◌, ◌%◌, ◌^◌, ◌<◌}
use native.Mathlib.Nat.{mul_comm, one-mul, mul-pos}
use native.Mathlib.Omega.{arith}
use lib.IntN.{ℤ, pos, negsuc, neg_ℤ, nat_abs, ◌*ℤ◌}
use lib.Pow.{pow_pos}
use mathlib.Core.Logic.{◌⊎◌, inl, inr}
use Rattle.laws.proofs.Whole.Integers.{abs_mul}
use Rattle.meaning.specs.declared.Parts.{Parts}
use Rattle.meaning.specs.Basics.{zeros_in, zeros}
use Rattle.meaning.specs.Constants.{sign_of, shift_of, odd_of, apart, part_words}
use Rattle.laws.proofs.Whole.Zeros.{zeros_whole, zeros_left, zeros_unique}

-- t = sign × 2^shift × odd
abbrev pub Whole : ℤ → Parts → Type 0
Whole t p = t ≡ p.sign *ℤ pos (2 ^ p.shift * p.odd)

back : (n : ℕ) → n ≡ 1 * (2 ^ zeros n * (n / 2 ^ zeros n))
back n = sym (one-mul _ ∙ mul_comm (2 ^ zeros n) (n / 2 ^ zeros n) ∙ zeros_whole n)

pub apart_whole : (t : ℤ) → Whole t (apart t)
unfolding apart zeros zeros_in
apart_whole (pos zero) = refl
apart_whole (pos (suc n)) = ap pos (back (suc n))
apart_whole (negsuc n) = ap (λ (x : ℕ). neg_ℤ (pos x)) (back (suc n))

-- sign 1 or -1, and an odd part that is odd
pub record Proper (p : Parts) : Type 0 where
  pub sign : (p.sign ≡ pos 1) ⊎ (p.sign ≡ negsuc 0)
  pub odd : p.odd % 2 ≡ 1

pub apart_proper : (t : ℤ) → (t ≡ pos 0 → ⊥) → Proper (apart t)
unfolding apart
apart_proper (pos zero) h = absurd (h refl)
apart_proper (pos (suc n)) h = record { sign = inl refl; odd = zeros_left (suc n) (omega arith) }
apart_proper (negsuc n) h = record { sign = inr refl; odd = zeros_left (suc n) (omega arith) }

-- no other sign, shift and odd part make t
sign_is : (s : ℤ) (x : ℕ) → 0 < x → (s ≡ pos 1) ⊎ (s ≡ negsuc 0) → (nat_abs s ≡ 1) × (sign_of (s *ℤ pos x) ≡ s)
sign_is s x h (inl e) = rw e (refl, plus (1 * x) (omega arith))
  where
    plus : (y : ℕ) → 0 < y → sign_of (pos y) ≡ pos 1
    plus zero h = absurd (omega arith)
    plus (suc y) h = refl
sign_is s x h (inr e) = rw e (refl, minus (1 * x) (omega arith))
  where
    minus : (y : ℕ) → 0 < y → sign_of (neg_ℤ (pos y)) ≡ negsuc 0
    minus zero h = absurd (omega arith)
    minus (suc y) h = refl

abbrev build : ℤ → ℕ → ℕ → Parts
build s k m = record { sign = s; shift = k; odd = m }

pub apart_only : (t : ℤ) (p : Parts) → Proper p → Whole t p → p ≡ apart t
unfolding apart
apart_only t p h e =
    let x : ℕ = 2 ^ p.shift * p.odd in
    let o : p.odd % 2 ≡ 1 = h.odd in
    let (a, b) = sign_is p.sign x (mul-pos {m = 2 ^ p.shift} {n = p.odd} (pow_pos p.shift) (omega arith)) h.sign in
    let n : nat_abs t ≡ p.odd * 2 ^ p.shift = ap nat_abs e ∙ abs_mul p.sign (pos x) ∙ ap (λ z. z * x) a ∙ one-mul x ∙ mul_comm (2 ^ p.shift) p.odd in
    let (z, q) = zeros_unique (nat_abs t) p.shift p.odd o n in
    let g : sign_of t ≡ p.sign = ap sign_of e ∙ b in
    sym (ap (λ s. build s (shift_of t) (odd_of t)) g ∙ ap₂ (build p.sign) z q)

-- zero, and the least number of 32 bits
pub apart_zero : part_words (apart (pos 0)) ≡ pos 0 ∷ pos 0 ∷ pos 0 ∷ []
unfolding apart zeros zeros_in
apart_zero = refl

pub apart_least : part_words (apart (negsuc 2147483647)) ≡ negsuc 0 ∷ pos 31 ∷ pos 1 ∷ []
unfolding apart zeros zeros_in
apart_least = refl
