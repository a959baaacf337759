-- How many digits of a canonic form are nonzero: a shift changes nothing, and about half of the places at most. Assumes nothing.
use mathlib.Core.Path.{◌≡◌, sym, ap, ◌∙◌}
use Prim.Native.Nat.{ℕ, zero, suc, ◌+◌, ◌*◌, ◌/◌, ◌%◌, ◌^◌, ◌≤◌, ◌<◌}
use native.Mathlib.Nat.{pow-succ'}
use native.Mathlib.Omega.{arith}
use Rattle.meaning.specs.Basics.{zeros}
use Rattle.meaning.specs.Digits.{Digit, is_nonzero, nonzeros, above, canonic}
use Rattle.laws.proofs.Whole.Zeros.{zeros_whole}
use Rattle.laws.proofs.Digits.Canonic.{Split, split_none, split_plus, split_minus, split_of, split_half, split_parity, canonic_zero, canonic_split, by_digits}

pub nonzeros_zero : nonzeros (canonic 0) ≡ 0
unfolding nonzeros
nonzeros_zero = rw canonic_zero

-- the lowest digit counts, or does not
pub nonzeros_split : {n a : ℕ} {d : Digit} → Split n a d → nonzeros (canonic n) ≡ is_nonzero d + nonzeros (canonic a)
unfolding nonzeros
nonzeros_split {n} s = go n s
  where
    go : (n : ℕ) {a : ℕ} {d : Digit} → Split n a d → nonzeros (canonic n) ≡ is_nonzero d + nonzeros (canonic a)
    go zero {a} (split_none p) = let z : a ≡ 0 = omega arith in rw z (omega arith)
    go zero (split_plus p w) = absurd (omega arith)
    go zero (split_minus p w) = absurd (omega arith)
    go (suc n) s = ap nonzeros (canonic_split s (omega arith))

-- digit by digit
pub nonzeros_step : (n : ℕ) → nonzeros (canonic n) ≡ n % 2 + nonzeros (canonic (above n))
nonzeros_step n = let s = split_of n in omega (arith, nonzeros_split s, split_parity s)

pub nonzeros_shifted : (r m : ℕ) → nonzeros (canonic (m * 2 ^ r)) ≡ nonzeros (canonic m)
nonzeros_shifted zero m = ap (λ k. nonzeros (canonic k)) (omega arith)
nonzeros_shifted (suc r) m =
    let e : m * 2 ^ suc r ≡ 2 * (m * 2 ^ r) = rw (pow-succ' 2 r) (omega arith) in
    omega (arith, nonzeros_split (split_none e), nonzeros_shifted r m)

pub nonzeros_odd : (n : ℕ) → nonzeros (canonic n) ≡ nonzeros (canonic (n / 2 ^ zeros n))
nonzeros_odd n = ap (λ k. nonzeros (canonic k)) (sym (zeros_whole n)) ∙ nonzeros_shifted (zeros n) (n / 2 ^ zeros n)

-- ---- at most

-- of a number and, where it is even, with one place more
record Few (n : ℕ) : Type 0 where
  any : (d : ℕ) → n ≤ 2 ^ d → 2 * nonzeros (canonic n) ≤ d + 2
  even : (d : ℕ) → n % 2 ≡ 0 → n ≤ 2 * 2 ^ d → 2 * nonzeros (canonic n) ≤ d + 2

split_one : {n a : ℕ} {x : Digit} → Split n a x → n ≤ 1 → a % 2 ≡ 0 → a ≡ 0
split_one (split_none p) l e = omega arith
split_one (split_plus p w) l e = omega arith
split_one (split_minus p w) l e = omega arith

none_at : (n : ℕ) → n ≡ 0 → nonzeros (canonic n) ≡ 0
none_at n e = ap (λ k. nonzeros (canonic k)) e ∙ nonzeros_zero

-- a number whose lowest digit is nonzero, over an even one
few_odd : {n a : ℕ} {x : Digit} → Split n a x → 0 < n → n % 2 ≡ 1 → a % 2 ≡ 0 → Few a → (d : ℕ) → n ≤ 2 ^ d → 2 * suc (nonzeros (canonic a)) ≤ d + 2
few_odd {a} s h o w f zero l = omega (arith, none_at a (split_one s (omega arith) w))
few_odd {a} s h o w f (suc zero) l = omega (arith, none_at a (split_one s (omega arith) w))
few_odd s h o w f (suc (suc d)) l =
    omega (arith, f.even d w (split_half (2 * 2 ^ d) s (omega (arith, pow-succ' 2 (suc d), pow-succ' 2 d))))

few_even : (n a : ℕ) → n ≡ 2 * a → 0 < n → Few a → (d : ℕ) → n ≤ 2 ^ d → 2 * nonzeros (canonic a) ≤ d + 2
few_even n a p h f zero l = absurd (omega arith)
few_even n a p h f (suc d) l = omega (arith, f.any d (omega (arith, pow-succ' 2 d)))

few_step : {n a : ℕ} {x : Digit} → Split n a x → 0 < n → Few a → Few n
few_step {n} {a} (split_none p) h f =
    let c = nonzeros_split (split_none p) in
    record {
      any = λ d l. omega (arith, few_even n a p h f d l);
      even = λ d e l. omega (arith, f.any d (omega arith));
    }
few_step (split_plus p w) h f =
    let s = split_plus p w in
    let c = nonzeros_split s in
    record { any = λ d l. omega (arith, few_odd s h (omega arith) w f d l); even = λ d e l. absurd (omega arith) }
few_step (split_minus p w) h f =
    let s = split_minus p w in
    let c = nonzeros_split s in
    record { any = λ d l. omega (arith, few_odd s h (omega arith) w f d l); even = λ d e l. absurd (omega arith) }

few : (n : ℕ) → Few n
few = by_digits Few
    (record { any = λ d h. omega (arith, nonzeros_zero); even = λ d e h. omega (arith, nonzeros_zero) })
    (λ n h f. few_step (split_of n) h f)

-- n below 2 ^ d has at most half of d and one more
pub few_nonzeros : (d n : ℕ) → n ≤ 2 ^ d → 2 * nonzeros (canonic n) ≤ d + 2
few_nonzeros d n h = (few n).any d h

-- nine for a number of 16 bits, and 17 for one of 32
pub few_nine : (n : ℕ) → n < 2 ^ 16 → nonzeros (canonic n) ≤ 9
few_nine n h = omega (arith, few_nonzeros 16 n (omega arith))

pub few_seventeen : (n : ℕ) → n < 2 ^ 32 → nonzeros (canonic n) ≤ 17
few_seventeen n h = omega (arith, few_nonzeros 32 n (omega arith))
