-- A form as two words: bit k of each is the digit of 2 ^ k, and the first less the second is the number. Of a constant of 32 bits both words fit 32 bits.
-- Assumes nothing.
use mathlib.Core.Path.{◌≡◌, refl, sym, ap, ap₂, ◌∙◌}
use mathlib.Core.Bool.{true, false}
use mathlib.Core.List.{List, [], ◌∷◌, map}
use Prim.Native.Nat.{ℕ, zero, suc, ◌+◌, ◌-◌, ◌*◌, ◌/◌, ◌%◌, ◌^◌, ◌≤◌, ◌<◌, min}
use native.Mathlib.Nat.{pow-succ', div-div-eq-div-mul, zero-div, not-suc-le-zero}
use native.Mathlib.Omega.{arith}
use borrow.Author.Tests.{ltb-true}
use lib.IntN.{ℤ, pos, negsuc, neg_ℤ, nat_abs, ◌+ℤ◌, ◌-ℤ◌, ◌*ℤ◌, +ℤ_assoc, +ℤ_comm, *ℤ_comm, neg_ℤ-+ℤ, neg_ℤ-neg_ℤ}
use lib.ListN.{get_or}
use lib.Signed.{lt_z}
use Rattle.meaning.specs.Digits.{Digit, minus, none, plus, worth, denoted, is_nonzero, nonzeros, Sparse, Ended, lowest, above, digits_in, canonic, opposite, form_of, is_plus, is_minus, places, plus_places, minus_places, form_words}
use Rattle.laws.proofs.Whole.Integers.{sub_mul}
use Rattle.laws.proofs.Digits.Canonic.{Split, split_none, split_plus, split_minus, split_of, canonic_zero, canonic_step, canonic_is, by_digits}
use Rattle.laws.proofs.Digits.Count.{few_nonzeros}

-- ---- bit k

plus_bit : (d : Digit) → is_plus d ≤ 1
plus_bit minus = omega arith
plus_bit none = omega arith
plus_bit plus = omega arith

pub minus_bit : (d : Digit) → is_minus d ≤ 1
minus_bit minus = omega arith
minus_bit none = omega arith
minus_bit plus = omega arith

-- the digit of 2 ^ k; above the highest digit it is 0
pub places_bit : (counts : Digit → ℕ) → counts none ≡ 0 → ((d : Digit) → counts d ≤ 1) → (ds : List Digit) (k : ℕ)
    → places counts ds / 2 ^ k % 2 ≡ counts (get_or ds k none)
unfolding places
places_bit counts z low [] k = rw z (omega (arith, zero-div (2 ^ k)))
places_bit counts z low (d ∷ ds) zero = omega (arith, low d)
places_bit counts z low (d ∷ ds) (suc k) =
    let half : (counts d + 2 * places counts ds) / 2 ≡ places counts ds = omega (arith, low d) in
    rw (pow-succ' 2 k, ← div-div-eq-div-mul (counts d + 2 * places counts ds) 2 (2 ^ k), half) (places_bit counts z low ds k)

one_sign : (d : Digit) → is_plus d + is_minus d ≡ is_nonzero d
one_sign minus = refl
one_sign none = refl
one_sign plus = refl

-- no place is in both words
pub bits_apart : (ds : List Digit) (k : ℕ) → plus_places ds / 2 ^ k % 2 + minus_places ds / 2 ^ k % 2 ≡ is_nonzero (get_or ds k none)
bits_apart ds k = ap₂ ◌+◌ (places_bit is_plus refl plus_bit ds k) (places_bit is_minus refl minus_bit ds k) ∙ one_sign (get_or ds k none)

-- ---- the difference

worth_is : (d : Digit) → worth d ≡ pos (is_plus d) -ℤ pos (is_minus d)
worth_is minus = refl
worth_is none = refl
worth_is plus = refl

swap : (a b c d : ℤ) → (a +ℤ b) +ℤ (c +ℤ d) ≡ (a +ℤ c) +ℤ (b +ℤ d)
swap a b c d =
    +ℤ_assoc a b (c +ℤ d) ∙ ap (λ x. a +ℤ x) (sym (+ℤ_assoc b c d) ∙ ap (λ x. x +ℤ d) (+ℤ_comm b c) ∙ +ℤ_assoc c b d) ∙ sym (+ℤ_assoc a c (b +ℤ d))

twice_sub : (p q : ℕ) → pos 2 *ℤ (pos p -ℤ pos q) ≡ pos (2 * p) -ℤ pos (2 * q)
twice_sub p q =
    *ℤ_comm (pos 2) (pos p -ℤ pos q) ∙ sub_mul (pos p) (pos q) (pos 2) ∙ ap₂ ◌-ℤ◌ (*ℤ_comm (pos p) (pos 2)) (*ℤ_comm (pos q) (pos 2))

pub words_denote : (ds : List Digit) → pos (plus_places ds) -ℤ pos (minus_places ds) ≡ denoted ds
unfolding denoted places
words_denote [] = refl
words_denote (d ∷ ds) =
    let p = plus_places ds in
    let m = minus_places ds in
    ap (λ z. pos (is_plus d + 2 * p) +ℤ z) (neg_ℤ-+ℤ (pos (is_minus d)) (pos (2 * m)))
    ∙ swap (pos (is_plus d)) (pos (2 * p)) (neg_ℤ (pos (is_minus d))) (neg_ℤ (pos (2 * m)))
    ∙ ap₂ ◌+ℤ◌ (sym (worth_is d)) (sym (twice_sub p m) ∙ ap (λ z. pos 2 *ℤ z) (words_denote ds))

-- ---- the signs changed

opposite_places : (f g : Digit → ℕ) → ((d : Digit) → f (opposite d) ≡ g d) → (ds : List Digit) → places f (map opposite ds) ≡ places g ds
unfolding places
opposite_places f g same [] = refl
opposite_places f g same (d ∷ ds) = ap₂ (λ x n. x + 2 * n) (same d) (opposite_places f g same ds)

pub opposite_plus : (ds : List Digit) → plus_places (map opposite ds) ≡ minus_places ds
opposite_plus = opposite_places is_plus is_minus same
  where
    same : (d : Digit) → is_plus (opposite d) ≡ is_minus d
    same minus = refl
    same none = refl
    same plus = refl

pub opposite_minus : (ds : List Digit) → minus_places (map opposite ds) ≡ plus_places ds
opposite_minus = opposite_places is_minus is_plus same
  where
    same : (d : Digit) → is_minus (opposite d) ≡ is_plus d
    same minus = refl
    same none = refl
    same plus = refl

opposite_nonzero : (d : Digit) → is_nonzero (opposite d) ≡ is_nonzero d
opposite_nonzero minus = refl
opposite_nonzero none = refl
opposite_nonzero plus = refl

pub opposite_nonzeros : (ds : List Digit) → nonzeros (map opposite ds) ≡ nonzeros ds
unfolding nonzeros
opposite_nonzeros [] = refl
opposite_nonzeros (d ∷ ds) = ap₂ ◌+◌ (opposite_nonzero d) (opposite_nonzeros ds)

opposite_sparse : (ds : List Digit) → Sparse ds → Sparse (map opposite ds)
unfolding Sparse
opposite_sparse [] s = tt
opposite_sparse (d ∷ []) s = tt
opposite_sparse (d ∷ e ∷ ds) s = (rw (opposite_nonzero d, opposite_nonzero e) s.0, opposite_sparse (e ∷ ds) s.1)

opposite_ended : (ds : List Digit) → Ended ds → Ended (map opposite ds)
unfolding Ended
opposite_ended [] s = tt
opposite_ended (d ∷ []) s = opposite_nonzero d ∙ s
opposite_ended (d ∷ e ∷ ds) s = opposite_ended (e ∷ ds) s

opposite_denoted : (ds : List Digit) → denoted (map opposite ds) ≡ neg_ℤ (denoted ds)
opposite_denoted ds =
    sym (words_denote (map opposite ds))
    ∙ ap₂ (λ p m. pos p -ℤ pos m) (opposite_plus ds) (opposite_minus ds)
    ∙ +ℤ_comm (pos (minus_places ds)) (neg_ℤ (pos (plus_places ds)))
    ∙ sym (turned (pos (plus_places ds)) (pos (minus_places ds)))
    ∙ ap neg_ℤ (words_denote ds)
  where
    turned : (p m : ℤ) → neg_ℤ (p -ℤ m) ≡ neg_ℤ p +ℤ m
    turned p m = neg_ℤ-+ℤ p (neg_ℤ m) ∙ ap (λ z. neg_ℤ p +ℤ z) (neg_ℤ-neg_ℤ m)

-- ---- the words of a canonic form

pub places_none : (counts : Digit → ℕ) → places counts (canonic 0) ≡ 0
unfolding places
places_none counts = rw canonic_zero

pub places_step : (counts : Digit → ℕ) (n : ℕ) → 0 < n → places counts (canonic n) ≡ counts (lowest n) + 2 * places counts (canonic (above n))
unfolding places
places_step counts n h = rw (canonic_step n h)

-- the first word is n and the second
pub plus_is : (n : ℕ) → plus_places (canonic n) ≡ n + minus_places (canonic n)
plus_is = by_digits (λ n. plus_places (canonic n) ≡ n + minus_places (canonic n)) start step
  where
    start : plus_places (canonic 0) ≡ 0 + minus_places (canonic 0)
    start = omega (arith, places_none is_plus, places_none is_minus)

    sums : {n a : ℕ} {d : Digit} (p m : ℕ) → Split n a d → p ≡ a + m → is_plus d + 2 * p ≡ n + (is_minus d + 2 * m)
    sums p m (split_none e) h = omega arith
    sums p m (split_plus e w) h = omega arith
    sums p m (split_minus e w) h = omega arith

    step : (n : ℕ) → 0 < n → plus_places (canonic (above n)) ≡ above n + minus_places (canonic (above n)) → plus_places (canonic n) ≡ n + minus_places (canonic n)
    step n h ih =
        places_step is_plus n h ∙ sums (plus_places (canonic (above n))) (minus_places (canonic (above n))) (split_of n) ih
        ∙ ap (λ m. n + m) (sym (places_step is_minus n h))

-- twice the second word is below n: by one at least where n is odd, and by two where it is even and not 0
Less : ℕ → ℕ → Type 0
Less n m = 2 * m + min n (2 - n % 2) ≤ n

less_step : {n a : ℕ} {d : Digit} (m : ℕ) → Split n a d → 0 < n → Less a m → Less n (is_minus d + 2 * m)
unfolding Less
less_step m (split_none e) h l = omega arith
less_step m (split_plus e w) h l = omega arith
less_step {n} {a} m (split_minus e w) h l =
    let two : 2 ≤ a = omega arith in
    let odd : n % 2 ≡ 1 = omega arith in
    omega arith

pub minus_half : (n : ℕ) → 2 * minus_places (canonic n) ≤ n
unfolding Less
minus_half n = let l = by_digits (λ k. Less k (minus_places (canonic k))) start step n in omega arith
  where
    start : Less 0 (minus_places (canonic 0))
    start = omega (arith, places_none is_minus)

    step : (n : ℕ) → 0 < n → Less (above n) (minus_places (canonic (above n))) → Less n (minus_places (canonic n))
    step n h ih = rw (places_step is_minus n h) (less_step (minus_places (canonic (above n))) (split_of n) h ih)

-- ---- the words of a constant

-- by its sign, as code tests it
pub form_above : (t : ℤ) → lt_z t (pos 0) ≡ false → form_of t ≡ canonic (nat_abs t)
unfolding form_of
form_above (pos n) e = refl
form_above (negsuc n) e = absurd (let z : ◌≡◌ {A = ℕ} 0 1 = cc in omega arith)

pub form_below : (t : ℤ) → lt_z t (pos 0) ≡ true → form_of t ≡ map opposite (canonic (nat_abs t))
unfolding form_of
form_below (pos n) e = absurd (not-suc-le-zero (ltb-true n 0 e))
form_below (negsuc n) e = refl

-- it is the constant's, canonic too
pub form_denotes : (t : ℤ) → denoted (form_of t) ≡ t
unfolding form_of
form_denotes (pos n) = (canonic_is n).denotes
form_denotes (negsuc n) = opposite_denoted (canonic (suc n)) ∙ ap neg_ℤ (canonic_is (suc n)).denotes

pub form_sparse : (t : ℤ) → Sparse (form_of t)
unfolding form_of
form_sparse (pos n) = (canonic_is n).sparse
form_sparse (negsuc n) = opposite_sparse (canonic (suc n)) (canonic_is (suc n)).sparse

pub form_ended : (t : ℤ) → Ended (form_of t)
unfolding form_of
form_ended (pos n) = (canonic_is n).ended
form_ended (negsuc n) = opposite_ended (canonic (suc n)) (canonic_is (suc n)).ended

-- the first less the second is the constant
pub form_back : (t : ℤ) → pos (plus_places (form_of t)) -ℤ pos (minus_places (form_of t)) ≡ t
form_back t = words_denote (form_of t) ∙ form_denotes t

-- both fit 32 bits, and at most sixteen places are in them
pub record FormFits (ds : List Digit) : Type 0 where
  pub plus : plus_places ds < 2 ^ 32
  pub minus : minus_places ds < 2 ^ 32
  pub count : nonzeros ds ≤ 16

pub form_fits : (t : ℤ) → nat_abs t ≤ 2 ^ 31 → FormFits (form_of t)
unfolding form_of
form_fits (pos n) h =
    record {
      plus = omega (arith, plus_is n, minus_half n);
      minus = omega (arith, minus_half n);
      count = omega (arith, few_nonzeros 31 n h);
    }
form_fits (negsuc n) h =
    let ds = canonic (suc n) in
    record {
      plus = omega (arith, opposite_plus ds, minus_half (suc n));
      minus = omega (arith, opposite_minus ds, plus_is (suc n), minus_half (suc n));
      count = omega (arith, opposite_nonzeros ds, few_nonzeros 31 (suc n) h);
    }

-- at both ends: 2147483647 is 2 ^ 31 - 1, and -2147483648 is - 2 ^ 31
pub greatest_form : form_words (form_of (pos 2147483647)) ≡ 2147483648 ∷ 1 ∷ []
unfolding form_of canonic digits_in places
greatest_form = refl

pub least_form : form_words (form_of (negsuc 2147483647)) ≡ 0 ∷ 2147483648 ∷ []
unfolding form_of canonic digits_in places
least_form = refl
