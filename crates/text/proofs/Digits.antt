-- A run of digits as std's words say it, and its value, digit by digit. Assumes nothing.
use Rattle.std.proofs.Common.{◌≡◌, refl, ap, ◌∙◌, sym, Bool, true, false, cond, List, [], ◌∷◌, ℕ, suc, ◌+◌, ◌<◌, ◌-◌, length, take, get_or, drop, length-drop, None, arith}
use native.Mathlib.Nat.{add-zero}
use lib.Seq.{take_all, length-take-le, get_or-drop}
use Rattle.std.specs.Char.{is_ascii_digit}
use Rattle.std.specs.List.{take_while}
use Rattle.std.proofs.lemmas.Bool.Decides.{nat_tests}
use Rattle.std.proofs.lemmas.List.Sums.{take_while-cons}
use Rattle.meaning.specs.Text.{is_digit, is_plain, span, value_of, ranged, unsigned_at}
use Rattle.laws.proofs.Text.Numerals.{span_le, unsigned_bad, unsigned_good, unsigned_long}

same_digit : (c : ℕ) → is_ascii_digit c ≡ is_digit c
same_digit c = grind (arith, nat_tests)

pub span_is : (xs : List ℕ) → length (take_while is_ascii_digit xs) ≡ span xs
span_is [] = refl
span_is (x ∷ xs) = ap length (take_while-cons is_ascii_digit x xs) ∙ ap (λ b. length (cond b (x ∷ take_while is_ascii_digit xs) [])) (same_digit x) ∙ go (is_digit x) (span_is xs)
  where
    go : (b : Bool) → length (take_while is_ascii_digit xs) ≡ span xs → length (cond b (x ∷ take_while is_ascii_digit xs) []) ≡ cond b (suc (span xs)) 0
    go true e = ap suc e
    go false e = refl

-- ---- the run of digits at a place

first_of : (xs : List ℕ) → is_plain (length (take (span xs) xs)) (get_or (take (span xs) xs) 0 0) ≡ is_plain (span xs) (get_or xs 0 0)
first_of [] = refl
first_of (x ∷ xs) = go (is_digit x)
  where
    go : (b : Bool) → is_plain (length (take (cond b (suc (span xs)) 0) (x ∷ xs))) (get_or (take (cond b (suc (span xs)) 0) (x ∷ xs)) 0 0) ≡ is_plain (cond b (suc (span xs)) 0) x
    go true = ap (λ n. is_plain (suc n) x) (length-take-le (span xs) xs (span_le xs))
    go false = refl

all_digits : (xs : List ℕ) → span (take (span xs) xs) ≡ span xs
all_digits [] = refl
all_digits (x ∷ xs) = go (is_digit x) refl (all_digits xs)
  where
    go : (b : Bool) → is_digit x ≡ b → span (take (span xs) xs) ≡ span xs → span (take (cond b (suc (span xs)) 0) (x ∷ xs)) ≡ cond b (suc (span xs)) 0
    go true e h = rw e (ap suc h)
    go false e h = refl

-- n are the digits of what is left of s at p
module _ (s : List ℕ) (p n : ℕ) (k : n ≡ span (take (length s - p) (drop p s))) where
  abbrev rest : List ℕ
  rest = take (length s - p) (drop p s)

  abbrev is_number : Bool
  is_number = is_plain (length (take n rest)) (get_or (take n rest) 0 0)

  rest_is : rest ≡ drop p s
  rest_is = take_all (length s - p) (drop p s) (omega (arith, length-drop p s))

  count_is : n ≡ span (drop p s)
  count_is = k ∙ ap span rest_is

  number_is : is_number ≡ is_plain (span (drop p s)) (get_or s p 0)
  number_is = rw (count_is, rest_is) (first_of (drop p s) ∙ ap (is_plain (span (drop p s))) (get_or-drop p s 0 0 ∙ ap (λ i. get_or s i 0) (add-zero p)))

  pub run_within : n ≡ length (take n rest)
  run_within = sym (length-take-le n rest (omega (arith, span_le rest)))

  pub run_digits : span (take n rest) ≡ length (take n rest)
  run_digits = rw k (all_digits rest ∙ sym (length-take-le (span rest) rest (span_le rest)))

  module _ (negative : Bool) where
    pub run_bad : is_number ≡ false → None ≡ unsigned_at negative s p
    run_bad e = sym (unsigned_bad negative s p (sym number_is ∙ e))

    pub run_long : is_number ≡ true → 10 < n → None ≡ unsigned_at negative s p
    run_long e h =
        let l = span_le (drop p s) in
        let m = length-drop p s in
        sym (unsigned_long negative s p (omega (arith, count_is)) (omega (arith, count_is)) (sym number_is ∙ e))

    pub run_good : is_number ≡ true → ranged negative (value_of 0 (take n rest)) (p + n) ≡ unsigned_at negative s p
    run_good e = rw (count_is, rest_is) (sym (unsigned_good negative s p (sym number_is ∙ e)))
