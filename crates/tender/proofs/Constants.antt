-- What the two calls on one constant write. Assumes nothing.
use mathlib.Core.Path.{◌≡◌, refl, sym, ap, ◌∙◌, subst₂}
use Rattle.std.specs.Prelude.{Ok}
use mathlib.Core.List.{List, [], ◌∷◌, ◌++◌}
use mathlib.Core.Logic.{inl, inr}
use Prim.Native.Nat.{ℕ, zero, suc, ◌+◌, ◌≤◌}
use native.Mathlib.Omega.{arith}
use lib.IntN.{ℤ, pos, negsuc, nat_abs}
use lib.ListN.{length, get_or, drop}
use Rattle.meaning.specs.Basics.{over, zeros_in, zeros}
use Rattle.meaning.specs.Constants.{sign_of, shift_of, odd_of, apart, part_words}
use Rattle.meaning.specs.Digits.{Digit, minus, none, plus, is_nonzero, nonzeros, Sparse, canonic, form_of, plus_places, minus_places, form_words}
use Rattle.laws.proofs.Refusals.Stages.{told_accepts}
use Rattle.meaning.specs.Refusals.{Accepted, buffer, given, apart_told, apart_written, canonic_told, canonic_written}
use Rattle.meaning.specs.Calls.{TakesApart, WritesForm}
use Rattle.laws.proofs.Constants.Apart.{apart_whole, apart_proper}
use Rattle.laws.proofs.Digits.Places.{bits_apart, opposite_nonzeros, form_back, form_sparse}
use Rattle.tender.specs.Words.{TakenApart, Written, nonzero_digits}
use Rattle.tender.specs.Constants.{FormOf, Constants}
use Rattle.tender.proofs.Condition3.{count_is}

-- ---- a constant taken apart

some_not : (t : ℤ) → ¬ (nat_abs t ≡ 0) → ¬ (t ≡ pos 0)
some_not t n e = n (ap nat_abs e)

pub parts : (t : ℤ) → TakenApart t (sign_of t) (shift_of t) (odd_of t)
unfolding apart zeros zeros_in
parts (pos zero) = record { product = apart_whole (pos 0); parts = inr (refl, refl, refl) }
parts (pos (suc n)) =
    let p = apart_proper (pos (suc n)) (some_not (pos (suc n)) (λ e. omega arith)) in
    record { product = apart_whole (pos (suc n)); parts = inl (p.sign, p.odd) }
parts (negsuc n) =
    let p = apart_proper (negsuc n) (some_not (negsuc n) (λ e. omega arith)) in
    record { product = apart_whole (negsuc n); parts = inl (p.sign, p.odd) }

apart_written_lem : (t : ℤ) (before after : List ℤ) → TakesApart t Accepted before after → Written (sign_of t ∷ pos (shift_of t) ∷ pos (odd_of t) ∷ []) before after
unfolding apart_told apart_written apart over
apart_written_lem t before after d = d.writes ∙ ap (λ a. given a (part_words (apart t)) ++ drop (length (given a (part_words (apart t)))) before) (sym d.answers)

-- ---- its canonic form

-- of two digits that follow each other one is zero, above the highest digit too
sparse_at : (ds : List Digit) → Sparse ds → (k : ℕ) → is_nonzero (get_or ds k none) + is_nonzero (get_or ds (suc k) none) ≤ 1
unfolding Sparse
sparse_at [] s k = omega arith
sparse_at (d ∷ []) s zero = low d
  where
    low : (d : Digit) → is_nonzero d + 0 ≤ 1
    low minus = omega arith
    low none = omega arith
    low plus = omega arith
sparse_at (d ∷ []) s (suc k) = omega arith
sparse_at (d ∷ e ∷ ds) s zero = s.0
sparse_at (d ∷ e ∷ ds) s (suc k) = sparse_at (e ∷ ds) s.1 k

count_of : (t : ℤ) → nonzeros (form_of t) ≡ nonzero_digits (canonic (nat_abs t))
unfolding form_of
count_of (pos n) = count_is (canonic n)
count_of (negsuc n) = opposite_nonzeros (canonic (suc n)) ∙ count_is (canonic (suc n))

form_of_lem : (t : ℤ) (n : ℕ) → n ≡ nonzeros (form_of t) → FormOf t n (plus_places (form_of t)) (minus_places (form_of t))
form_of_lem t n e =
    let ds = form_of t in
    record {
      difference = form_back t;
      sparse = λ k. subst₂ (λ x y. x + y ≤ 1) (sym (bits_apart ds k)) (sym (bits_apart ds (suc k))) (sparse_at ds (form_sparse t) k);
      count = e ∙ count_of t;
    }

form_written : (t : ℤ) (n : ℕ) (before after : List ℕ) → WritesForm t (Ok n) before after
    → (p : ℕ) × (m : ℕ) × FormOf t n p m × Written (p ∷ m ∷ []) before after
unfolding canonic_told canonic_written over
form_written t n before after d =
    let (a, e) = told_accepts (buffer 2 (length before)) (nonzeros (form_of t)) n d.answers in (
      plus_places (form_of t),
      minus_places (form_of t),
      form_of_lem t n e,
      d.writes ∙ ap (λ x. given x (form_words (form_of t)) ++ drop (length (given x (form_words (form_of t)))) before) a,
    )

pub constants : Constants
constants = record { apart = λ t before after d. (parts t, apart_written_lem t before after d); form = form_written }
