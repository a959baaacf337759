-- The two words of a form in the code's terms: the digits -1 as they are added up, the words of a signed constant, and the call. Assumes nothing.
use mathlib.Core.Path.{◌≡◌, sym, ap, ◌∙◌}
use mathlib.Core.Bool.{true, false}
use mathlib.Core.List.{List, map}
use Prim.Native.Nat.{ℕ, ◌+◌, ◌*◌, ◌/◌, ◌%◌, ◌^◌, ◌≤◌, ◌<◌}
use native.Mathlib.Nat.{mul-le-mul_left, mul-le-mul_right}
use native.Mathlib.Omega.{arith}
use borrow.Author.Tests.{eq-eqb, ne_eqb}
use lib.IntN.{ℤ, pos, negsuc, nat_abs}
use lib.ListN.{length}
use lib.Signed.{lt_z}
use mir.Syntax.{w32}
use mir.Val.{SFits}
use Rattle.std.specs.Prelude.{Ok, Err}
use Rattle.meaning.specs.declared.Refusal.TheVariants as no
use Rattle.meaning.specs.Basics.{over}
use Rattle.meaning.specs.Digits.{Digit, nonzeros, lowest, above, canonic, opposite, form_of, is_minus, plus_places, minus_places, form_words}
use Rattle.meaning.specs.Refusals.{Done, given, told, canonic_told, canonic_written}
use Rattle.laws.proofs.Digits.Canonic.{Split, split_none, split_plus, split_minus, split_of}
use Rattle.laws.proofs.Digits.Places.{minus_bit, opposite_plus, opposite_minus, opposite_nonzeros, places_none, places_step, plus_is, minus_half, form_above, form_below}
use Rattle.laws.proofs.Refusals.Stages.{over_none, short_room, enough_room}
use Rattle.digits.specs.declared.Places.{Places}
use Rattle.digits.specs.Held.{end_sign, places_held}

-- ---- the digits -1, added from the lowest place up: those of what is left stand `power` times as high

pub record Adding (n minus power rest : ℕ) : Type 0 where
  pub whole : minus + power * minus_places (canonic rest) ≡ minus_places (canonic n)
  pub reach : power * rest ≤ n + minus

sign_is : (n : ℕ) → end_sign n ≡ is_minus (lowest n)
sign_is n = go (split_of n)
  where
    go : {a : ℕ} {d : Digit} → Split n a d → end_sign n ≡ is_minus d
    go (split_none e) = rw (ne_eqb (n % 4) 3 (omega arith))
    go {a} (split_plus e w) = let f : n ≡ 4 * (a / 2) + 1 = omega arith in rw (ne_eqb (n % 4) 3 (omega arith))
    go {a} (split_minus e w) = let f : n + 1 ≡ 4 * (a / 2) = omega arith in rw (eq-eqb (n % 4) 3 (omega arith))

doubled : {n a : ℕ} {d : Digit} → Split n a d → 2 * a ≤ n + is_minus d
doubled (split_none e) = omega arith
doubled (split_plus e w) = omega arith
doubled (split_minus e w) = omega arith

pub add_step : (n minus power rest : ℕ) → Adding n minus power rest → 0 < rest → Adding n (minus + end_sign rest * power) (power * 2) (above rest)
add_step n minus power rest f h =
    let s = end_sign rest in
    let digits : minus_places (canonic rest) ≡ s + 2 * minus_places (canonic (above rest)) = rw (sign_is rest) (places_step is_minus rest h) in
    let twice : 2 * above rest ≤ rest + s = rw (sign_is rest) (doubled (split_of rest)) in
    record {
      whole = omega (arith, ap (λ m. power * m) digits);
      reach = omega (arith, mul-le-mul_left power twice);
    }

-- while something is left, all that a turn works out fits
pub record Turn (minus power s : ℕ) : Type 0 where
  pub term : s * power < 2 ^ 33
  pub sum : minus + s * power < 2 ^ 34
  pub next : power * 2 < 2 ^ 34

pub add_low : (n minus power rest s : ℕ) → Adding n minus power rest → n < 2 ^ 32 → 0 < rest → s ≡ end_sign rest → Turn minus power s
add_low n minus power rest s f l h e =
    let bit : s ≤ 1 = omega (arith, e, sign_is rest, minus_bit (lowest rest)) in
    let term : s * power ≤ 1 * power = mul-le-mul_right power bit in
    let high : power < 2 ^ 33 = omega (arith, minus_half n, mul-le-mul_left power h) in
    record { term = omega arith; sum = omega (arith, minus_half n); next = omega arith }

pub add_end : (n minus power rest : ℕ) → Adding n minus power rest → rest ≡ 0 → minus ≡ minus_places (canonic n)
add_end n minus power rest f z =
    let none : minus_places (canonic rest) ≡ 0 = ap (λ k. minus_places (canonic k)) z ∙ places_none is_minus in
    omega (arith, f.whole, ap (λ m. power * m) none)

-- ---- the form of a constant of 32 bits

-- what the code finds of t: its magnitude n, and of that the digits -1 and how many are nonzero
pub record Found (t : ℤ) (n low count : ℕ) : Type 0 where
  pub size : n ≡ nat_abs t
  pub minus : low ≡ minus_places (canonic n)
  pub digits : count ≡ nonzeros (canonic n)

-- the two words of its form and how many are nonzero
pub record Words (t : ℤ) (p m k : ℕ) : Type 0 where
  pub plus : p ≡ plus_places (form_of t)
  pub minus : m ≡ minus_places (form_of t)
  pub digits : k ≡ nonzeros (form_of t)

abs_low : (t : ℤ) → SFits w32 t → nat_abs t ≤ 2 ^ 31
abs_low (pos n) h = omega arith
abs_low (negsuc n) h = omega arith

module _ (t : ℤ) (n low count : ℕ) (f : Found t n low count) where
  pub found_fits : SFits w32 t → n + low < 2 ^ 32
  found_fits h = omega (arith, f.size, abs_low t h, f.minus, minus_half n)

  high : n + low ≡ plus_places (canonic n)
  high = omega (arith, f.minus, plus_is n)

  pub found_above : lt_z t (pos 0) ≡ false → Words t (n + low) low count
  found_above e =
      let d : canonic n ≡ form_of t = ap canonic f.size ∙ sym (form_above t e) in
      record { plus = high ∙ ap plus_places d; minus = f.minus ∙ ap minus_places d; digits = f.digits ∙ ap nonzeros d }

  pub found_below : lt_z t (pos 0) ≡ true → Words t low (n + low) count
  found_below e =
      let ds = canonic n in
      let d : map opposite ds ≡ form_of t = ap (λ k. map opposite (canonic k)) f.size ∙ sym (form_below t e) in
      record {
        plus = f.minus ∙ sym (opposite_plus ds) ∙ ap plus_places d;
        minus = high ∙ sym (opposite_minus ds) ∙ ap minus_places d;
        digits = f.digits ∙ sym (opposite_nonzeros ds) ∙ ap nonzeros d;
      }

module _ {t : ℤ} where
  pub words_held : {p m k : ℕ} → Words t p m k → record { plus = p; minus = m; count = k } ≡ places_held (form_of t)
  unfolding places_held
  words_held w = rw (w.plus, w.minus, w.digits)

  pub held_words : {q : Places} → q ≡ places_held (form_of t) → Words t q.plus q.minus q.count
  unfolding places_held
  held_words e = record { plus = ap (λ q. q.plus) e; minus = ap (λ q. q.minus) e; digits = ap (λ q. q.count) e }

-- ---- the call: 4 where there is no room, else the two words

pub form_refused : (t : ℤ) (old : List ℕ) → length old < 2 → Done (canonic_told t (length old)) (canonic_written t (length old)) (Err no.Buffer) old old
unfolding canonic_told canonic_written
form_refused t old h =
    let e = short_room 2 (length old) h in
    record { answers = ap (λ a. told a (nonzeros (form_of t))) (sym e); writes = sym (over_none old) ∙ ap (λ a. over (given a (form_words (form_of t))) old) (sym e) }

pub form_done : (t : ℤ) (k : ℕ) (old new : List ℕ) → 2 ≤ length old → k ≡ nonzeros (form_of t) → new ≡ over (form_words (form_of t)) old
    → Done (canonic_told t (length old)) (canonic_written t (length old)) (Ok k) old new
unfolding canonic_told canonic_written
form_done t k old new h f g =
    let e = enough_room 2 (length old) h in
    record {
      answers = ap Ok f ∙ ap (λ a. told a (nonzeros (form_of t))) (sym e);
      writes = g ∙ ap (λ a. over (given a (form_words (form_of t))) old) (sym e);
    }
