-- Numbers in a text: a run of digits in the order in which a reader meets it, the number that it says, and what a number that was read is;
-- and a number written, digit by digit. Assumes nothing.
use mathlib.Core.Path.{◌≡◌, refl, ap, ◌∙◌, sym}
use mathlib.Core.Bool.{Bool, true, false, cond, not}
use mathlib.Core.List.{List, [], ◌∷◌, ◌++◌}
use mathlib.Core.Logic.{◌⊎◌, inl, inr, ⊎_elim}
use Prim.Native.Nat.{ℕ, zero, suc, ◌+◌, ◌-◌, ◌*◌, ◌/◌, ◌%◌, ◌^◌, ◌≤◌, ◌<◌}
use native.Mathlib.Nat.{mul_assoc, mul-le-mul_right, pow-succ', pow-le-pow_right}
use native.Mathlib.Numerals.{add-one}
use native.Mathlib.Omega.{arith}
use lib.Dec.{eqb, leb, ltb}
use lib.IntN.{ℤ}
use lib.ListN.{length, take, drop, get_or, drop_of_length-le, get_or-eq_default}
use lib.Seq.{drop-cons}
use borrow.Author.Tests.{lt-ltb, le-ltb, ltb-true, ltb-false, eq-eqb, ne_eqb, leb-true, lt-leb, eqb-true, eqb-false, not-true}
use mir.Syntax.{w32}
use mir.Val.{SFits}
use Rattle.std.specs.Prelude.{Option, Some, None}
use Rattle.std.proofs.lemmas.Option.{cond_some, none-some}
use Rattle.meaning.specs.Text.{is_digit, span, value_of, ranged, is_plain, unsigned_at, number_at, decimal_in, signed_text, text_of}

-- ---- a run of digits, byte by byte

pub rest_cons : (s : List ℕ) {i : ℕ} → i < length s → drop i s ≡ get_or s i 0 ∷ drop (i + 1) s
rest_cons s {i} h = rw (drop-cons s i 0, add-one)

module _ (s : List ℕ) {i : ℕ} where
  pub span_more : i < length s → is_digit (get_or s i 0) ≡ true → span (drop i s) ≡ suc (span (drop (i + 1) s))
  span_more h e = rw (rest_cons s h, e)

  pub span_stop : i < length s → is_digit (get_or s i 0) ≡ false → span (drop i s) ≡ 0
  span_stop h e = rw (rest_cons s h, e)

  pub span_end : length s ≤ i → span (drop i s) ≡ 0
  span_end h = ap span (drop_of_length-le s {i = i} h)

digit_by : (c : ℕ) (b d : Bool) → ltb c 48 ≡ b → ltb c 58 ≡ d → cond b false d ≡ true → (48 ≤ c) × (c < 58)
digit_by c true d p q e = let z : ◌≡◌ {A = ℕ} 0 1 = cc in omega arith
digit_by c false true p q e = (ltb-false c 48 p, ltb-true c 58 q)
digit_by c false false p q e = let z : ◌≡◌ {A = ℕ} 0 1 = cc in omega arith

pub digit_range : (c : ℕ) → is_digit c ≡ true → (48 ≤ c) × (c < 58)
digit_range c e = digit_by c (ltb c 48) (ltb c 58) refl refl e

digit_of : (s : List ℕ) {i : ℕ} (b : Bool) → i < length s → is_digit (get_or s i 0) ≡ b → 0 < span (drop i s) → b ≡ true
digit_of s true h e p = refl
digit_of s false h e p = let z = span_stop s h e in let y : ⊥ = omega arith in absurd y

-- where digits are left, the next byte is one
pub span_digit : (s : List ℕ) {i : ℕ} → i < length s → 0 < span (drop i s) → is_digit (get_or s i 0) ≡ true
span_digit s {i} h p = digit_of s (is_digit (get_or s i 0)) h refl p

-- ---- a run of more than 10 digits is out of range

span_by : (b : Bool) (m n : ℕ) → m ≤ n → cond b (suc m) 0 ≤ suc n
span_by true m n h = omega arith
span_by false m n h = omega arith

pub span_le : (xs : List ℕ) → span xs ≤ length xs
span_le [] = omega arith
span_le (x ∷ xs) = span_by (is_digit x) (span xs) (length xs) (span_le xs)

value_low : (v k : ℕ) (xs : List ℕ) → k ≤ length xs → v * 10 ^ k ≤ value_of v (take k xs)
value_low v zero xs h = omega arith
value_low v (suc k) [] h = omega arith
value_low v (suc k) (x ∷ xs) h =
    let i : (v * 10 + (x - 48)) * 10 ^ k ≤ value_of (v * 10 + (x - 48)) (take k xs) = value_low (v * 10 + (x - 48)) k xs (omega arith) in
    let m : (v * 10) * 10 ^ k ≤ (v * 10 + (x - 48)) * 10 ^ k = mul-le-mul_right (10 ^ k) (omega arith) in
    let e : v * 10 ^ suc k ≡ (v * 10) * 10 ^ k = ap (λ (q : ℕ). v * q) (pow-succ' 10 k) ∙ sym (mul_assoc v 10 (10 ^ k)) in
    omega arith

ranged_big : (n : Bool) (v next : ℕ) → 2147483648 < v → ranged n v next ≡ None
ranged_big true v next h = simp (ne_eqb v 0 (λ (e : v ≡ 0). omega arith), lt-leb _ _ h)
ranged_big false v next h = simp (le-ltb v 2147483648 (omega arith))

pub plain_long : (k c : ℕ) → 1 < k → is_plain k c ≡ true → c ≡ 48 → ⊥
plain_long k c h e =
    let e0 = ne_eqb k 0 (λ (q : k ≡ 0). omega arith) in
    let e1 = ne_eqb k 1 (λ (q : k ≡ 1). omega arith) in
    let f : not (eqb c 48) ≡ true = rw (e0, e1) at e in
    eqb-false c 48 (not-true (eqb c 48) f)

value_long : (s : List ℕ) (p k : ℕ) → p < length s → k ≡ span (drop p s) → 10 < k → is_plain k (get_or s p 0) ≡ true
    → 2147483648 < value_of 0 (take k (drop p s))
value_long s p k l ek h e =
    let c : ℕ = get_or s p 0 in
    let d : (48 ≤ c) × (c < 58) = digit_range c (span_digit s l (omega arith)) in
    let n48 : c ≡ 48 → ⊥ = plain_long k c (omega arith) e in
    let g : 1 ≤ c - 48 = omega arith in
    let j : ℕ = k - 1 in
    let ej : k ≡ suc (k - 1) = omega arith in
    let v : value_of 0 (take k (drop p s)) ≡ value_of (0 * 10 + (c - 48)) (take j (drop (p + 1) s)) =
    ap (λ (q : ℕ). value_of 0 (take q (drop p s))) ej
    ∙ ap (λ (r : List ℕ). value_of 0 (take (suc (k - 1)) r)) (rest_cons s l) in
    let sp : span (drop p s) ≡ suc (span (drop (p + 1) s)) = span_more s l (span_digit s l (omega arith)) in
    let le : j ≤ length (drop (p + 1) s) = omega (arith, span_le (drop (p + 1) s)) in
    let w : (0 * 10 + (c - 48)) * 10 ^ j ≤ value_of (0 * 10 + (c - 48)) (take j (drop (p + 1) s)) = value_low (0 * 10 + (c - 48)) j (drop (p + 1) s) le in
    let m : 1 * 10 ^ j ≤ (0 * 10 + (c - 48)) * 10 ^ j = mul-le-mul_right (10 ^ j) (omega arith) in
    let p10 : 10 ^ 10 ≤ 10 ^ j = pow-le-pow_right {n = 10} (omega arith) {i = 10} {j = j} (omega arith) in
    omega arith

-- ---- the number at a place

module _ (n : Bool) (s : List ℕ) (p : ℕ) where
  pub unsigned_none : span (drop p s) ≡ 0 → unsigned_at n s p ≡ None
  unfolding unsigned_at
  unsigned_none e = rw e refl

  pub unsigned_bad : is_plain (span (drop p s)) (get_or s p 0) ≡ false → unsigned_at n s p ≡ None
  unfolding unsigned_at
  unsigned_bad e = rw e refl

  pub unsigned_good : is_plain (span (drop p s)) (get_or s p 0) ≡ true
      → unsigned_at n s p ≡ ranged n (value_of 0 (take (span (drop p s)) (drop p s))) (p + span (drop p s))
  unfolding unsigned_at
  unsigned_good e = rw e refl

  pub unsigned_long : p < length s → 10 < span (drop p s) → is_plain (span (drop p s)) (get_or s p 0) ≡ true → unsigned_at n s p ≡ None
  unsigned_long l h e = unsigned_good e ∙ ranged_big n _ _ (value_long s p (span (drop p s)) l refl h e)

module _ (s : List ℕ) (at : ℕ) where
  pub number_minus : get_or s at 0 ≡ 45 → number_at s at ≡ unsigned_at true s (at + 1)
  unfolding number_at
  number_minus e = rw (eq-eqb _ _ e) refl

  pub number_plain : (get_or s at 0 ≡ 45 → ⊥) → number_at s at ≡ unsigned_at false s at
  unfolding number_at
  number_plain e = rw (ne_eqb _ _ e) refl

  pub number_none : length s ≤ at → number_at s at ≡ None
  number_none h =
      let z : get_or s at 0 ≡ 0 = get_or-eq_default s 0 h in
      number_plain (λ (e : get_or s at 0 ≡ 45). omega arith) ∙ unsigned_none false s at (span_end s h)

-- ---- a number that was read: it takes at least one byte, fits signed 32 bits, and its text is its sign and its value's

pub no_some : {A B : Type 0} {a : A} → None ≡ Some a → B
no_some {a = a} e = absurd (none-some a e)

-- what is there under a test
pub under_test : {A : Type 0} (b : Bool) (o : Option A) {a : A} → cond b o None ≡ Some a → (b ≡ true) × (o ≡ Some a)
under_test true o e = (refl, e)
under_test false o e = no_some e

not_under_test : {A : Type 0} (b : Bool) (o : Option A) {a : A} → cond b None o ≡ Some a → (b ≡ false) × (o ≡ Some a)
not_under_test true o e = no_some e
not_under_test false o e = (refl, e)

pub record Ranged (n : Bool) (v next : ℕ) (z : ℤ) (p : ℕ) : Type 0 where
  pub place : p ≡ next
  pub fits : SFits w32 z
  pub small : v < 2 ^ 32
  pub text : text_of z ≡ signed_text n v

ranged_is : {n : Bool} {v next : ℕ} {y z : ℤ} {p : ℕ} → SFits w32 y → v < 2 ^ 32 → text_of y ≡ signed_text n v → ◌≡◌ {A = ℤ × ℕ} (y, next) (z, p)
    → Ranged n v next z p
ranged_is {y = y} {z = z} f h t e =
    let j : y ≡ z = ap (λ (r : ℤ × ℕ). r.0) e in
    record { place = sym (ap (λ (r : ℤ × ℕ). r.1) e); fits = rw j at f; small = h; text = ap text_of (sym j) ∙ t }

ranged_read : (n : Bool) (v next : ℕ) (z : ℤ) (p : ℕ) → ranged n v next ≡ Some (z, p) → Ranged n v next z p
ranged_read true v next z p e =
    let (h, g) = not_under_test (eqb v 0) _ e in
    let (l, i) = cond_some (leb v 2147483648) _ _ g in
    let k = leb-true v 2147483648 l in
    let m = eqb-false v 0 h in
    let is : suc (v - 1) ≡ v = omega arith in
    ranged_is (record { sfits = omega arith }) (omega arith) (ap (signed_text true) is) i
ranged_read false v next z p e =
    let (l, i) = cond_some (ltb v 2147483648) _ _ e in
    let k = ltb-true v 2147483648 l in
    ranged_is (record { sfits = k }) (omega arith) refl i

plain_some : (k c : ℕ) → is_plain k c ≡ true → 0 < k
plain_some zero c e = let x : ◌≡◌ {A = ℕ} 0 1 = cc in omega arith
plain_some (suc k) c e = omega arith

-- the digits are plain, and say the number
pub unsigned_read : (n : Bool) (s : List ℕ) (at : ℕ) (z : ℤ) (p : ℕ) → unsigned_at n s at ≡ Some (z, p)
    → (is_plain (span (drop at s)) (get_or s at 0) ≡ true) × Ranged n (value_of 0 (take (span (drop at s)) (drop at s))) (at + span (drop at s)) z p
unfolding unsigned_at
unsigned_read n s at z p e =
    let k : ℕ = span (drop at s) in
    let (h, r) = under_test (is_plain k (get_or s at 0)) (ranged n (value_of 0 (take k (drop at s))) (at + k)) e in
    (h, ranged_read n (value_of 0 (take k (drop at s))) (at + k) z p r)

-- with a sign, or without
pub sign_read : (s : List ℕ) (at : ℕ) (z : ℤ) (p : ℕ) → number_at s at ≡ Some (z, p)
    → ((get_or s at 0 ≡ 45) × (unsigned_at true s (at + 1) ≡ Some (z, p))) ⊎ (unsigned_at false s at ≡ Some (z, p))
unfolding number_at
sign_read s at z p e = go (eqb (get_or s at 0) 45) refl e
  where
    go : (b : Bool) → eqb (get_or s at 0) 45 ≡ b → cond b (unsigned_at true s (at + 1)) (unsigned_at false s at) ≡ Some (z, p)
        → ((get_or s at 0 ≡ 45) × (unsigned_at true s (at + 1) ≡ Some (z, p))) ⊎ (unsigned_at false s at ≡ Some (z, p))
    go true h g = inl (eqb-true _ _ h, g)
    go false h g = inr g

pub number_read : (s : List ℕ) (at : ℕ) (z : ℤ) (p : ℕ) → number_at s at ≡ Some (z, p) → (at < p) × SFits w32 z
number_read s at z p e = ⊎_elim (λ (_, g). let (l, f) = by true (at + 1) g in (omega arith, f)) (by false at) (sign_read s at z p e)
  where
    by : (n : Bool) (i : ℕ) → unsigned_at n s i ≡ Some (z, p) → (i < p) × SFits w32 z
    by n i g = let (h, r) = unsigned_read n s i z p g in let k = plain_some (span (drop i s)) (get_or s i 0) h in let l = r.place in (omega arith, r.fits)

-- ---- a number written

module _ (f n : ℕ) where
  pub dec_small : n < 10 → decimal_in (suc f) n ≡ (48 + n) ∷ []
  dec_small h = rw (lt-ltb n 10 h)

  pub dec_large : 10 ≤ n → decimal_in (suc f) n ≡ decimal_in f (n / 10) ++ ((48 + n % 10) ∷ [])
  dec_large h = rw (le-ltb n 10 h)
