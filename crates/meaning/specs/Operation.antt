-- The operation, of u and v with left shifts l1 and l2, a sign s and a right shift r, under the limit L. Assumes nothing.
use Rattle.std.specs.Prelude.{◌≡◌, Bool, cond, List, [], ◌∷◌, ℕ, zero, suc, ◌+◌, ◌*◌, ◌/◌, ◌%◌, ◌^◌, ◌≤◌, ◌<◌, min, leb, ltb, eqb, ℤ, pos, ◌+ℤ◌, ◌-ℤ◌, Option, Some, None}
use Rattle.meaning.specs.declared.Made.{Made}
use Rattle.meaning.specs.Basics.{difference, all, zeros}
use Rattle.meaning.specs.Limits.{bit_tests, limit}

-- the values that operations are for, and have: odd, and below 2^L
abbrev pub Odd : (L c : ℕ) → Type 0
Odd L c = (c % 2 ≡ 1) × (c < 2 ^ L)

-- n = 2^l1 × u + (-1)^s × 2^l2 × v
abbrev pub whole : (u v l1 l2 s : ℕ) → ℤ
whole u v l1 l2 zero = pos (2 ^ l1 * u) +ℤ pos (2 ^ l2 * v)
whole u v l1 l2 (suc s) = pos (2 ^ l1 * u) -ℤ pos (2 ^ l2 * v)

-- |n|
abbrev pub size : (u v l1 l2 s : ℕ) → ℕ
size u v l1 l2 zero = 2 ^ l1 * u + 2 ^ l2 * v
size u v l1 l2 (suc s) = difference (2 ^ l1 * u) (2 ^ l2 * v)

-- what |n| = m comes to: n is not 0, r is the count of m's trailing zero bits, and the value c = m / 2^r is below 2^L
pub record Outcome (L m r c : ℕ) : Type 0 where
  pub nonzero : 0 < m
  pub shift : r ≡ zeros m
  pub value : c ≡ m / 2 ^ r
  pub below : c < 2 ^ L

-- the operation is valid, and its value is c: both shifts are at most L, at least one is 0, s is 0 or 1
pub record Valid (L u v l1 l2 s r c : ℕ) : Type 0 where
  pub left : l1 ≤ L
  pub right : l2 ≤ L
  pub unshifted : min l1 l2 ≡ 0
  pub sign : s ≤ 1
  pub outcome : Outcome L (size u v l1 l2 s) r c

-- some valid operation on u and v has the value c
pub record Gives (L u v c : ℕ) : Type 0 where
  pub l1 : ℕ
  pub l2 : ℕ
  pub s : ℕ
  pub r : ℕ
  pub valid : Valid L u v l1 l2 s r c

-- validity as tests that compute
abbrev pub outcome_tests : (L m r c : ℕ) → List Bool
outcome_tests L m r c = ltb 0 m ∷ eqb r (zeros m) ∷ eqb c (m / 2 ^ r) ∷ ltb c (2 ^ L) ∷ []

unfoldable pub is_outcome : (L m r c : ℕ) → Bool
is_outcome L m r c = all (outcome_tests L m r c)

abbrev pub valid_tests : (L u v l1 l2 s r c : ℕ) → List Bool
valid_tests L u v l1 l2 s r c = leb l1 L ∷ leb l2 L ∷ leb s 1 ∷ eqb (min l1 l2) 0 ∷ is_outcome L (size u v l1 l2 s) r c ∷ []

unfoldable pub is_valid : (L u v l1 l2 s r c : ℕ) → Bool
is_valid L u v l1 l2 s r c = all (valid_tests L u v l1 l2 s r c)

-- what an operation makes, if some r and value make it valid: n, r and the value
unfoldable pub operated : (L u v l1 l2 s : ℕ) → Option Made
operated L u v l1 l2 s =
    let m : ℕ = size u v l1 l2 s in
    let r : ℕ = zeros m in
    let c : ℕ = m / 2 ^ r in
    cond (is_valid L u v l1 l2 s r c) (Some (record { n = whole u v l1 l2 s; r = r; value = c })) None

-- the same under the bit limit b, which is 2 to 16
unfoldable pub operated_under : (b u v l1 l2 s : ℕ) → Option Made
operated_under b u v l1 l2 s = cond (all (bit_tests b)) (operated (limit b) u v l1 l2 s) None
