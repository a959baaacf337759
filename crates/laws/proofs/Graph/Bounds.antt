-- How large the terms of a valid row are: its operands' values are odd and below 2 ^ L, and so its shifted operands and |n| are below 2 ^ (L + 1).
-- Assumes nothing.
use mathlib.Core.Path.{◌≡◌, refl, ◌∙◌, subst, subst⁻¹}
use mathlib.Core.List.{List, [], ◌∷◌, ◌++◌, append_assoc, append-nil}
use Prim.Native.Nat.{ℕ, zero, suc, ◌+◌, ◌*◌, ◌%◌, ◌^◌, ◌≤◌, ◌<◌, min}
use native.Mathlib.Nat.{mul_assoc, div-one, pow-succ', le_of_suc-le-suc}
use native.Mathlib.Omega.{arith}
use lib.Pow.{pow_mono}
use lib.ListN.{length, get_or}
use Rattle.meaning.specs.declared.Row.{Row}
use Rattle.meaning.specs.Operation.{Odd, size, Outcome, Valid}
use Rattle.meaning.specs.Graph.{ready, value_at, Fits, Sound}
use Rattle.laws.proofs.Whole.Zeros.{zeros_of_odd, zeros_low}
use Rattle.laws.proofs.Operation.Result.{exact_of}
use Rattle.laws.proofs.Graph.Rows.{ready_append}

-- values that are odd and below 2 ^ L
abbrev pub Odds : ℕ → List ℕ → Type 0
Odds L vals = (i : ℕ) → i < length vals → Odd L (get_or vals i 0)

odds_end : (L : ℕ) (vals : List ℕ) (c : ℕ) → Odds L vals → Odd L c → Odds L (vals ++ (c ∷ []))
odds_end L [] c o p zero h = p
odds_end L [] c o p (suc i) h = absurd (omega arith)
odds_end L (v ∷ vals) c o p zero h = o 0 (omega arith)
odds_end L (v ∷ vals) c o p (suc i) h = odds_end L vals c (λ j k. o (suc j) (omega arith)) p i (le_of_suc-le-suc h)

-- the values of valid rows are so, with the ones before them
odds_from : (L : ℕ) (before xs : List Row) → Odds L (ready before) → Sound L before xs → Odds L (ready (before ++ xs))
unfolding Sound
odds_from L before [] o s = subst⁻¹ (λ l. Odds L (ready l)) (append-nil before) o
odds_from L before (x ∷ xs) o s =
    let one = odds_end L (ready before) x.value o ((exact_of L _ _ _ s.0.operation.outcome).odd, s.0.operation.outcome.below) in
    subst (λ l. Odds L (ready l)) (append_assoc before (x ∷ []) xs)
    (odds_from L (before ++ (x ∷ [])) xs (subst⁻¹ (Odds L) (ready_append before (x ∷ [])) one) s.1)

pub odds_ready : (L : ℕ) (xs : List Row) → 1 ≤ L → Sound L [] xs → Odds L (ready xs)
odds_ready L xs h s = odds_from L [] xs one s
  where
    one : Odds L (1 ∷ [])
    one zero k = (refl, omega (arith, pow_mono {i = 1} {j = L} h))
    one (suc i) k = absurd (omega arith)

-- what |a ± b| says of a and b: its parity is the sum's, and neither is more than the other and it
record Near (a b m : ℕ) : Type 0 where
  parity : m % 2 ≡ (a + b) % 2
  left : a ≤ m + b
  right : b ≤ m + a
  most : m ≤ a + b

near : (u v l1 l2 s : ℕ) → Near (2 ^ l1 * u) (2 ^ l2 * v) (size u v l1 l2 s)
near u v l1 l2 zero = omega arith
near u v l1 l2 (suc s) = omega arith

-- an odd and an even number have an odd sum and difference
mixed_right : (a b m k : ℕ) → Near a b m → a % 2 ≡ 1 → b ≡ 2 * k → m % 2 ≡ 1
mixed_right a b m k h o e = h.parity ∙ omega arith

mixed_left : (a b m k : ℕ) → Near a b m → b % 2 ≡ 1 → a ≡ 2 * k → m % 2 ≡ 1
mixed_left a b m k h o e = h.parity ∙ omega arith

-- both shifted operands and |n| are below 2 ^ (L + 1)
pub record Low (L u v l1 l2 s r : ℕ) : Type 0 where
  pub left : 2 ^ l1 * u < 2 ^ suc L
  pub right : 2 ^ l2 * v < 2 ^ suc L
  pub sized : size u v l1 l2 s < 2 ^ suc L
  pub shift : r ≤ L

-- where |n| is odd it is the value
odd_value : (L m r c : ℕ) → Outcome L m r c → m % 2 ≡ 1 → m < 2 ^ L
odd_value L m r c k o = rw (k.value, k.shift, zeros_of_odd m o, div-one m) at k.below

module _ (L u v : ℕ) (odd-u : u % 2 ≡ 1) (odd-v : v % 2 ≡ 1) (low-u : u < 2 ^ L) (low-v : v < 2 ^ L) where
  terms : (l1 l2 s r c : ℕ) → min l1 l2 ≡ 0 → Outcome L (size u v l1 l2 s) r c → (2 ^ l1 * u < 2 ^ suc L) × (2 ^ l2 * v < 2 ^ suc L) × (size u v l1 l2 s < 2 ^ suc L)
  terms zero zero s r c z k = let h = near u v 0 0 s in omega (arith, pow-succ' 2 L)
  terms zero (suc l2) s r c z k =
      let h = near u v 0 (suc l2) s in
      let e : 2 ^ suc l2 * v ≡ 2 * (2 ^ l2 * v) = rw (pow-succ' 2 l2, mul_assoc 2 (2 ^ l2) v) refl in
      let m = odd_value L _ r c k (mixed_right (2 ^ 0 * u) (2 ^ suc l2 * v) (size u v 0 (suc l2) s) (2 ^ l2 * v) h (omega arith) e) in
      omega (arith, pow-succ' 2 L)
  terms (suc l1) zero s r c z k =
      let h = near u v (suc l1) 0 s in
      let e : 2 ^ suc l1 * u ≡ 2 * (2 ^ l1 * u) = rw (pow-succ' 2 l1, mul_assoc 2 (2 ^ l1) u) refl in
      let m = odd_value L _ r c k (mixed_left (2 ^ suc l1 * u) (2 ^ 0 * v) (size u v (suc l1) 0 s) (2 ^ l1 * u) h (omega arith) e) in
      omega (arith, pow-succ' 2 L)
  terms (suc l1) (suc l2) s r c z k = absurd (omega arith)

  pub valid_low : (l1 l2 s r c : ℕ) → Valid L u v l1 l2 s r c → Low L u v l1 l2 s r
  valid_low l1 l2 s r c k =
      let (a, b, m) = terms l1 l2 s r c k.unshifted k.outcome in
      record {
        left = a;
        right = b;
        sized = m;
        shift = le_of_suc-le-suc (rw k.outcome.shift (zeros_low (suc L) (size u v l1 l2 s) k.outcome.nonzero m));
      }

pub fits_low : (L : ℕ) (before : List Row) (y : Row) → Odds L (ready before) → Fits L before y
    → Low L (value_at before y.u) (value_at before y.v) y.l1 y.l2 y.s y.r
fits_low L before y o f =
    let (a, b) = o y.u f.first in
    let (c, d) = o y.v f.second in
    valid_low L _ _ a c b d y.l1 y.l2 y.s y.r y.value f.operation
