-- The extra bits of a value are the least e with 2 ^ e at least it, and there is one such e. Assumes nothing.
use mathlib.Core.Path.{◌≡◌, refl, sym, subst}
use mathlib.Core.Bool.{Bool, true, false}
use Prim.Native.Nat.{ℕ, zero, suc, ◌+◌, ◌-◌, ◌*◌, ◌^◌, ◌≤◌, ◌<◌}
use native.Mathlib.Nat.{le_antisymm, lt_of_not-le, not-le_of_lt, le_of_suc-le-suc, pow-succ'}
use native.Mathlib.Decide.{ℕ_discrete}
use native.Mathlib.Omega.{arith}
use borrow.Author.Tests.{leb-true, leb-false}
use lib.Count.{count_leading_zeros, leading_length}
use lib.Dec.{leb}
use lib.Pow.{pow_mono}
use Rattle.meaning.specs.Widths.{Least, least_from, extra_bits}
use Rattle.laws.proofs.Whole.Zeros.{below_pow}

pub one_least : (v d e : ℕ) → Least v d → Least v e → d ≡ e
one_least v d e a b = le_antisymm (a.least e b.holds) (b.least d a.holds)

-- no power below 2 ^ k is enough, and 2 ^ (k + n) is
search_least : (n k v : ℕ) → ((d : ℕ) → v ≤ 2 ^ d → k ≤ d) → v ≤ 2 ^ (k + n) → Least v (least_from n k v)
unfolding least_from
search_least zero k v low h = record { holds = subst (λ j. v ≤ 2 ^ j) (omega arith) h; least = low }
search_least (suc n) k v low h = go (leb v (2 ^ k)) refl (λ up. search_least n (suc k) v up (subst (λ j. v ≤ 2 ^ j) (omega arith) h))
  where
    go : (b : Bool) → leb v (2 ^ k) ≡ b → (((d : ℕ) → v ≤ 2 ^ d → suc k ≤ d) → Least v (least_from n (suc k) v))
        → Least v (elim b as (λ _. ℕ) [ true ↦ k | false ↦ least_from n (suc k) v ])
    go true e rest = record { holds = leb-true _ _ e; least = low }
    go false e rest = rest (λ d q. next d q (ℕ_discrete k d))
      where
        next : (d : ℕ) → v ≤ 2 ^ d → Dec (k ≡ d) → suc k ≤ d
        next d q (yes p) = absurd (let w : v ≤ 2 ^ k = subst (λ j. v ≤ 2 ^ j) (sym p) q in let z = leb-false v (2 ^ k) e in omega arith)
        next d q (no f) = let l = low d q in omega arith

pub extra_least : (v : ℕ) → Least v (extra_bits v)
unfolding extra_bits
extra_least v =
    let z : v ≡ 0 + v = omega arith in
    let h : v ≤ 2 ^ v = omega (arith, below_pow v) in
    search_least v 0 v (λ d q. omega arith) (subst (λ j. v ≤ 2 ^ j) z h)

pub extra_small : (v : ℕ) → v < 2 ^ 32 → extra_bits v ≤ 32
extra_small v h = (extra_least v).least 32 (omega arith)

-- by the machine's leading zeros of v - 1
no_less : (a m d : ℕ) → 2 ^ m ≤ 2 * a + 1 → a < 2 ^ d → m ≤ d
no_less a m d l h = le_of_suc-le-suc (lt_of_not-le (λ (g : suc d ≤ m). not-le_of_lt (twice g) (pow_mono g)))
  where
    twice : suc d ≤ m → 2 ^ m < 2 ^ suc d
    twice g = omega (arith, pow-succ' 2 d)

pub machine_bits : (v : ℕ) → 0 < v → v < 2 ^ 32 → 32 - count_leading_zeros 32 (v - 1) ≡ extra_bits v
machine_bits v p h =
    let t = leading_length 32 (v - 1) (omega arith) in
    let e : t.0 ≡ 32 - count_leading_zeros 32 (v - 1) = omega (arith, t.1) in
    one_least v _ _ (subst (Least v) e (record { holds = omega (arith, t.2); least = λ d k. no_less (v - 1) t.0 d t.3 (omega (arith, k)) })) (extra_least v)
