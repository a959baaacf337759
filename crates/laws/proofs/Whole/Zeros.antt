-- What the count of trailing zeros says: it is the one r with n an odd number times 2 ^ r, at every width of the machine too. Assumes nothing.
use mathlib.Core.Path.{◌≡◌, refl, sym, ap, ◌∙◌}
use Prim.Native.Nat.{ℕ, zero, suc, ◌*◌, ◌/◌, ◌%◌, ◌^◌, ◌≤◌, ◌<◌}
use native.Mathlib.Nat.{pow-suc, pow-succ', div-div-eq-div-mul, mul_assoc, mul_comm, mul-div_cancel, mod-lt, le-mul_of_pos_right}
use native.Mathlib.Omega.{arith}
use native.Mathlib.Decide.{dec_le}
use lib.Count.{count_trailing_zeros, under}
use lib.Dec.{lit<}
use lib.Pow.{pow_mono, pow_pos}
use Rattle.meaning.specs.Basics.{zeros_in, zeros}

pub data Parity (n : ℕ) : Type 0 where
  even : n % 2 ≡ 0 → Parity n
  odd : n % 2 ≡ 1 → Parity n

pub parity : (n : ℕ) → Parity n
parity n = go (n % 2) refl
  where
    go : (d : ℕ) → n % 2 ≡ d → Parity n
    go zero e = even e
    go (suc zero) e = odd e
    go (suc (suc d)) e = absurd (omega (arith, mod-lt n {m = 2} (lit< tt)))

pub below_pow : (n : ℕ) → n < 2 ^ n
below_pow zero = omega arith
below_pow (suc n) = omega (arith, below_pow n, pow-succ' 2 n)

-- ---- the count in k halvings

zeros_even : (k n : ℕ) → n % 2 ≡ 0 → zeros_in (suc k) n ≡ suc (zeros_in k (n / 2))
unfolding zeros_in
zeros_even k n e = rw (e, zeros_in)

zeros_odd : (k n : ℕ) → n % 2 ≡ 1 → zeros_in (suc k) n ≡ 0
unfolding zeros_in
zeros_odd k n e = rw (e, zeros_in)

zeros_exact : (k n : ℕ) → n / 2 ^ zeros_in k n * 2 ^ zeros_in k n ≡ n
zeros_exact zero n = unfold zeros_in in (omega arith)
zeros_exact (suc k) n = go (parity n) (zeros_exact k (n / 2))
  where
    go : Parity n → n / 2 / 2 ^ zeros_in k (n / 2) * 2 ^ zeros_in k (n / 2) ≡ n / 2 → n / 2 ^ zeros_in (suc k) n * 2 ^ zeros_in (suc k) n ≡ n
    go (even e) ih = rw (zeros_even k n e, pow-succ' 2 (zeros_in k (n / 2)), ← div-div-eq-div-mul n 2 (2 ^ zeros_in k (n / 2))) (omega arith)
    go (odd e) ih = rw (zeros_odd k n e) (omega arith)

zeros_odd_left : (k n : ℕ) → 0 < n → n < 2 ^ k → n / 2 ^ zeros_in k n % 2 ≡ 1
zeros_odd_left zero n p h = absurd (omega (arith, h))
zeros_odd_left (suc k) n p h = go (parity n) (λ q l. zeros_odd_left k (n / 2) q l)
  where
    go : Parity n → (0 < n / 2 → n / 2 < 2 ^ k → n / 2 / 2 ^ zeros_in k (n / 2) % 2 ≡ 1) → n / 2 ^ zeros_in (suc k) n % 2 ≡ 1
    go (even e) ih =
        rw (zeros_even k n e, pow-succ' 2 (zeros_in k (n / 2)), ← div-div-eq-div-mul n 2 (2 ^ zeros_in k (n / 2)))
        (ih (omega arith) (omega (arith, pow-succ' 2 k)))
    go (odd e) ih = rw (zeros_odd k n e) (omega arith)

zeros_of : (k r m : ℕ) → m % 2 ≡ 1 → r < k → zeros_in k (m * 2 ^ r) ≡ r
zeros_of zero r m o h = absurd (omega arith)
zeros_of (suc k) zero m o h = zeros_odd k (m * 2 ^ 0) (omega arith)
zeros_of (suc k) (suc r) m o h =
    let twice : m * 2 ^ suc r ≡ m * 2 ^ r * 2 = ap (λ x. m * x) (pow-suc 2 r) ∙ sym (mul_assoc m (2 ^ r) 2) in
    let half : m * 2 ^ suc r / 2 ≡ m * 2 ^ r = omega arith in
    zeros_even k (m * 2 ^ suc r) (omega arith) ∙ ap suc (ap (zeros_in k) half ∙ zeros_of k r m o (omega arith))

-- the machine's count at width k
machine_in : (k n : ℕ) → count_trailing_zeros k n ≡ zeros_in k n
unfolding zeros_in count_trailing_zeros
machine_in zero n = refl
machine_in (suc k) n = go (n % 2) (machine_in k (n / 2))
  where
    go : (d : ℕ) → count_trailing_zeros k (n / 2) ≡ zeros_in k (n / 2) → under d (count_trailing_zeros k (n / 2)) ≡ elim d as (λ x. ℕ) [ zero ↦ suc (zeros_in k (n / 2)) | suc d ↦ 0 ]
    go zero e = ap suc e
    go (suc d) e = refl

-- ---- the count

-- an odd number times 2 ^ r has r of them
pub zeros_shifted : (r m : ℕ) → m % 2 ≡ 1 → zeros (m * 2 ^ r) ≡ r
unfolding zeros
zeros_shifted r m o =
    let b : 2 ^ r ≤ m * 2 ^ r = rw (mul_comm m (2 ^ r)) (le-mul_of_pos_right (2 ^ r) (omega arith)) in
    zeros_of (m * 2 ^ r) r m o (omega (arith, below_pow r))

-- and no other r says that
pub zeros_unique : (n r m : ℕ) → m % 2 ≡ 1 → n ≡ m * 2 ^ r → (zeros n ≡ r) × (n / 2 ^ zeros n ≡ m)
zeros_unique n r m o e =
    let z : zeros n ≡ r = ap zeros e ∙ zeros_shifted r m o in
    (z, rw (z, e) (mul-div_cancel m (pow_pos r)))

pub zeros_of_odd : (n : ℕ) → n % 2 ≡ 1 → zeros n ≡ 0
zeros_of_odd n o = (zeros_unique n 0 n o (omega arith)).0

-- n is a multiple of 2 ^ zeros n
pub zeros_whole : (n : ℕ) → n / 2 ^ zeros n * 2 ^ zeros n ≡ n
unfolding zeros
zeros_whole n = zeros_exact n n

-- and what is left is odd
pub zeros_left : (n : ℕ) → 0 < n → n / 2 ^ zeros n % 2 ≡ 1
unfolding zeros
zeros_left n p = zeros_odd_left n n p (below_pow n)

-- a number below 2 ^ k has fewer than k
pub zeros_low : (k n : ℕ) → 0 < n → n < 2 ^ k → zeros n < k
zeros_low k n p h = go (dec_le k (zeros n))
  where
    go : Dec (k ≤ zeros n) → zeros n < k
    go (no q) = omega arith
    go (yes q) =
        let a : 2 ^ k ≤ 2 ^ zeros n = pow_mono q in
        let b : 2 ^ zeros n ≤ n / 2 ^ zeros n * 2 ^ zeros n =
        rw (mul_comm (n / 2 ^ zeros n) (2 ^ zeros n)) (le-mul_of_pos_right (2 ^ zeros n) (let o = zeros_left n p in omega arith)) in
        absurd (omega (arith, zeros_whole n))

-- at every width that holds n the machine counts the same
pub machine_is : (k n : ℕ) → 0 < n → n < 2 ^ k → count_trailing_zeros k n ≡ zeros n
machine_is k n p h =
    machine_in k n ∙ sym (zeros_unique n (zeros_in k n) (n / 2 ^ zeros_in k n) (zeros_odd_left k n p h) (sym (zeros_exact k n))).0
