-- The prefixes of an odd number make a chain from 1 to it, one fewer than its nonzero digits, and each makes a valid row. Assumes nothing.
use mathlib.Core.Path.{◌≡◌, refl, sym, ap, ◌∙◌, subst, subst⁻¹}
use mathlib.Core.List.Memᴰ
use mathlib.Core.List.{List, [], ◌∷◌, ◌++◌, Memᴰ}
use mathlib.Core.Logic.{◌⊎◌, inl, inr, ⊎_elim}
use Prim.Native.Nat.{ℕ, zero, suc, ◌+◌, ◌-◌, ◌*◌, ◌%◌, ◌^◌, ◌≤◌, ◌<◌}
use native.Mathlib.Nat.{pow-succ', mul_assoc, mul_comm, mul-le-mul, le-mul_of_pos_right}
use native.Mathlib.Decide.{dec_le}
use native.Mathlib.Numerals.{add-one}
use native.Mathlib.Omega.{arith}
use lib.ListN.{length}
use lib.Pow.{pow_pos, pow_mono}
use Rattle.meaning.specs.declared.Prefix.{Prefix}
use Rattle.meaning.specs.Basics.{zeros}
use Rattle.meaning.specs.Limits.{limit}
use Rattle.meaning.specs.Operation.{size, Valid}
use Rattle.meaning.specs.Digits.{Digit, minus, none, plus, nonzeros, lowest, above, canonic, prefixes_from, prefixes}
use Rattle.laws.proofs.Whole.Zeros.{zeros_of_odd}
use Rattle.laws.proofs.Digits.Canonic.{split_of, split_positive, canonic_zero, canonic_step, by_digits}
use Rattle.laws.proofs.Digits.Count.{nonzeros_zero}
use Rattle.laws.proofs.Digits.Prefixes.{last_from, tops, tops_step, tops_one, last, ends_are, prefixes_zero}

-- a prefix over the one before it
pub record Step (m : ℕ) (p : Prefix) : Type 0 where
  pub before : p.before ≡ m
  pub gap_positive : 1 ≤ p.gap
  pub value : ((p.s ≡ 0) × (p.value ≡ 2 ^ p.gap * m + 1)) ⊎ ((p.s ≡ 1) × (p.value + 1 ≡ 2 ^ p.gap * m))

-- prefixes that go on from m, and end at k
unfoldable pub Chain : ℕ → List Prefix → ℕ → Type 0
Chain m [] k = m ≡ k
Chain m (p ∷ ps) k = Step m p × Chain p.value ps k

pub shifted_more : (g p : ℕ) → 1 ≤ p → 1 ≤ g → 2 ≤ 2 ^ g * p
shifted_more zero p h l = absurd (omega arith)
shifted_more (suc g) p h l =
    let a : 1 * 1 ≤ 2 ^ g * p = mul-le-mul (pow_pos g) h in
    rw (pow-succ' 2 g, mul_assoc 2 (2 ^ g) p) (omega arith)

chain_from : (p g : ℕ) (ds : List Digit) → 1 ≤ p → 1 ≤ g → Chain p (prefixes_from p g ds) (last_from p g ds)
unfolding Chain prefixes_from last_from
chain_from p g [] h l = refl
chain_from p g (none ∷ ds) h l = chain_from p (g + 1) ds h (omega arith)
chain_from p g (plus ∷ ds) h l =
    (record { before = refl; gap_positive = l; value = inl (refl, refl) }, chain_from (2 ^ g * p + 1) 1 ds (omega arith) (omega arith))
chain_from p g (minus ∷ ds) h l =
    let k = shifted_more g p h l in
    (record { before = refl; gap_positive = l; value = inr (refl, omega arith) }, chain_from (2 ^ g * p - 1) 1 ds (omega arith) (omega arith))

count_from : (p g : ℕ) (ds : List Digit) → length (prefixes_from p g ds) ≡ nonzeros ds
unfolding prefixes_from nonzeros
count_from p g [] = refl
count_from p g (none ∷ ds) = omega (arith, count_from p (g + 1) ds)
count_from p g (plus ∷ ds) = omega (arith, count_from (2 ^ g * p + 1) 1 ds)
count_from p g (minus ∷ ds) = omega (arith, count_from (2 ^ g * p - 1) 1 ds)

nonzeros_append : (xs ys : List Digit) → nonzeros (xs ++ ys) ≡ nonzeros xs + nonzeros ys
unfolding nonzeros
nonzeros_append [] ys = omega arith
nonzeros_append (x ∷ xs) ys = omega (arith, nonzeros_append xs ys)

count_tops : (n : ℕ) → 0 < n → nonzeros (canonic n) ≡ suc (nonzeros (tops n))
unfolding nonzeros
count_tops = by_digits (λ n. 0 < n → nonzeros (canonic n) ≡ suc (nonzeros (tops n))) (λ h. absurd (omega arith)) (λ n h ih k. go n h ih)
  where
    go : (n : ℕ) → 0 < n → (0 < above n → nonzeros (canonic (above n)) ≡ suc (nonzeros (tops (above n)))) → nonzeros (canonic n) ≡ suc (nonzeros (tops n))
    go zero h ih = absurd (omega arith)
    go (suc zero) h ih = rw (tops_one, canonic_step 1 (omega arith), canonic_zero)
    go (suc (suc n)) h ih =
        let s = split_of (suc (suc n)) in
        let k : 0 < above (suc (suc n)) = split_positive s (omega arith) in
        rw (tops_step s k, canonic_step (suc (suc n)) h, nonzeros_append (tops (above (suc (suc n)))) (lowest (suc (suc n)) ∷ [])) (omega (arith, ih k))

-- the nonzero digits of a positive number are one more than its prefixes
pub count_is : (n : ℕ) → 0 < n → nonzeros (canonic n) ≡ suc (length (prefixes n))
unfolding prefixes
count_is n h = count_tops n h ∙ ap suc (sym (count_from 1 1 (tops n)))

-- the prefixes of an odd number go from 1 to it
pub chain_is : (n : ℕ) → n % 2 ≡ 1 → Chain 1 (prefixes n) n
unfolding prefixes
chain_is n o =
    let e : last n ≡ n = (ends_are n (omega arith)).0 ∙ rw (zeros_of_odd n o) (omega arith) in
    subst (Chain 1 (prefixes_from 1 1 (tops n))) e (chain_from 1 1 (tops n) (omega arith) (omega arith))

-- and those of any number, one fewer than its nonzero digits or none
pub length_prefixes : (n : ℕ) → length (prefixes n) ≡ nonzeros (canonic n) - 1
length_prefixes zero = omega (arith, ap length prefixes_zero, nonzeros_zero)
length_prefixes (suc n) = omega (arith, count_is (suc n) (omega arith))

-- ---- the rows

-- m shifted left by one place or more is even, no less than twice m and no less than the power
shifted : (m g : ℕ) → 1 ≤ m → 1 ≤ g → (h : ℕ) × (2 ^ g * m ≡ 2 * h) × (m ≤ h) × (2 ^ g ≤ 2 ^ g * m)
shifted m zero a b = absurd (omega arith)
shifted m (suc g) a b =
    (2 ^ g * m, rw (pow-succ' 2 g, mul_assoc 2 (2 ^ g) m), rw (mul_comm (2 ^ g) m) (le-mul_of_pos_right m (pow_pos g)), le-mul_of_pos_right (2 ^ suc g) a)

-- a step's value: odd, and no less than the prefix before it and, less one, than the power of the gap
step_is : (m : ℕ) (p : Prefix) → 1 ≤ m → Step m p → (p.value % 2 ≡ 1) × (m ≤ p.value) × (2 ^ p.gap ≤ p.value + 1)
step_is m p a s =
    let (h, e, l, k) = shifted m p.gap a s.gap_positive in
    ⊎_elim (λ q. omega arith) (λ q. (minus_odd p.value h (omega arith), omega arith, omega arith)) s.value
  where
    minus_odd : (v h : ℕ) → v + 1 ≡ 2 * h → v % 2 ≡ 1
    minus_odd v h e = omega arith

chain_le : (m k : ℕ) (ps : List Prefix) → 1 ≤ m → Chain m ps k → m ≤ k
unfolding Chain
chain_le m k [] a c = omega arith
chain_le m k (p ∷ ps) a c =
    let q = step_is m p a c.0 in
    let r = chain_le p.value k ps (omega arith) c.1 in
    omega arith

-- a member stands on an odd number, and lies no higher than the chain's end
chain_in : (m k : ℕ) (ps : List Prefix) (p : Prefix) → m % 2 ≡ 1 → Chain m ps k → Memᴰ p ps → (n : ℕ) × (n % 2 ≡ 1) × Step n p × (p.value ≤ k)
unfolding Chain
chain_in m k [] p o c i = absurd (Memᴰ.not-nil i)
chain_in m k (q ∷ qs) p o c i =
    let t = step_is m q (omega arith) c.0 in
    ⊎_elim
    (λ e. subst⁻¹ (λ x. (n : ℕ) × (n % 2 ≡ 1) × Step n x × (x.value ≤ k)) e (m, o, c.0, chain_le q.value k qs (omega arith) c.1))
    (λ j. chain_in q.value k qs p t.0 c.1 j)
    (Memᴰ.cases_cons i)

step_size : (m : ℕ) (p : Prefix) → Step m p → (p.s ≤ 1) × (size m 1 p.gap 0 p.s ≡ p.value)
step_size m p s = ⊎_elim (λ q. rw q.0 (omega arith)) (λ q. rw q.0 (omega arith)) s.value

gap_small : (g b v : ℕ) → 2 ^ g ≤ v + 1 → v < 2 ^ b → g ≤ b
gap_small g b v h l = go (dec_le g b)
  where
    go : Dec (g ≤ b) → g ≤ b
    go (yes p) = p
    go (no f) = absurd (let m : 2 ^ suc b ≤ 2 ^ g = pow_mono (omega arith) in omega (arith, pow-succ' 2 b, pow_pos b))

step_valid : (b m : ℕ) (p : Prefix) → 1 ≤ m → Step m p → p.value < 2 ^ b → Valid (limit b) m 1 p.gap 0 p.s 0 p.value
step_valid b m p a s l =
    let q = step_is m p a s in
    let z = step_size m p s in
    let g = gap_small p.gap b p.value q.2 l in
    record {
      left = omega arith;
      right = omega arith;
      unshifted = omega arith;
      sign = z.0;
      outcome =
          record {
            nonzero = omega arith;
            shift = sym (ap zeros z.1 ∙ zeros_of_odd p.value q.0);
            value = omega arith;
            below = rw (add-one b, pow-succ' 2 b) (omega arith);
          };
    }

-- what step C needs of a prefix under the bit limit b
pub record PrefixRow (b : ℕ) (p : Prefix) : Type 0 where
  pub value_odd : p.value % 2 ≡ 1
  pub value_below : p.value < 2 ^ b
  pub valid : Valid (limit b) p.before 1 p.gap 0 p.s 0 p.value

pub prefix_row_lem : (b c : ℕ) (p : Prefix) → c % 2 ≡ 1 → c < 2 ^ b → Memᴰ p (prefixes c) → PrefixRow b p
prefix_row_lem b c p o l i =
    let (m, n, s, k) = chain_in 1 c (prefixes c) p refl (chain_is c o) i in
    let q = step_is m p (omega arith) s in
    let e = s.before in
    record {
      value_odd = q.0;
      value_below = omega arith;
      valid = subst⁻¹ (λ x. Valid (limit b) x 1 p.gap 0 p.s 0 p.value) e (step_valid b m p (omega arith) s (omega arith));
    }
