-- The operation is symmetric (lemma 5.2 of document 004): c comes from u and v exactly if one of c, u and v, shifted left by at most L, is the sum
-- or the difference of the two others, which treats the three alike. So c comes from u and v exactly if u comes from c and v. Assumes nothing.
use mathlib.Core.Path.{◌≡◌, sym, ap, ◌∙◌, subst}
use mathlib.Core.Logic.{◌⊎◌, inl, inr, ◌↔◌}
use Prim.Native.Nat.{ℕ, zero, suc, ◌+◌, ◌-◌, ◌*◌, ◌/◌, ◌%◌, ◌^◌, ◌≤◌, ◌<◌}
use native.Mathlib.Omega.{arith}
use native.Mathlib.Decide.{dec_le}
use native.Mathlib.Nat.{pow-succ', mul_comm, le-mul_of_pos_right}
use lib.Pow.{pow_mono}
use Rattle.meaning.specs.Basics.{difference}
use Rattle.meaning.specs.Operation.{Odd, size, Outcome, Valid, Gives}
use Rattle.laws.proofs.Whole.Zeros.{zeros_of_odd}
use Rattle.laws.proofs.Operation.Result.{exact_of, outcome_of_lem}

-- ---- the operands changed over

pub size_swap : (u v l1 l2 s : ℕ) → size u v l1 l2 s ≡ size v u l2 l1 s
size_swap u v l1 l2 zero = omega arith
size_swap u v l1 l2 (suc s) = omega arith

pub valid_swap : (L u v l1 l2 s r c : ℕ) → Valid L u v l1 l2 s r c → Valid L v u l2 l1 s r c
valid_swap L u v l1 l2 s r c k =
    record {
      left = k.right;
      right = k.left;
      unshifted = omega arith;
      sign = k.sign;
      outcome = subst (λ m. Outcome L m r c) (size_swap u v l1 l2 s) k.outcome;
    }

pub gives_swap : (L u v c : ℕ) → Gives L u v c → Gives L v u c
gives_swap L u v c g =
    record { l1 = g.l2; l2 = g.l1; s = g.s; r = g.r; valid = valid_swap L u v g.l1 g.l2 g.s g.r c g.valid }

-- ---- x shifted left is the sum or the difference of y and z

pub data Balance (L x y z : ℕ) : Type 0 where
  plus_is : (j : ℕ) → j ≤ L → x * 2 ^ j ≡ y + z → Balance L x y z
  minus_is : (j : ℕ) → j ≤ L → x * 2 ^ j ≡ difference y z → Balance L x y z

pub balance_swap : (L x y z : ℕ) → Balance L x y z → Balance L x z y
balance_swap L x y z (plus_is j h e) = plus_is j h (omega arith)
balance_swap L x y z (minus_is j h e) = minus_is j h (omega arith)

-- one of the three is
abbrev pub Balanced : (L u v c : ℕ) → Type 0
Balanced L u v c = Balance L c u v ⊎ (Balance L u c v ⊎ Balance L v c u)

-- a positive multiple of 2 ^ j below 2 ^ (L + 1) has j at most L
low_shift : (L m j n : ℕ) → m * 2 ^ j ≡ n → 0 < m → n < 2 * 2 ^ L → j ≤ L
low_shift L m j n e p h = go (dec_le j L)
  where
    go : Dec (j ≤ L) → j ≤ L
    go (yes q) = q
    go (no q) =
        let a : 2 ^ suc L ≤ 2 ^ j = pow_mono (omega arith) in
        let b : 2 ^ j ≤ m * 2 ^ j = rw (mul_comm m (2 ^ j)) (le-mul_of_pos_right (2 ^ j) p) in
        absurd (omega (arith, pow-succ' 2 L))

-- ---- from the operation

-- a number shifted by one place or more is even, so that its plus_is with an odd one is odd
odd_plus : (u v l : ℕ) → u % 2 ≡ 1 → (2 ^ 0 * u + 2 ^ suc l * v) % 2 ≡ 1
odd_plus u v l o = twice (2 ^ suc l * v) (2 ^ l * v) (rw (pow-succ' 2 l) (omega arith))
  where
    twice : (w h : ℕ) → w ≡ 2 * h → (2 ^ 0 * u + w) % 2 ≡ 1
    twice w h e = omega arith

odd_minus : (u v l : ℕ) → u % 2 ≡ 1 → difference (2 ^ 0 * u) (2 ^ suc l * v) % 2 ≡ 1
odd_minus u v l o = twice (2 ^ suc l * v) (2 ^ l * v) (rw (pow-succ' 2 l) (omega arith))
  where
    twice : (w h : ℕ) → w ≡ 2 * h → difference (2 ^ 0 * u) w % 2 ≡ 1
    twice w h e = go (dec_le u w)
      where
        other : (d x y : ℕ) → d + x ≡ 2 * y → x % 2 ≡ 1 → d % 2 ≡ 1
        other d x y e o = omega arith

        go : Dec (u ≤ w) → difference (2 ^ 0 * u) w % 2 ≡ 1
        go (yes q) = other (difference (2 ^ 0 * u) w) u h (omega arith) o
        go (no q) = other (difference (2 ^ 0 * u) w) u (u - h) (omega arith) o

odd_size : (u v l s : ℕ) → u % 2 ≡ 1 → size u v 0 (suc l) s % 2 ≡ 1
odd_size u v l zero o = odd_plus u v l o
odd_size u v l (suc s) o = odd_minus u v l o

-- with one left shift r is 0, and the value is |n|
unshifted : (L m r c : ℕ) → Outcome L m r c → m % 2 ≡ 1 → c ≡ m
unshifted L m r c k o = k.value ∙ ap (λ z. m / 2 ^ z) (k.shift ∙ zeros_of_odd m o) ∙ omega arith

sided : (L u v j s c : ℕ) → j ≤ L → c ≡ size u v 0 j s → Balance L v c u
sided L u v j zero c h e = minus_is j h (omega (arith, mul_comm v (2 ^ j)))
sided L u v j (suc s) c h e = go (dec_le u (2 ^ j * v))
  where
    go : Dec (u ≤ 2 ^ j * v) → Balance L v c u
    go (yes q) = plus_is j h (omega (arith, mul_comm v (2 ^ j)))
    go (no q) = minus_is j h (omega (arith, mul_comm v (2 ^ j)))

level : (L u v s r c : ℕ) → u < 2 ^ L → v < 2 ^ L → Outcome L (size u v 0 0 s) r c → Balance L c u v
level L u v zero r c a b k =
    let x = exact_of L _ r c k in
    let o = x.odd in
    let e : c * 2 ^ r ≡ u + v = sym x.whole ∙ omega arith in
    plus_is r (low_shift L c r (u + v) e (omega arith) (omega arith)) e
level L u v (suc s) r c a b k =
    let x = exact_of L _ r c k in
    let o = x.odd in
    let e : c * 2 ^ r ≡ difference u v = sym x.whole ∙ omega arith in
    minus_is r (low_shift L c r (difference u v) e (omega arith) (omega arith)) e

balanced_valid : (L u v l1 l2 s r c : ℕ) → Odd L u → Odd L v → Valid L u v l1 l2 s r c → Balanced L u v c
balanced_valid L u v zero zero s r c a b k = inl (level L u v s r c a.1 b.1 k.outcome)
balanced_valid L u v zero (suc l) s r c a b k =
    inr (inr (sided L u v (suc l) s c k.right (unshifted L _ r c k.outcome (odd_size u v l s a.0))))
balanced_valid L u v (suc l) zero s r c a b k =
    let w = valid_swap L u v (suc l) 0 s r c k in
    inr (inl (sided L v u (suc l) s c w.right (unshifted L _ r c w.outcome (odd_size v u l s b.0))))
balanced_valid L u v (suc l) (suc m) s r c a b k = absurd (let q = k.unshifted in omega arith)

pub balanced_of : (L u v c : ℕ) → Odd L u → Odd L v → Gives L u v c → Balanced L u v c
balanced_of L u v c a b g = balanced_valid L u v g.l1 g.l2 g.s g.r c a b g.valid

-- ---- and back

gives : (L u v l s r c : ℕ) → l ≤ L → s ≤ 1 → Odd L c → size u v 0 l s ≡ c * 2 ^ r → Gives L u v c
gives L u v l s r c h q o e =
    record {
      l1 = 0;
      l2 = l;
      s = s;
      r = r;
      valid =
          record {
            left = omega arith;
            right = h;
            unshifted = omega arith;
            sign = q;
            outcome = outcome_of_lem L (size u v 0 l s) r c (record { odd = o.0; whole = e }) o.1;
          };
    }

gives_level : (L u v c : ℕ) → Odd L c → Balance L c u v → Gives L u v c
gives_level L u v c o (plus_is j h e) = gives L u v 0 0 j c (omega arith) (omega arith) o (omega arith)
gives_level L u v c o (minus_is j h e) = gives L u v 0 1 j c (omega arith) (omega arith) o (omega arith)

gives_side : (L u v c : ℕ) → Odd L c → Balance L v c u → Gives L u v c
gives_side L u v c o (plus_is j h e) = gives L u v j 1 0 c h (omega arith) o (omega (arith, mul_comm v (2 ^ j)))
gives_side L u v c o (minus_is j h e) = go (dec_le c u)
  where
    go : Dec (c ≤ u) → Gives L u v c
    go (yes q) = gives L u v j 1 0 c h (omega arith) o (omega (arith, mul_comm v (2 ^ j)))
    go (no q) = gives L u v j 0 0 c h (omega arith) o (omega (arith, mul_comm v (2 ^ j)))

pub gives_of : (L u v c : ℕ) → Odd L c → Balanced L u v c → Gives L u v c
gives_of L u v c o (inl b) = gives_level L u v c o b
gives_of L u v c o (inr (inl b)) = gives_swap L v u c (gives_side L v u c o b)
gives_of L u v c o (inr (inr b)) = gives_side L u v c o b

-- ---- lemma 5.2

turned : (L u v c : ℕ) → Balanced L u v c → Balanced L c v u
turned L u v c (inl b) = inr (inl b)
turned L u v c (inr (inl b)) = inl b
turned L u v c (inr (inr b)) = inr (inr (balance_swap L v c u b))

inverse : (L u v c : ℕ) → Odd L u → Odd L v → Odd L c → Gives L u v c → Gives L c v u
inverse L u v c a b o g = gives_of L c v u a (turned L u v c (balanced_of L u v c a b g))

pub lemma_5_2 : (L u v c : ℕ) → Odd L u → Odd L v → Odd L c → Gives L u v c ↔ Gives L c v u
lemma_5_2 L u v c a b o = (inverse L u v c a b o, inverse L c v u o b a)
