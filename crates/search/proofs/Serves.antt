-- Which s serve c, by the inverse operation: where the list alone does not reach c, c is reached with s added exactly if one operation on c and a
-- value of the list gives s, or c is s times 2 ^ l - 1 or 2 ^ l + 1. Assumes nothing.
use mathlib.Core.Path.{◌≡◌, refl, sym, ap, ◌∙◌, subst, subst⁻¹}
use mathlib.Core.Bool.{false, ◌||◌}
use mathlib.Core.List.Memᴰ
use mathlib.Core.List.{List, ◌∷◌, Memᴰ}
use mathlib.Core.Logic.{◌⊎◌, inl, inr, ⊎_elim}
use Prim.Native.Nat.{ℕ, zero, suc, ◌+◌, ◌-◌, ◌*◌, ◌%◌, ◌^◌, ◌≤◌}
use native.Mathlib.Omega.{arith}
use native.Mathlib.Nat.{mul-add, mul-sub, mul-one, le-mul_of_pos_right}
use lib.Dec.{T, eqb, eqb→eq}
use lib.Pow.{pow_pos}
use Rattle.meaning.specs.Basics.{up_from}
use Rattle.meaning.specs.Distance.{is_one_op, does_reach}
use Rattle.laws.proofs.Lists.Tests.{bool_ext, eqb_of_eq, any_in, in_any, either_of, of_left, of_right, in_up, up_in}
use Rattle.laws.proofs.Whole.Zeros.{zeros_unique}
use Rattle.meaning.specs.Operation.{Odd}
use Rattle.laws.proofs.Operation.Inverse.{Balance, plus_is, minus_is, Balanced, balanced_of, gives_of, lemma_5_2}
use Rattle.laws.proofs.Distance.Reach.{one_is, reach_is}
use Rattle.search.specs.Sides.{is_with, is_factor, is_twice}
use Rattle.search.proofs.Sides.{one_swap, reach_of}

-- an odd number is below 2 ^ L only where L is positive
pub some_bits : (L n : ℕ) → Odd L n → 1 ≤ L
some_bits zero n o = absurd (let (a, b) = o in omega arith)
some_bits (suc L) n o = omega arith

-- if c comes from u and v, then u comes from c and v
pub one_inverse : (L u v c : ℕ) → Odd L u → Odd L v → Odd L c → T (is_one_op L u v c) → T (is_one_op L c v u)
one_inverse L u v c a b o t = (one_is L c v u).1 ((lemma_5_2 L u v c a b o).0 ((one_is L u v c).0 t))

-- ---- on one value twice

record Times (L s c : ℕ) : Type 0 where
  l : ℕ
  from : 1 ≤ l
  to : l ≤ L
  is : (s * (2 ^ l - 1) ≡ c) ⊎ (s * (2 ^ l + 1) ≡ c)

less_one : (s p : ℕ) → s * (p - 1) ≡ s * p - s
less_one s p = mul-sub s p 1 ∙ ap (λ x. s * p - x) (mul-one s)

one_more : (s p : ℕ) → s * (p + 1) ≡ s * p + s
one_more s p = mul-add s p 1 ∙ ap (λ x. s * p + x) (mul-one s)

-- c * 2 ^ j is s + s only for j = 1 and c = s, and it is never 0
level_times : (L s c : ℕ) → Odd L s → c % 2 ≡ 1 → Balance L c s s → Times L s c
level_times L s c a o (plus_is j h e) =
    let p = (zeros_unique (s + s) j c o (sym e)).1 in
    let q = (zeros_unique (s + s) 1 s a.0 (omega arith)).1 in
    let same : c ≡ s = sym p ∙ q in
    record { l = 1; from = omega arith; to = some_bits L s a; is = inl (omega arith) }
level_times L s c a o (minus_is j h e) =
    absurd (let w = le-mul_of_pos_right c (pow_pos j) in omega arith)

side_times : (L s c : ℕ) → Odd L s → c % 2 ≡ 1 → Balance L s c s → Times L s c
side_times L s c a o (plus_is zero h e) = absurd (omega arith)
side_times L s c a o (plus_is (suc j) h e) =
    record { l = suc j; from = omega arith; to = h; is = inl (omega (arith, less_one s (2 ^ suc j))) }
side_times L s c a o (minus_is zero h e) = absurd (let (odd, low) = a in omega arith)
side_times L s c a o (minus_is (suc j) h e) =
    let w = le-mul_of_pos_right s (pow_pos (suc j)) in
    record { l = suc j; from = omega arith; to = h; is = inr (omega (arith, one_more s (2 ^ suc j))) }

times_of : (L s c : ℕ) → Odd L s → c % 2 ≡ 1 → Balanced L s s c → Times L s c
times_of L s c a o (inl b) = level_times L s c a o b
times_of L s c a o (inr (inl b)) = side_times L s c a o b
times_of L s c a o (inr (inr b)) = side_times L s c a o b

of_times : (L s c l : ℕ) → l ≤ L → (s * (2 ^ l - 1) ≡ c) ⊎ (s * (2 ^ l + 1) ≡ c) → Balance L s c s
of_times L s c l h (inl e) = plus_is l h (omega (arith, less_one s (2 ^ l), le-mul_of_pos_right s (pow_pos l)))
of_times L s c l h (inr e) = minus_is l h (omega (arith, one_more s (2 ^ l)))

pub twice_is : (L s c : ℕ) → Odd L s → Odd L c → is_one_op L s s c ≡ is_twice L c s
unfolding is_twice is_factor
twice_is L s c a o = bool_ext (is_one_op L s s c) (is_twice L c s) there back
  where
    there : T (is_one_op L s s c) → T (is_twice L c s)
    there t =
        let q = times_of L s c a o.0 (balanced_of L s s c a a ((one_is L s s c).0 t)) in
        let b = q.to in
        in_any (λ l. is_factor c l s) (in_up 1 L q.l q.from (omega arith))
        (⊎_elim
        (λ e. of_left (eqb (s * (2 ^ q.l - 1)) c) (eqb (s * (2 ^ q.l + 1)) c) (eqb_of_eq _ _ e))
        (λ e. of_right (eqb (s * (2 ^ q.l - 1)) c) (eqb (s * (2 ^ q.l + 1)) c) (eqb_of_eq _ _ e))
        q.is)

    back : T (is_twice L c s) → T (is_one_op L s s c)
    back t =
        let (l, i, w) = any_in (λ l. is_factor c l s) (up_from 1 L) t in
        let b = up_in 1 L l i in
        (one_is L s s c).1 (gives_of L s s c o (inr (inl (of_times L s c l (omega arith)
        (⊎_elim (λ e. inl (eqb→eq _ _ e)) (λ e. inr (eqb→eq _ _ e))
        (either_of (eqb (s * (2 ^ l - 1)) c) (eqb (s * (2 ^ l + 1)) c) w))))))

-- ---- with s in the list one operation makes c, which the list alone does not

abbrev pub AllOdd : ℕ → List ℕ → Type 0
AllOdd L vals = (u : ℕ) → Memᴰ u vals → Odd L u

pub serves_is : (L : ℕ) (vals : List ℕ) (c s : ℕ) → AllOdd L vals → Odd L c → Odd L s → does_reach L vals c ≡ false
    → does_reach L (s ∷ vals) c ≡ (is_with L c vals s || is_twice L c s)
unfolding is_with
serves_is L vals c s a o k n = bool_ext (does_reach L (s ∷ vals) c) (is_with L c vals s || is_twice L c s) there back
  where
    put : (u : ℕ) → Memᴰ u vals → T (is_one_op L s u c) → T (is_with L c vals s || is_twice L c s)
    put u i w = of_left (is_with L c vals s) (is_twice L c s) (in_any (λ u. is_one_op L c u s) i (one_inverse L s u c k (a u i) o w))

    which : (x y : ℕ) → T (is_one_op L x y c) → (x ≡ s) ⊎ Memᴰ x vals → (y ≡ s) ⊎ Memᴰ y vals → T (is_with L c vals s || is_twice L c s)
    which x y w (inl p) (inl q) =
        of_right (is_with L c vals s) (is_twice L c s)
        (subst T (twice_is L s c k o) (subst (λ z. T (is_one_op L s z c)) q (subst (λ z. T (is_one_op L z y c)) p w)))
    which x y w (inl p) (inr j) = put y j (subst (λ z. T (is_one_op L z y c)) p w)
    which x y w (inr i) (inl q) = put x i (one_swap L x s c (subst (λ z. T (is_one_op L x z c)) q w))
    which x y w (inr i) (inr j) = absurd (subst T n (reach_of L vals c x y i j w))

    there : T (does_reach L (s ∷ vals) c) → T (is_with L c vals s || is_twice L c s)
    there t =
        let r = (reach_is L (s ∷ vals) c).0 t in
        which r.u r.v ((one_is L r.u r.v c).1 r.gives) (Memᴰ.cases_cons r.first) (Memᴰ.cases_cons r.second)

    back : T (is_with L c vals s || is_twice L c s) → T (does_reach L (s ∷ vals) c)
    back t =
        ⊎_elim
        (λ p. let (u, i, w) = any_in (λ u. is_one_op L c u s) vals p in
        reach_of L (s ∷ vals) c s u (Memᴰ.head refl) (Memᴰ.tail i) (one_inverse L c u s o (a u i) k w))
        (λ p. reach_of L (s ∷ vals) c s s (Memᴰ.head refl) (Memᴰ.head refl) (subst⁻¹ T (twice_is L s c k o) p))
        (either_of (is_with L c vals s) (is_twice L c s) t)
