-- One operation on two values is a hit on one of the two sides; and with one value more a list reaches what it did, and what that value makes
-- with each of the list's values and with itself. Assumes nothing.
use mathlib.Core.Path.{◌≡◌, refl, sym, ap, ◌∙◌, subst}
use mathlib.Core.Bool.{Bool, true, false, ◌||◌, or-false, or_assoc}
use mathlib.Core.List.Memᴰ
use mathlib.Core.List.{List, [], ◌∷◌, ◌++◌, Memᴰ}
use mathlib.Core.Logic.{◌⊎◌, inl, inr, ⊎_elim}
use Prim.Native.Nat.{ℕ, zero, suc, ◌+◌, ◌-◌, ◌*◌, ◌/◌, ◌%◌, ◌^◌, ◌≤◌, ◌<◌}
use native.Mathlib.Omega.{arith}
use native.Mathlib.Decide.{ℕ_discrete, dec_le}
use native.Mathlib.Nat.{zero-add, pow-succ', mul_assoc, mul-le-mul_right}
use native.Mathlib.Numerals.{add-one}
use lib.Dec.{T}
use lib.ListN.{length, get_or, take}
use lib.Pow.{pow_mono}
use lib.Seq.{take-suc}
use Rattle.meaning.specs.Basics.{difference, any, up_from, zeros}
use Rattle.meaning.specs.Operation.{size, Outcome, Valid, Gives}
use Rattle.meaning.specs.Distance.{is_one_op, does_reach}
use Rattle.laws.proofs.Lists.Tests.{bool_ext, any_in, in_any, either_of, of_left, of_right, in_up, up_in}
use Rattle.laws.proofs.Operation.Result.{outcome_of_test, test_of_outcome}
use Rattle.laws.proofs.Whole.Zeros.{zeros_of_odd}
use Rattle.laws.proofs.Operation.Inverse.{valid_swap, gives_swap}
use Rattle.laws.proofs.Distance.Reach.{one_is, reach_is, reached_within}
use Rattle.search.specs.Sides.{does_hit, is_at, is_side_to, is_with}

of_either : (a b : Bool) → T a ⊎ T b → T (a || b)
of_either a b (inl t) = of_left a b t
of_either a b (inr t) = of_right a b t

-- one value more at the end of a range
pub any_up : (f : ℕ → Bool) (k n : ℕ) → any f (up_from k (suc n)) ≡ (any f (up_from k n) || f (k + n))
any_up f k n = bool_ext (any f (up_from k (suc n))) (any f (up_from k n) || f (k + n)) there back
  where
    there : T (any f (up_from k (suc n))) → T (any f (up_from k n) || f (k + n))
    there t = let (c, i, p) = any_in f (up_from k (suc n)) t in go c p (up_in k (suc n) c i) (ℕ_discrete c (k + n))
      where
        go : (c : ℕ) → T (f c) → (k ≤ c) × (c < k + suc n) → Dec (c ≡ k + n) → T (any f (up_from k n) || f (k + n))
        go c p h (yes e) = of_right (any f (up_from k n)) (f (k + n)) (subst (λ z. T (f z)) e p)
        go c p h (no e) = of_left (any f (up_from k n)) (f (k + n)) (in_any f (in_up k n c h.0 (omega arith)) p)

    back : T (any f (up_from k n) || f (k + n)) → T (any f (up_from k (suc n)))
    back t =
        ⊎_elim
        (λ q. let (c, i, p) = any_in f (up_from k n) q in let h = up_in k n c i in in_any f (in_up k (suc n) c (omega arith) (omega arith)) p)
        (λ q. in_any f (in_up k (suc n) (k + n) (omega arith) (omega arith)) q)
        (either_of (any f (up_from k n)) (f (k + n)) t)

-- ---- the sides

pub hit_outcome : (L n c : ℕ) → T (does_hit L n c) → Outcome L n (zeros n) c
unfolding does_hit
hit_outcome L n c t = outcome_of_test L n (zeros n) c t

pub outcome_hit : (L n r c : ℕ) → Outcome L n r c → T (does_hit L n c)
unfolding does_hit
outcome_hit L n r c k = test_of_outcome L n (zeros n) c (subst (λ z. Outcome L n z c) k.shift k)

-- what a shift gives is below 2 ^ L
at_below : (L u v l c : ℕ) → T (is_at L u v l c) → c < 2 ^ L
unfolding is_at
at_below L u v l c t =
    ⊎_elim (λ p. (hit_outcome L (size u v 0 l 0) c p).below) (λ p. (hit_outcome L (size u v 0 l 1) c p).below)
    (either_of (does_hit L (size u v 0 l 0) c) (does_hit L (size u v 0 l 1) c) t)

-- an odd number is its own odd part
hit_odd : (L n c : ℕ) → n % 2 ≡ 1 → T (does_hit L n c) → c ≡ n
hit_odd L n c o t =
    let k = hit_outcome L n c t in
    k.value ∙ ap (λ (z : ℕ). n / 2 ^ z) (zeros_of_odd n o) ∙ omega arith

-- ---- the shifts that give nothing

-- v shifted by one place or more, so far that it is not below u and a bound together: what comes is not below the bound
far_even : (L u w h b c : ℕ) → w ≡ 2 * h → u % 2 ≡ 1 → u + b ≤ w → T (does_hit L (2 ^ 0 * u + w) c || does_hit L (difference (2 ^ 0 * u) w) c) → b ≤ c
far_even L u w h b c e o q t =
    ⊎_elim
    (λ p. let m = hit_odd L (2 ^ 0 * u + w) c (omega arith) p in omega arith)
    (λ p.
    let d : difference (2 ^ 0 * u) w ≡ w - u = omega arith in
    let m = hit_odd L (difference (2 ^ 0 * u) w) c (rw d (odd_rest (w - u) u h (omega arith) o)) p in omega arith)
    (either_of (does_hit L (2 ^ 0 * u + w) c) (does_hit L (difference (2 ^ 0 * u) w) c) t)
  where
    odd_rest : (d x y : ℕ) → d + x ≡ 2 * y → x % 2 ≡ 1 → d % 2 ≡ 1
    odd_rest d x y e o = omega arith

far_at : (L u v l b c : ℕ) → u % 2 ≡ 1 → 1 ≤ l → u + b ≤ 2 ^ l * v → T (is_at L u v l c) → b ≤ c
unfolding is_at
far_at L u v zero b c o h q t = absurd (omega arith)
far_at L u v (suc l) b c o h q t =
    far_even L u (2 ^ suc l * v) (2 ^ l * v) b c (ap (λ (x : ℕ). x * v) (pow-succ' 2 l) ∙ mul_assoc 2 (2 ^ l) v) o q t

-- so from a shift that passes 2 ^ L on no shift gives anything
pub side_stop : (L u v l c : ℕ) → u % 2 ≡ 1 → v < 2 ^ L → l ≤ L → u + 2 ^ L ≤ 2 ^ l * v → is_side_to L u v l c ≡ is_side_to L u v (L + 1) c
unfolding is_side_to
side_stop L u v l c o low h q = bool_ext (is_side_to L u v l c) (is_side_to L u v (L + 1) c) there back
  where
    one : (l : ℕ) → u + 2 ^ L ≤ 2 ^ l * v → 1 ≤ l
    one zero q = absurd (omega arith)
    one (suc l) q = omega arith

    there : T (is_side_to L u v l c) → T (is_side_to L u v (L + 1) c)
    there t =
        let (j, i, p) = any_in (λ j. is_at L u v j c) (up_from 0 l) t in
        let g = up_in 0 l j i in
        in_any (λ j. is_at L u v j c) (in_up 0 (L + 1) j (omega arith) (omega arith)) p

    back : T (is_side_to L u v (L + 1) c) → T (is_side_to L u v l c)
    back t = let (j, i, p) = any_in (λ j. is_at L u v j c) (up_from 0 (L + 1)) t in go j p (dec_le l j)
      where
        go : (j : ℕ) → T (is_at L u v j c) → Dec (l ≤ j) → T (is_side_to L u v l c)
        go j p (yes g) =
            let m : 2 ^ l * v ≤ 2 ^ j * v = mul-le-mul_right v (pow_mono g) in
            let b = far_at L u v j (2 ^ L) c o (omega (arith, one l q)) (omega arith) p in
            absurd (omega (arith, at_below L u v j c p))
        go j p (no g) = in_any (λ j. is_at L u v j c) (in_up 0 l j (omega arith) (omega arith)) p

hit_gives : (L u v l s c : ℕ) → l ≤ L → s ≤ 1 → T (does_hit L (size u v 0 l s) c) → Gives L u v c
hit_gives L u v l s c h k t =
    record {
      l1 = 0;
      l2 = l;
      s = s;
      r = _;
      valid = record { left = omega arith; right = h; unshifted = omega arith; sign = k; outcome = hit_outcome L (size u v 0 l s) c t };
    }

side_of : (L u v c : ℕ) → T (is_side_to L u v (L + 1) c) → Gives L u v c
unfolding is_side_to is_at
side_of L u v c t =
    let (l, i, q) = any_in (λ l. is_at L u v l c) (up_from 0 (L + 1)) t in
    let h = up_in 0 (L + 1) l i in
    ⊎_elim
    (λ p. hit_gives L u v l 0 c (omega arith) (omega arith) p)
    (λ p. hit_gives L u v l 1 c (omega arith) (omega arith) p)
    (either_of (does_hit L (size u v 0 l 0) c) (does_hit L (size u v 0 l 1) c) q)

at_of : (L u v l s c : ℕ) → s ≤ 1 → T (does_hit L (size u v 0 l s) c) → T (is_at L u v l c)
unfolding is_at
at_of L u v l zero c h t = of_left (does_hit L (size u v 0 l 0) c) (does_hit L (size u v 0 l 1) c) t
at_of L u v l (suc zero) c h t = of_right (does_hit L (size u v 0 l 0) c) (does_hit L (size u v 0 l 1) c) t
at_of L u v l (suc (suc s)) c h t = absurd (omega arith)

of_side : (L u v l s r c : ℕ) → Valid L u v 0 l s r c → T (is_side_to L u v (L + 1) c)
unfolding is_side_to
of_side L u v l s r c k =
    let h = k.right in
    in_any (λ l. is_at L u v l c) (in_up 0 (L + 1) l (omega arith) (omega arith))
    (at_of L u v l s c k.sign (outcome_hit L (size u v 0 l s) r c k.outcome))

sides_of : (L u v l1 l2 s r c : ℕ) → Valid L u v l1 l2 s r c → T (is_side_to L u v (L + 1) c) ⊎ T (is_side_to L v u (L + 1) c)
sides_of L u v zero l2 s r c k = inl (of_side L u v l2 s r c k)
sides_of L u v (suc l) zero s r c k = inr (of_side L v u (suc l) s r c (valid_swap L u v (suc l) 0 s r c k))
sides_of L u v (suc l) (suc m) s r c k = absurd (let h = k.unshifted in omega arith)

pub one_op_is : (L u v c : ℕ) → is_one_op L u v c ≡ (is_side_to L u v (L + 1) c || is_side_to L v u (L + 1) c)
one_op_is L u v c = bool_ext (is_one_op L u v c) (is_side_to L u v (L + 1) c || is_side_to L v u (L + 1) c) there back
  where
    there : T (is_one_op L u v c) → T (is_side_to L u v (L + 1) c || is_side_to L v u (L + 1) c)
    there t =
        let g = (one_is L u v c).0 t in
        of_either (is_side_to L u v (L + 1) c) (is_side_to L v u (L + 1) c) (sides_of L u v g.l1 g.l2 g.s g.r c g.valid)

    back : T (is_side_to L u v (L + 1) c || is_side_to L v u (L + 1) c) → T (is_one_op L u v c)
    back t =
        (one_is L u v c).1
        (⊎_elim (λ p. side_of L u v c p) (λ p. gives_swap L v u c (side_of L v u c p))
        (either_of (is_side_to L u v (L + 1) c) (is_side_to L v u (L + 1) c) t))

-- an operation on one value twice
pub one_self : (L v c : ℕ) → is_one_op L v v c ≡ is_side_to L v v (L + 1) c
one_self L v c = one_op_is L v v c ∙ same (is_side_to L v v (L + 1) c)
  where
    same : (b : Bool) → (b || b) ≡ b
    same true = refl
    same false = refl

-- ---- a list with one value more

pub one_swap : (L u v c : ℕ) → T (is_one_op L u v c) → T (is_one_op L v u c)
one_swap L u v c t = (one_is L v u c).1 (gives_swap L u v c ((one_is L u v c).0 t))

pub reach_of : (L : ℕ) (vals : List ℕ) (c u v : ℕ) → Memᴰ u vals → Memᴰ v vals → T (is_one_op L u v c) → T (does_reach L vals c)
reach_of L vals c u v i j t = (reach_is L vals c).1 (record { u = u; v = v; first = i; second = j; gives = (one_is L u v c).0 t })

with_of : (L : ℕ) (vals : List ℕ) (v c u : ℕ) → Memᴰ u vals → T (is_one_op L v u c) → T (is_with L v vals c)
unfolding is_with
with_of L vals v c u i t = in_any (λ u. is_one_op L v u c) i t

pub reach_add : (L : ℕ) (vals : List ℕ) (v c : ℕ)
    → does_reach L (vals ++ (v ∷ [])) c ≡ (does_reach L vals c || (is_with L v vals c || is_one_op L v v c))
unfolding is_with
reach_add L vals v c = bool_ext (does_reach L (vals ++ (v ∷ [])) c) (does_reach L vals c || (is_with L v vals c || is_one_op L v v c)) there back
  where
    old : {a : ℕ} → Memᴰ a vals → Memᴰ a (vals ++ (v ∷ []))
    old i = Memᴰ.append_left _ i

    new : Memᴰ v (vals ++ (v ∷ []))
    new = Memᴰ.append_right vals (Memᴰ.head refl)

    back : T (does_reach L vals c || (is_with L v vals c || is_one_op L v v c)) → T (does_reach L (vals ++ (v ∷ [])) c)
    back t =
        ⊎_elim
        (λ p. (reach_is L _ c).1 (reached_within L vals (vals ++ (v ∷ [])) c (λ a i. old i) ((reach_is L vals c).0 p)))
        (λ p.
        ⊎_elim
        (λ q. let (u, i, w) = any_in (λ u. is_one_op L v u c) vals q in reach_of L (vals ++ (v ∷ [])) c v u new (old i) w)
        (λ q. reach_of L (vals ++ (v ∷ [])) c v v new new q)
        (either_of (is_with L v vals c) (is_one_op L v v c) p))
        (either_of (does_reach L vals c) (is_with L v vals c || is_one_op L v v c) t)

    there : T (does_reach L (vals ++ (v ∷ [])) c) → T (does_reach L vals c || (is_with L v vals c || is_one_op L v v c))
    there t =
        let r = (reach_is L (vals ++ (v ∷ [])) c).0 t in
        which r.u r.v ((one_is L r.u r.v c).1 r.gives) (Memᴰ.append_cases vals r.first) (Memᴰ.append_cases vals r.second)
      where
        which : (a b : ℕ) → T (is_one_op L a b c) → Memᴰ a vals ⊎ Memᴰ a (v ∷ []) → Memᴰ b vals ⊎ Memᴰ b (v ∷ [])
            → T (does_reach L vals c || (is_with L v vals c || is_one_op L v v c))
        which a b w (inl i) (inl j) = of_left (does_reach L vals c) _ (reach_of L vals c a b i j w)
        which a b w (inl i) (inr j) =
            of_right (does_reach L vals c) _ (of_left (is_with L v vals c) _
            (with_of L vals v c a i (one_swap L a v c (subst (λ z. T (is_one_op L a z c)) (Memᴰ.eq_of_singleton j) w))))
        which a b w (inr i) (inl j) =
            of_right (does_reach L vals c) _ (of_left (is_with L v vals c) _
            (with_of L vals v c b j (subst (λ z. T (is_one_op L z b c)) (Memᴰ.eq_of_singleton i) w)))
        which a b w (inr i) (inr j) =
            of_right (does_reach L vals c) _ (of_right (is_with L v vals c) _
            (subst (λ z. T (is_one_op L z v c)) (Memᴰ.eq_of_singleton i)
            (subst (λ z. T (is_one_op L a z c)) (Memᴰ.eq_of_singleton j) w)))

-- ---- the parts of a loop

-- one shift more
pub side_suc : (L u v l c : ℕ) → ((is_side_to L u v l c || does_hit L (size u v 0 l 0) c) || does_hit L (size u v 0 l 1) c) ≡ is_side_to L u v (l + 1) c
unfolding is_side_to is_at
side_suc L u v l c =
    or_assoc (is_side_to L u v l c) (does_hit L (size u v 0 l 0) c) (does_hit L (size u v 0 l 1) c)
    ∙ ap (λ (n : ℕ). is_side_to L u v l c || is_at L u v n c) (sym (zero-add l))
    ∙ sym (any_up (λ n. is_at L u v n c) 0 l)
    ∙ ap (λ (n : ℕ). is_side_to L u v n c) (sym (add-one l))

pub any_snoc : {A : Type 0} (f : A → Bool) (xs : List A) (y : A) → any f (xs ++ (y ∷ [])) ≡ (any f xs || f y)
any_snoc f [] y = or-false (f y)
any_snoc f (x ∷ xs) y = ap (λ (b : Bool). f x || b) (any_snoc f xs y) ∙ sym (or_assoc (f x) (any f xs) (f y))

-- one value more
pub with_suc : (L v : ℕ) (xs : List ℕ) (i c : ℕ) → i < length xs → (is_with L v (take i xs) c || is_one_op L v (get_or xs i 0) c) ≡ is_with L v (take (i + 1) xs) c
unfolding is_with
with_suc L v xs i c h =
    sym (any_snoc (λ u. is_one_op L v u c) (take i xs) (get_or xs i 0))
    ∙ ap (λ (l : List ℕ). is_with L v l c) (sym (take-suc xs i 0 h))
    ∙ ap (λ (n : ℕ). is_with L v (take n xs) c) (sym (add-one i))
