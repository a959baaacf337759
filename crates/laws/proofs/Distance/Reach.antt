-- One operation on two values of a list, as a test and as a statement: both ways; and only the list's members count. Assumes nothing.
use mathlib.Core.Path.{◌≡◌, refl, ap, ◌∙◌, subst}
use mathlib.Core.Bool.{Bool, ◌||◌}
use mathlib.Core.List.{List, [], ◌∷◌, map, Memᴰ}
use mathlib.Core.Logic.{⊎_elim, ◌↔◌}
use Prim.Native.Nat.{ℕ, zero, suc, ◌+◌, ◌-◌, ◌*◌, ◌/◌, ◌^◌, ◌≤◌, ◌<◌, min}
use native.Mathlib.Nat.{pow-succ'}
use native.Mathlib.Omega.{arith}
use native.Mathlib.Decide.{ℕ_discrete}
use lib.Dec.{T}
use lib.Pow.{pow_pos}
use Rattle.meaning.specs.Basics.{any, up_from, zeros}
use Rattle.meaning.specs.Operation.{size, Valid, Gives, Odd}
use Rattle.meaning.specs.Distance.{does_give, shift_pairs, is_one_op, does_reach, Reached, candidates}
use Rattle.laws.proofs.Lists.Has.{Among}
use Rattle.laws.proofs.Lists.Least.{Ordered, Lex, ordered_append, ordered_map, up_ordered}
use Rattle.laws.proofs.Lists.Tests.{any_in, in_any, in_up, up_in, either_of, of_left, of_right, bool_ext}
use Rattle.laws.proofs.Operation.Result.{valid_of_test, test_of_valid, exact_of}

-- ---- the shifts and the sign that are tried

pub pairs_in : (L l1 l2 : ℕ) → l1 ≤ L → l2 ≤ L → min l1 l2 ≡ 0 → Memᴰ (l1, l2) (shift_pairs L)
unfolding shift_pairs
pairs_in L zero l2 a b m = mathlib.Core.List.Memᴰ.append_left _ (mathlib.Core.List.Memᴰ.map (λ l. (0, l)) (in_up 0 (L + 1) l2 (omega arith) (omega arith)))
pairs_in L (suc l) l2 a b m =
    let e : 0 ≡ l2 = omega arith in
    subst (λ z. Memᴰ (suc l, z) (shift_pairs L)) e
    (mathlib.Core.List.Memᴰ.append_right (map (λ l. (0, l)) (up_from 0 (L + 1))) (mathlib.Core.List.Memᴰ.map (λ l. (l, 0)) (in_up 1 L (suc l) (omega arith) (omega arith))))

-- they are in order
pub pairs_ordered : (L : ℕ) → Ordered Lex (shift_pairs L)
unfolding shift_pairs
pairs_ordered L =
    ordered_append Lex (map (λ l. (0, l)) (up_from 0 (L + 1))) (map (λ l. (l, 0)) (up_from 1 L))
    (ordered_map Lex ◌<◌ (λ l. (0, l)) (up_from 0 (L + 1)) (λ x y s. ⊎_elim (λ h. absurd (omega arith)) (λ h. h.1) s) (up_ordered 0 (L + 1)))
    (ordered_map Lex ◌<◌ (λ l. (l, 0)) (up_from 1 L) (λ x y s. ⊎_elim (λ h. h) (λ h. absurd (omega arith)) s) (up_ordered 1 L))
    (λ p q i j s.
    let (a, _, e) = mathlib.Core.List.Memᴰ.of_map (λ l. (0, l)) (up_from 0 (L + 1)) i in
    let (d, k, f) = mathlib.Core.List.Memᴰ.of_map (λ l. (l, 0)) (up_from 1 L) j in
    let m = up_in 1 L d k in
    let x : 0 ≡ p.0 = ap (λ (z : ℕ × ℕ). z.0) e in
    let y : d ≡ q.0 = ap (λ (z : ℕ × ℕ). z.0) f in
    ⊎_elim (λ h. omega arith) (λ h. omega arith) s)

pub sign_in : (s : ℕ) → s ≤ 1 → Memᴰ s (0 ∷ 1 ∷ [])
sign_in zero h = mathlib.Core.List.Memᴰ.head refl
sign_in (suc zero) h = mathlib.Core.List.Memᴰ.tail (mathlib.Core.List.Memᴰ.head refl)
sign_in (suc (suc s)) h = absurd (omega arith)

-- every value greater than 1 that an operation can have
pub in_candidates : (L s : ℕ) → Odd L s → 1 < s → Memᴰ s (candidates L)
unfolding candidates
in_candidates zero s o h = absurd (let l = o.1 in omega arith)
in_candidates (suc L) s o h =
    let (a, l) = o in
    let e : suc L - 1 ≡ L = omega arith in
    let half : 2 * (s / 2) + 1 ≡ s = omega arith in
    let i : Memᴰ (s / 2) (up_from 1 (2 ^ (suc L - 1) - 1)) = rw e (in_up 1 (2 ^ L - 1) (s / 2) (omega arith) (omega (arith, pow-succ' 2 L, pow_pos L))) in
    subst (λ z. Memᴰ z (candidates (suc L))) half (mathlib.Core.List.Memᴰ.map (λ k. 2 * k + 1) i)

pub candidates_ordered : (L : ℕ) → Ordered ◌<◌ (candidates L)
unfolding candidates
candidates_ordered L =
    ordered_map ◌<◌ ◌<◌ (λ k. 2 * k + 1) (up_from 1 (2 ^ (L - 1) - 1)) (λ x y h. omega arith) (up_ordered 1 (2 ^ (L - 1) - 1))

-- ---- one operation on u and v

pub gives_of_test : (L u v l1 l2 s c : ℕ) → T (does_give L u v l1 l2 s c) → Valid L u v l1 l2 s (zeros (size u v l1 l2 s)) c
unfolding does_give
gives_of_test L u v l1 l2 s c t = valid_of_test L u v l1 l2 s _ c t

pub test_of_gives : (L u v l1 l2 s r c : ℕ) → Valid L u v l1 l2 s r c → T (does_give L u v l1 l2 s c)
unfolding does_give
test_of_gives L u v l1 l2 s r c k = test_of_valid L u v l1 l2 s _ c (subst (λ z. Valid L u v l1 l2 s z c) k.outcome.shift k)

module _ (L u v c : ℕ) where
  abbrev are_both : ℕ × ℕ → Bool
  are_both p = does_give L u v p.0 p.1 0 c || does_give L u v p.0 p.1 1 c

  one_of : T (is_one_op L u v c) → Gives L u v c
  unfolding is_one_op
  one_of t =
      let (p, i, q) = any_in are_both (shift_pairs L) t in
      ⊎_elim
      (λ a. record { l1 = p.0; l2 = p.1; s = 0; r = _; valid = gives_of_test L u v p.0 p.1 0 c a })
      (λ a. record { l1 = p.0; l2 = p.1; s = 1; r = _; valid = gives_of_test L u v p.0 p.1 1 c a })
      (either_of (does_give L u v p.0 p.1 0 c) (does_give L u v p.0 p.1 1 c) q)

  of_one : Gives L u v c → T (is_one_op L u v c)
  unfolding is_one_op
  of_one g =
      let k = g.valid in
      in_any are_both (pairs_in L g.l1 g.l2 k.left k.right k.unshifted) (go g.s k.sign (test_of_gives L u v g.l1 g.l2 g.s g.r c k))
    where
      go : (s : ℕ) → s ≤ 1 → T (does_give L u v g.l1 g.l2 s c) → T (are_both (g.l1, g.l2))
      go zero h t = of_left (does_give L u v g.l1 g.l2 0 c) _ t
      go (suc zero) h t = of_right (does_give L u v g.l1 g.l2 0 c) _ t
      go (suc (suc s)) h t = absurd (omega arith)

  pub one_is : T (is_one_op L u v c) ↔ Gives L u v c
  one_is = (one_of, of_one)

-- ---- one operation on two values of a list

reached_of : (L : ℕ) (vals : List ℕ) (c : ℕ) → T (does_reach L vals c) → Reached L vals c
unfolding does_reach
reached_of L vals c t =
    let (u, i, p) = any_in (λ u. any (λ v. is_one_op L u v c) vals) vals t in
    let (v, j, q) = any_in (λ v. is_one_op L u v c) vals p in
    record { u = u; v = v; first = i; second = j; gives = one_of L u v c q }

of_reached : (L : ℕ) (vals : List ℕ) (c : ℕ) → Reached L vals c → T (does_reach L vals c)
unfolding does_reach
of_reached L vals c r = in_any (λ u. any (λ v. is_one_op L u v c) vals) r.first (in_any (λ v. is_one_op L r.u v c) r.second (of_one L r.u r.v c r.gives))

pub reach_is : (L : ℕ) (vals : List ℕ) (c : ℕ) → T (does_reach L vals c) ↔ Reached L vals c
reach_is L vals c = (reached_of L vals c, of_reached L vals c)

-- what is reached is a value that an operation can have
pub reached_odd : (L : ℕ) (vals : List ℕ) (c : ℕ) → Reached L vals c → Odd L c
reached_odd L vals c r = let k = r.gives.valid.outcome in ((exact_of L _ _ c k).odd, k.below)

-- more values reach no less
pub reached_within : (L : ℕ) (xs ys : List ℕ) (c : ℕ) → Among xs ys → Reached L xs c → Reached L ys c
reached_within L xs ys c h r = record { u = r.u; v = r.v; first = h r.u r.first; second = h r.v r.second; gives = r.gives }

pub reach_same : (L : ℕ) (xs ys : List ℕ) (c : ℕ) → Among xs ys → Among ys xs → does_reach L xs c ≡ does_reach L ys c
reach_same L xs ys c h k =
    bool_ext (does_reach L xs c) (does_reach L ys c)
    (λ t. of_reached L ys c (reached_within L xs ys c h (reached_of L xs c t)))
    (λ t. of_reached L xs c (reached_within L ys xs c k (reached_of L ys c t)))

-- what serves a constant that is not reached itself is no 1, where 1 is among the values, and so is tried
pub serving_in : (L : ℕ) (vals : List ℕ) (c s : ℕ) → ¬ (Reached L (1 ∷ vals) c) → Reached L (1 ∷ vals) s → Reached L (s ∷ 1 ∷ vals) c → Memᴰ s (candidates L)
serving_in L vals c s n r q = go (ℕ_discrete s 1)
  where
    go : Dec (s ≡ 1) → Memᴰ s (candidates L)
    go (yes e) =
        absurd (n (reached_within L (s ∷ 1 ∷ vals) (1 ∷ vals) c (λ a i. ⊎_elim (λ f. mathlib.Core.List.Memᴰ.head (f ∙ e)) (λ j. j) (mathlib.Core.List.Memᴰ.cases_cons i)) q))
    go (no f) = let o = reached_odd L (1 ∷ vals) s r in let p = o.0 in in_candidates L s o (omega arith)
