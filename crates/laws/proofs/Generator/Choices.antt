-- What the search for a row finds, and when it finds one. Assumes nothing.
use mathlib.Core.Path.{◌≡◌, refl, ◌∙◌, subst, subst⁻¹}
use mathlib.Core.Bool.{Bool, true, false, cond}
use mathlib.Core.List.{List, [], ◌∷◌, Memᴰ}
use mathlib.Core.Logic.{◌⊎◌, inl, inr}
use Rattle.std.specs.Prelude.{Option, Some, None, is_some}
use Prim.Native.Nat.{ℕ, ◌-◌, ◌≤◌, ◌<◌}
use native.Mathlib.Omega.{arith}
use native.Mathlib.Decide.{dec_le}
use lib.Dec.{T}
use lib.ListN.{length, get_or}
use Rattle.meaning.specs.declared.Choice.{Choice}
use Rattle.meaning.specs.declared.Row.{Row}
use Rattle.meaning.specs.Basics.{zeros, up_from, first_some}
use Rattle.meaning.specs.Operation.{size, Valid}
use Rattle.meaning.specs.Graph.{ready, Fits}
use Rattle.meaning.specs.Distance.{does_give, shift_pairs, does_reach, Reached}
use Rattle.meaning.specs.Generator.{chosen, choice_for, row_of, row_for}
use Rattle.laws.proofs.Lists.First.{found, some_same, first_from, first_got, map_from, map_got}
use Rattle.laws.proofs.Lists.Least.{Lex, first_least, up_ordered}
use Rattle.laws.proofs.Lists.Index.{get_or_in, in_get_or}
use Rattle.laws.proofs.Lists.Tests.{in_up, up_in, T_of, bool_ext}
use Rattle.laws.proofs.Operation.Inverse.{valid_swap}
use Rattle.laws.proofs.Distance.Reach.{pairs_in, pairs_ordered, sign_in, gives_of_test, test_of_gives, reach_is}

-- ---- one choice

-- a choice on the values of the indices that gives c
pub record ChoiceFits (L : ℕ) (vals : List ℕ) (c : ℕ) (x : Choice) : Type 0 where
  pub first : x.u < length vals
  pub second : x.v < length vals
  pub operation : Valid L (get_or vals x.u 0) (get_or vals x.v 0) x.l1 x.l2 x.s x.r c

module _ (L : ℕ) (vals : List ℕ) (c i j l1 l2 s : ℕ) where
  abbrev u : ℕ
  u = get_or vals i 0

  abbrev v : ℕ
  v = get_or vals j 0

  abbrev it : Choice
  it = record { u = i; v = j; l1 = l1; l2 = l2; s = s; r = zeros (size u v l1 l2 s) }

  chosen_got : T (does_give L u v l1 l2 s c) → T (is_some (chosen L vals c i j l1 l2 s))
  unfolding chosen
  chosen_got t = go (does_give L u v l1 l2 s c) t
    where
      go : (b : Bool) → T b → T (is_some {T = Choice} (cond b (Some it) None))
      go true t = tt
      go false t = t

  chosen_is : (x : Choice) → chosen L vals c i j l1 l2 s ≡ Some x → it ≡ x
  unfolding chosen
  chosen_is x e = go (does_give L u v l1 l2 s c) e
    where
      go : (b : Bool) → cond b (Some it) None ≡ Some x → it ≡ x
      go true q = some_same q
      go false q = absurd (let z : ◌≡◌ {A = ℕ} 0 1 = cc in omega arith)

  chosen_from : (x : Choice) → i < length vals → j < length vals → chosen L vals c i j l1 l2 s ≡ Some x → ChoiceFits L vals c x
  unfolding chosen
  chosen_from x hi hj e = go (does_give L u v l1 l2 s c) refl e
    where
      go : (b : Bool) → does_give L u v l1 l2 s c ≡ b → cond b (Some it) None ≡ Some x → ChoiceFits L vals c x
      go true p q =
          subst (ChoiceFits L vals c) (some_same q) (record { first = hi; second = hj; operation = gives_of_test L u v l1 l2 s c (T_of p) })
      go false p q = absurd (let z : ◌≡◌ {A = ℕ} 0 1 = cc in omega arith)

-- ---- the search

-- the choice that is found is valid, and gives c
pub choice_from : (L : ℕ) (vals : List ℕ) (c : ℕ) (x : Choice) → choice_for L vals c ≡ Some x → ChoiceFits L vals c x
unfolding choice_for
choice_from L vals c x e =
    let (i, hi, e1) = first_from _ _ _ e in
    let (j, hj, e2) = first_from _ _ _ e1 in
    let (p, hp, e3) = first_from _ _ _ e2 in
    let (s, hs, e4) = first_from _ _ _ e3 in
    let bi = up_in 0 (length vals) i hi in
    let bj = up_in i (length vals - i) j hj in
    chosen_from L vals c i j p.0 p.1 s x (omega arith) (omega arith) e4

-- the search level by level: for the sign, then the shifts, then the v index
abbrev by_sign : ℕ → List ℕ → ℕ → ℕ → ℕ → ℕ × ℕ → Option Choice
by_sign L vals c i j p = first_some (λ s. chosen L vals c i j p.0 p.1 s) (0 ∷ 1 ∷ [])

abbrev by_shifts : ℕ → List ℕ → ℕ → ℕ → ℕ → Option Choice
by_shifts L vals c i j = first_some (by_sign L vals c i j) (shift_pairs L)

abbrev by_second : ℕ → List ℕ → ℕ → ℕ → Option Choice
by_second L vals c i = first_some (by_shifts L vals c i) (up_from i (length vals - i))

-- each level finds one if there is a valid choice in order
module _ (L : ℕ) (vals : List ℕ) (c i j l1 l2 s r : ℕ) (k : Valid L (get_or vals i 0) (get_or vals j 0) l1 l2 s r c) where
  here_got : T (is_some (chosen L vals c i j l1 l2 s))
  here_got = chosen_got L vals c i j l1 l2 s (test_of_gives L (get_or vals i 0) (get_or vals j 0) l1 l2 s r c k)

  sign_got : T (is_some (by_sign L vals c i j (l1, l2)))
  sign_got = first_got _ (sign_in s k.sign) here_got

  shifts_got : T (is_some (by_shifts L vals c i j))
  shifts_got = first_got _ (pairs_in L l1 l2 k.left k.right k.unshifted) sign_got

  module _ (h : i ≤ j) (l : j < length vals) where
    second_got : T (is_some (by_second L vals c i))
    second_got = first_got _ (in_up i (length vals - i) j h (omega arith)) shifts_got

    ordered_got : T (is_some (choice_for L vals c))
    unfolding choice_for
    ordered_got = first_got _ (in_up 0 (length vals) i (omega arith) (omega arith)) second_got

-- and so if there is one in either order
choice_got : (L : ℕ) (vals : List ℕ) (c : ℕ) (x : Choice) → ChoiceFits L vals c x → T (is_some (choice_for L vals c))
choice_got L vals c x f = go (dec_le x.u x.v)
  where
    go : Dec (x.u ≤ x.v) → T (is_some (choice_for L vals c))
    go (yes h) = ordered_got L vals c x.u x.v x.l1 x.l2 x.s x.r f.operation h f.second
    go (no n) =
        ordered_got L vals c x.v x.u x.l2 x.l1 x.s x.r (valid_swap L _ _ x.l1 x.l2 x.s x.r c f.operation)
        (omega arith) f.first

-- ---- it is the first in order

-- by the u index, the v index, l1, l2, s
abbrev pub Sooner : Choice → Choice → Type 0
Sooner y x =
    (y.u < x.u)
    ⊎ ((y.u ≡ x.u) × ((y.v < x.v)
    ⊎ ((y.v ≡ x.v) × ((y.l1 < x.l1)
    ⊎ ((y.l1 ≡ x.l1) × ((y.l2 < x.l2)
    ⊎ ((y.l2 ≡ x.l2) × (y.s < x.s))))))))

pub record FirstFits (L : ℕ) (vals : List ℕ) (c : ℕ) (x : Choice) : Type 0 where
  pub ordered : x.u ≤ x.v
  pub first : (y : Choice) → ChoiceFits L vals c y → y.u ≤ y.v → ¬ (Sooner y x)

-- no valid choice in order is sooner than the least of each level
module _ (L : ℕ) (vals : List ℕ) (c i j l1 l2 s : ℕ)
    (first-u : (y : ℕ) → Memᴰ y (up_from 0 (length vals)) → T (is_some (by_second L vals c y)) → ¬ (y < i))
    (first-v : (y : ℕ) → Memᴰ y (up_from i (length vals - i)) → T (is_some (by_shifts L vals c i y)) → ¬ (y < j))
    (first-l : (y : ℕ × ℕ) → Memᴰ y (shift_pairs L) → T (is_some (by_sign L vals c i j y)) → ¬ (Lex y (l1, l2)))
    (first-s : (y : ℕ) → Memᴰ y (0 ∷ 1 ∷ []) → T (is_some (chosen L vals c i j l1 l2 y)) → ¬ (y < s)) where
  none_sooner : (y : Choice) → ChoiceFits L vals c y → y.u ≤ y.v → ¬ (Sooner y (it L vals c i j l1 l2 s))
  none_sooner y f h (inl z) =
      first-u y.u (in_up 0 (length vals) y.u (omega arith) (omega (arith, f.first))) (second_got L vals c _ _ _ _ _ _ f.operation h f.second) z
  none_sooner y f h (inr (e, z)) = on_v (subst (λ w. At w y.v y.l1 y.l2) e f.operation) z
    where
      At : (i j l1 l2 : ℕ) → Type 0
      At i j l1 l2 = Valid L (get_or vals i 0) (get_or vals j 0) l1 l2 y.s y.r c

      on_s : At i j l1 l2 → ¬ (y.s < s)
      on_s k z = first-s y.s (sign_in y.s k.sign) (here_got L vals c _ _ _ _ _ _ k) z

      on_l : At i j y.l1 y.l2 → ¬ ((y.l1 < l1) ⊎ ((y.l1 ≡ l1) × ((y.l2 < l2) ⊎ ((y.l2 ≡ l2) × (y.s < s)))))
      on_l k (inl z) = first-l (y.l1, y.l2) (pairs_in L _ _ k.left k.right k.unshifted) (sign_got L vals c _ _ _ _ _ _ k) (inl z)
      on_l k (inr (e, inl z)) = first-l (y.l1, y.l2) (pairs_in L _ _ k.left k.right k.unshifted) (sign_got L vals c _ _ _ _ _ _ k) (inr (e, z))
      on_l k (inr (e, inr (d, z))) =
          on_s (subst (λ w. At i j l1 w) d (subst (λ w. At i j w y.l2) e k)) z

      on_v : At i y.v y.l1 y.l2 → ¬ ((y.v < j) ⊎ ((y.v ≡ j) × ((y.l1 < l1) ⊎ ((y.l1 ≡ l1) × ((y.l2 < l2) ⊎ ((y.l2 ≡ l2) × (y.s < s)))))))
      on_v k (inl z) =
          first-v y.v (in_up i (length vals - i) y.v (omega arith) (omega (arith, f.second))) (shifts_got L vals c _ _ _ _ _ _ k) z
      on_v k (inr (e, z)) = on_l (subst (λ w. At i w y.l1 y.l2) e k) z

  first_of : (x : Choice) → i ≤ j → chosen L vals c i j l1 l2 s ≡ Some x → FirstFits L vals c x
  first_of x h e = subst (FirstFits L vals c) (chosen_is L vals c i j l1 l2 s x e) (record { ordered = h; first = none_sooner })

pub choice_first : (L : ℕ) (vals : List ℕ) (c : ℕ) (x : Choice) → choice_for L vals c ≡ Some x → FirstFits L vals c x
unfolding choice_for
choice_first L vals c x e =
    let a = first_least ◌<◌ (by_second L vals c) (up_from 0 (length vals)) x (up_ordered 0 (length vals)) e in
    let i = a.at in
    let b = first_least ◌<◌ (by_shifts L vals c i) (up_from i (length vals - i)) x (up_ordered i (length vals - i)) a.gives in
    let j = b.at in
    let p = first_least Lex (by_sign L vals c i j) (shift_pairs L) x (pairs_ordered L) b.gives in
    let l1 = p.at.0 in
    let l2 = p.at.1 in
    let t = first_least ◌<◌ (λ s. chosen L vals c i j l1 l2 s) (0 ∷ 1 ∷ []) x (up_ordered 0 2) p.gives in
    first_of L vals c i j l1 l2 t.at a.least b.least p.least t.least x (up_in i (length vals - i) j b.is_in).0 t.gives

-- ---- a choice is found exactly if one operation reaches the value

chosen_reached : (L : ℕ) (vals : List ℕ) (c : ℕ) (x : Choice) → ChoiceFits L vals c x → Reached L vals c
chosen_reached L vals c x f =
    record {
      u = get_or vals x.u 0;
      v = get_or vals x.v 0;
      first = get_or_in vals x.u 0 f.first;
      second = get_or_in vals x.v 0 f.second;
      gives = record { l1 = x.l1; l2 = x.l2; s = x.s; r = x.r; valid = f.operation };
    }

pub got_choice : (L : ℕ) (vals : List ℕ) (c : ℕ) → is_some (choice_for L vals c) ≡ does_reach L vals c
got_choice L vals c = bool_ext (is_some (choice_for L vals c)) (does_reach L vals c) there back
  where
    there : T (is_some (choice_for L vals c)) → T (does_reach L vals c)
    there t =
        let (x, e) = found (choice_for L vals c) t in
        (reach_is L vals c).1 (chosen_reached L vals c x (choice_from L vals c x e))

    back : T (does_reach L vals c) → T (is_some (choice_for L vals c))
    back t =
        let r = (reach_is L vals c).0 t in
        let (i, hi, ei) = in_get_or r.first in
        let (j, hj, ej) = in_get_or r.second in
        let g = r.gives in
        choice_got L vals c (record { u = i; v = j; l1 = g.l1; l2 = g.l2; s = g.s; r = g.r })
        (record {
          first = hi;
          second = hj;
          operation =
              subst (λ x. Valid L x (get_or vals j 0) g.l1 g.l2 g.s g.r c) ei
              (subst (λ y. Valid L r.u y g.l1 g.l2 g.s g.r c) ej g.valid);
        })

-- ---- the row of a choice

-- the row that is found is valid, and makes c
pub row_from : (L : ℕ) (before : List Row) (c : ℕ) (x : Row) → row_for L before c ≡ Some x → (x.value ≡ c) × Fits L before x
unfolding row_for
row_from L before c x e =
    let (y, e1, e2) = map_from _ _ _ e in
    let k = choice_from L (ready before) c y e1 in
    subst (λ z. (z.value ≡ c) × Fits L before z) e2
    (refl, record { first = k.first; second = k.second; operation = k.operation })

-- it is found exactly if one operation reaches the value
pub got_row : (L : ℕ) (before : List Row) (c : ℕ) → is_some (row_for L before c) ≡ does_reach L (ready before) c
unfolding row_for
got_row L before c = map_got (choice_for L (ready before) c) (row_of c) ∙ got_choice L (ready before) c

-- the choice of a row, and that it is the first
abbrev pub choice_of : Row → Choice
choice_of x = record { u = x.u; v = x.v; l1 = x.l1; l2 = x.l2; s = x.s; r = x.r }

pub row_first : (L : ℕ) (before : List Row) (c : ℕ) (x : Row) → row_for L before c ≡ Some x → FirstFits L (ready before) c (choice_of x)
unfolding row_for
row_first L before c x e =
    let (y, e1, e2) = map_from _ _ _ e in
    subst (λ z. FirstFits L (ready before) c (choice_of z)) e2 (choice_first L (ready before) c y e1)

pub fits_reached : (L : ℕ) (before : List Row) (x : Row) → Fits L before x → Reached L (ready before) x.value
fits_reached L before x f =
    chosen_reached L (ready before) x.value (choice_of x) (record { first = f.first; second = f.second; operation = f.operation })

pub reached_got : (L : ℕ) (before : List Row) (c : ℕ) → Reached L (ready before) c → T (is_some (row_for L before c))
reached_got L before c r = subst⁻¹ T (got_row L before c) ((reach_is L (ready before) c).1 r)

pub row_got : (L : ℕ) (before : List Row) (x : Row) → Fits L before x → T (is_some (row_for L before x.value))
row_got L before x f = reached_got L before x.value (fits_reached L before x f)
