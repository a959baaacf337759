-- The least value that is reached and gives the constant is step B's choice, and there is one exactly if the distance is 2. Assumes nothing.
use mathlib.Core.Path.{◌≡◌, sym, ap, ap₂, subst, subst⁻¹, ◌∙◌}
use mathlib.Core.Bool.{Bool, true, false, ◌||◌, ◌&&◌}
use mathlib.Core.List.Memᴰ
use mathlib.Core.List.{List, [], ◌∷◌, Memᴰ}
use mathlib.Core.Logic.{⊎_elim}
use Rattle.std.specs.Prelude.{Option, Some, None, All, find}
use Rattle.std.proofs.lemmas.List.Elements.{All-from_get_or}
use Prim.Native.Nat.{ℕ, zero, suc, ◌+◌, ◌-◌, ◌*◌, ◌/◌, ◌%◌, ◌^◌, ◌≤◌, ◌<◌, min}
use native.Mathlib.Decide.{dec_le}
use native.Mathlib.Omega.{arith}
use lib.Dec.{T, ltb, ltb→lt, lt→ltb}
use lib.ListN.{get_or, take, length-take}
use lib.Seq.{get_or-take}
use lib.Pow.{pow_pos, pow_mono}
use Rattle.meaning.specs.Basics.{any}
use Rattle.meaning.specs.Distance.{does_reach, does_serve, candidates}
use Rattle.laws.proofs.Lists.Tests.{bool_ext, both_of, of_both, true_of, false_of, T_of}
use Rattle.laws.proofs.Distance.Distances.{twice_is}
use Rattle.laws.proofs.Distance.Reach.{reach_is, reached_odd}
use Rattle.search.specs.Sides.{is_with, is_twice}
use Rattle.meaning.specs.Operation.{Odd}
use Rattle.search.specs.Marks.{marked, OddsIn, State}
use Rattle.search.proofs.Marks.{reached_is}
use Rattle.search.proofs.Serves.{AllOdd, some_bits, serves_is}
use Rattle.search.specs.Choices.{used, chosen_in}
use Rattle.search.specs.Least.{Seen, Lowers}
use Rattle.search.proofs.Candidates.{half, candidates_take, below, below_hit, below_miss}

-- ---- the ready values

mem_take : (xs : List ℕ) (n u : ℕ) → Memᴰ u (take n xs) → (i : ℕ) × (i < n) × (u ≡ get_or xs i 0)
mem_take xs zero u i = absurd (Memᴰ.not-nil i)
mem_take [] (suc n) u i = absurd (Memᴰ.not-nil i)
mem_take (x ∷ xs) (suc n) u i =
    ⊎_elim (λ e. (0, omega arith, e)) (λ j. let (k, h, e) = mem_take xs n u j in (suc k, omega arith, e)) (Memᴰ.cases_cons i)

-- the first n are odd, each of them
pub odds_taken : (L : ℕ) (xs : List ℕ) (n : ℕ) → OddsIn L xs n → All (Odd L) (take n xs)
odds_taken L xs n r =
    All-from_get_or (Odd L) (take n xs) 0 (λ i h. let l : i < n = omega (arith, length-take n xs) in subst⁻¹ (Odd L) (get_or-take n xs i 0 l) (r.1 i l))

pub take_odd : (L : ℕ) (xs : List ℕ) (n : ℕ) → OddsIn L xs n → AllOdd L (take n xs)
take_odd L xs n r u i =
    let (k, h, e) = mem_take xs n u i in
    let o = r.1 k h in
    (ap (λ (x : ℕ). x % 2) e ∙ o.0, rw e o.1)

-- ---- the bound of the search

-- it is not above 2 ^ limit, nor is that above 2 ^ 19
pub bound_least : (L c e lim : ℕ) → Odd L c → e ≡ min (2 ^ (L - 1)) (lim + 1) → 2 * e ≤ 2 ^ L
bound_least L c e lim o h = omega (arith, half L (some_bits L c o))

pub bound_most : (L c e lim : ℕ) → Odd L c → L ≤ 19 → e ≡ min (2 ^ (L - 1)) (lim + 1) → 2 * e ≤ 2 ^ 19
bound_most L c e lim o h l = omega (arith, half L (some_bits L c o), pow_mono {i = L} {j = 19} h)

pub bound_some : (L e lim : ℕ) → e ≡ min (2 ^ (L - 1)) (lim + 1) → 1 ≤ e
bound_some L e lim h = omega (arith, pow_pos (L - 1))

-- ---- what the map and the tests say

-- the values with which one operation gives c
abbrev is_partner : ℕ → List ℕ → ℕ → ℕ → Bool
is_partner L vals c s = is_with L c vals s || is_twice L c s

-- s within the candidates, the constant c, and the map of the state
module _ (L : ℕ) (map vals : List ℕ) (n c : ℕ) (st : State L map vals n) (oc : Odd L c) (away : does_reach L (take n vals) c ≡ false) where
  serves_by : (s : ℕ) → Odd L s → does_serve L (take n vals) c s ≡ (marked map s && is_partner L (take n vals) c s)
  unfolding does_serve
  serves_by s o =
      ap₂ ◌&&◌ (sym (reached_is L map vals n s st o.0 o.1))
      (serves_is L (take n vals) c s (take_odd L vals n st.values) oc o away)

  hit : (low s : ℕ) → s < 2 ^ L → Seen map low (is_partner L (take n vals) c) s → does_serve L (take n vals) c s ≡ true
  hit low s h p =
      serves_by s (p.odd, h) ∙ true_of _ (of_both (marked map s) (is_partner L (take n vals) c s) p.has p.test)

  seen : (low s : ℕ) → Odd L s → low ≤ s → T (does_serve L (take n vals) c s) → Seen map low (is_partner L (take n vals) c) s
  seen low s o h t =
      let (a, b) = both_of (marked map s) (is_partner L (take n vals) c s) (subst T (serves_by s o) t) in
      record { odd = o.0; from = h; has = a; test = b }

  -- ---- the choice

  module _ (lim e best : ℕ) (last : e ≡ min (2 ^ (L - 1)) (lim + 1)) (x : Lowers map 3 (is_partner L (take n vals) c) (2 * e) best) where
    abbrev serves : ℕ → Bool
    serves = does_serve L (take n vals) c

    chosen_is : record { value = find serves (below e); tried = used serves (below e) } ≡ chosen_in L (take n vals) c lim
    unfolding chosen_in
    chosen_is = ap (λ (xs : List ℕ). record { value = find serves xs; tried = used serves xs }) (sym (candidates_take lim L e last))

    miss : (j : ℕ) → 1 ≤ j → 2 * j + 1 < best → serves (2 * j + 1) ≡ false
    miss j l u =
        let w = half L (some_bits L c oc) in
        let b = x.least in
        let o : Odd L (2 * j + 1) = (omega arith, omega arith) in
        false_of (serves (2 * j + 1)) (λ t. x.none_below (2 * j + 1) u (seen 3 (2 * j + 1) o (omega arith) t))

    pub choice_at : best < 2 * e → record { value = Some best; tried = best / 2 } ≡ chosen_in L (take n vals) c lim
    choice_at h =
        let p = x.found h in
        let w = half L (some_bits L c oc) in
        let q = below_hit serves e best p.odd p.from h (hit 3 best (omega arith) p) miss in
        ap₂ (λ (v : Option ℕ) (t : ℕ). record { value = v; tried = t }) (sym q.0) (sym q.1) ∙ chosen_is

    pub choice_nothing : 2 * e ≤ best → record { value = None; tried = e - 1 } ≡ chosen_in L (take n vals) c lim
    choice_nothing h =
        let w = pow_pos (L - 1) in
        let q = below_miss serves e (omega arith) (λ j l u. miss j l (omega arith)) in
        ap₂ (λ (v : Option ℕ) (t : ℕ). record { value = v; tried = t }) (sym q.0) (sym q.1) ∙ chosen_is

  -- ---- distance 2

  pub served_is : (bound best : ℕ) → bound ≡ 2 ^ L → Lowers map 1 (is_partner L (take n vals) c) bound best
      → ltb best bound ≡ any (does_serve L (take n vals) c) (1 ∷ candidates L)
  unfolding does_serve
  served_is bound best e x = bool_ext (ltb best bound) (any (does_serve L (take n vals) c) (1 ∷ candidates L)) there back
    where
      there : T (ltb best bound) → T (any (does_serve L (take n vals) c) (1 ∷ candidates L))
      there t =
          let h = ltb→lt best bound t in
          let (a, b) = both_of (does_reach L (take n vals) best) (does_reach L (best ∷ take n vals) c) (T_of (hit 1 best (omega arith) (x.found h))) in
          (twice_is L (take n vals) c).1
          (record { s = best; first = (reach_is L (take n vals) best).0 a; second = (reach_is L (best ∷ take n vals) c).0 b })

      back : T (any (does_serve L (take n vals) c) (1 ∷ candidates L)) → T (ltb best bound)
      back t =
          let r = (twice_is L (take n vals) c).0 t in
          let o = reached_odd L (take n vals) r.s r.first in
          let odd = o.0 in
          let w = of_both (does_reach L (take n vals) r.s) (does_reach L (r.s ∷ take n vals) c)
          ((reach_is L (take n vals) r.s).1 r.first) ((reach_is L (r.s ∷ take n vals) c).1 r.second) in
          go r.s o.1 (seen 1 r.s o (omega arith) w) (dec_le bound best)
        where
          go : (s : ℕ) → s < 2 ^ L → Seen map 1 (is_partner L (take n vals) c) s → Dec (bound ≤ best) → T (ltb best bound)
          go s l p (yes q) = absurd (x.none_below s (omega arith) p)
          go s l p (no q) = lt→ltb best bound (omega arith)
