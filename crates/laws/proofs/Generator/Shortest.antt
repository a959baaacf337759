-- For one wanted constant of at most four nonzero digits no accepted graph has fewer rows than the generator's. Assumes nothing.
use mathlib.Core.Path.{◌≡◌, refl, sym, ap, ◌∙◌, subst, subst⁻¹}
use mathlib.Core.List.{List, [], ◌∷◌, Memᴰ}
use mathlib.Core.Logic.{⊎_elim}
use Rattle.std.specs.Prelude.{Some, is_some}
use Prim.Native.Nat.{ℕ, ◌≤◌, ◌<◌}
use native.Mathlib.Omega.{arith}
use native.Mathlib.Decide.{ℕ_discrete}
use borrow.Author.Tests.{ne_eqb}
use lib.Dec.{T, leb, leb→le}
use lib.IntN.{ℤ}
use lib.ListN.{length}
use Rattle.meaning.specs.declared.Row.{Row}
use Rattle.meaning.specs.Basics.{has, sum_of}
use Rattle.meaning.specs.Limits.{limit}
use Rattle.meaning.specs.Constants.{odd_of, wanted}
use Rattle.meaning.specs.Graph.{rows, values, Fits, Sound, is_served}
use Rattle.meaning.specs.Digits.{canonic, nonzeros}
use Rattle.meaning.specs.Generator.{row_for, remaining, rule_a, rule_b, added, turn, turns, generated}
use Rattle.meaning.specs.Refusals.{Accepted, checked}
use Rattle.meaning.specs.Distance.{does_reach, does_serve, Reached}
use Rattle.laws.proofs.Lists.Tests.{either_of, of_both}
use Rattle.laws.proofs.Graph.Rows.{length_rows}
use Rattle.laws.proofs.Refusals.Checked.{good_of}
use Rattle.laws.proofs.Lists.Has.{has_in}
use Rattle.laws.proofs.Distance.Reach.{in_candidates, reach_is, reached_odd, reached_within}
use Rattle.laws.proofs.Generator.Choices.{row_got, fits_reached, got_row}
use Rattle.laws.proofs.Constants.Wanted.{Wanted, AllWanted, all_wanted, wanted_in}
use Rattle.laws.proofs.Generator.Rules.{a_from, a_got, b_from, b_got, reach_front, added_by}
use Rattle.laws.proofs.Generator.Remaining.{none_yet, turns_few}

-- ---- how many rows the turn has

module _ (L c : ℕ) where
  abbrev drawn : List Row
  drawn = added L [] (c ∷ [])

  a_length : (new : List Row) → rule_a L [] (c ∷ []) ≡ Some new → length new ≡ 1
  a_length new e = ap length (a_from L [] (c ∷ []) new e).are

  b_length : (new : List Row) → rule_b L [] (c ∷ []) ≡ Some new → length new ≡ 2
  b_length new e = ap length (b_from L [] (c ∷ []) new e).are

  turn_one : T (is_some (row_for L [] c)) → length drawn ≤ 1
  turn_one t =
      let g = a_got L [] (c ∷ []) c (mathlib.Core.List.Memᴰ.head refl) t in
      added_by (λ new. length new ≤ 1) L [] c []
      (λ new e. omega (arith, a_length new e))
      (λ new e f. absurd (subst (λ o. T (is_some o)) e g))
      (λ e f. absurd (subst (λ o. T (is_some o)) e g))

  turn_two : T (is_some (rule_b L [] (c ∷ []))) → length drawn ≤ 2
  turn_two g =
      added_by (λ new. length new ≤ 2) L [] c []
      (λ new e. omega (arith, a_length new e))
      (λ new e f. omega (arith, b_length new f))
      (λ e f. absurd (subst (λ o. T (is_some o)) f g))

  turns_one : 1 < c → (turns L 1 (c ∷ []) none_yet).rows ≡ drawn
  unfolding turns turn remaining
  turns_one h = simp (ne_eqb 1 c (omega arith))

  -- ---- against a graph of one row, and of two

  one_row_lem : (x : Row) → Fits L [] x → x.value ≡ c → length drawn ≤ 1
  one_row_lem x f e = turn_one (subst (λ z. T (is_some (row_for L [] z))) e (row_got L [] x f))

  two_rows : (x y : Row) → Fits L [] x → Fits L (x ∷ []) y → y.value ≡ c → length drawn ≤ 2
  two_rows x y f g e = go (ℕ_discrete x.value 1)
    where
      v : ℕ
      v = x.value

      reached : Reached L (1 ∷ v ∷ []) c
      reached = subst (Reached L (1 ∷ v ∷ [])) e (fits_reached L (x ∷ []) y g)

      -- a first row that makes 1 again adds nothing
      go : Dec (v ≡ 1) → length drawn ≤ 2
      go (yes q) =
          let back : (a : ℕ) → Memᴰ a (1 ∷ v ∷ []) → Memᴰ a (1 ∷ []) =
          λ a i. ⊎_elim (λ p. mathlib.Core.List.Memᴰ.head p) (λ j. mathlib.Core.List.Memᴰ.head (mathlib.Core.List.Memᴰ.eq_of_singleton j ∙ q)) (mathlib.Core.List.Memᴰ.cases_cons i) in
          let r = reached_within L (1 ∷ v ∷ []) (1 ∷ []) c back reached in
          let t = turn_one (subst⁻¹ T (got_row L [] c) ((reach_is L (1 ∷ []) c).1 r)) in
          omega arith
      go (no n) =
          let first = fits_reached L [] x f in
          let o = reached_odd L (1 ∷ []) v first in
          let p = o.0 in
          turn_two
          (b_got L [] (c ∷ []) c v (mathlib.Core.List.Memᴰ.head refl) (in_candidates L v o (omega arith))
          (unfold does_serve in (of_both (does_reach L (1 ∷ []) v) (does_reach L (v ∷ 1 ∷ []) c) ((reach_is L (1 ∷ []) v).1 first)
          (subst T (reach_front L (1 ∷ []) v c) ((reach_is L (1 ∷ v ∷ []) c).1 reached)))))

-- ---- against any

shortest : (b c : ℕ) → Wanted b c → nonzeros (canonic c) ≤ 4
    → (xs : List Row) → Sound (limit b) [] xs → Memᴰ c (values xs) → length (turns (limit b) 1 (c ∷ []) none_yet).rows ≤ length xs
unfolding Sound sum_of
shortest b c w z [] s i = absurd (mathlib.Core.List.Memᴰ.not-nil i)
shortest b c w z (x ∷ []) s i = rw (turns_one (limit b) c w.above) (one_row_lem (limit b) c x s.0 (sym (mathlib.Core.List.Memᴰ.eq_of_singleton i)))
shortest b c w z (x ∷ y ∷ []) s i =
    rw (turns_one (limit b) c w.above)
    (⊎_elim
    (λ q. omega (arith, one_row_lem (limit b) c x s.0 (sym q)))
    (λ j. two_rows (limit b) c x y s.0 s.1.0 (sym (mathlib.Core.List.Memᴰ.eq_of_singleton j)))
    (mathlib.Core.List.Memᴰ.cases_cons i))
shortest b c w z (x ∷ y ∷ v ∷ xs) s i =
    let each : AllWanted b (c ∷ []) = λ d i. subst⁻¹ (Wanted b) (mathlib.Core.List.Memᴰ.eq_of_singleton i) w in
    omega (arith, turns_few b 1 (c ∷ []) each)

served_in : (xs : List Row) (t : ℤ) → 1 < odd_of t → T (is_served (values xs) t) → Memᴰ (odd_of t) (values xs)
unfolding is_served
served_in xs t h s =
    ⊎_elim (λ a. absurd (let l = leb→le (odd_of t) 1 a in omega arith)) (λ a. has_in (values xs) (odd_of t) a)
    (either_of (leb (odd_of t) 1) (has (values xs) (odd_of t)) s)

-- condition 3: with one wanted constant of at most four nonzero digits, every accepted graph under the same bit limit has the generator's rows or more
pub fewest : (b : ℕ) (ts : List ℤ) (c n : ℕ) (w : List ℕ) → wanted ts ≡ c ∷ [] → nonzeros (canonic c) ≤ 4 → checked b ts n w ≡ Accepted
    → length (generated b ts) ≤ n
unfolding generated
fewest b ts c n w e z t =
    let g = good_of b ts n w t in
    let i : Memᴰ c (wanted ts) = subst⁻¹ (Memᴰ c) e (mathlib.Core.List.Memᴰ.head refl) in
    let (y, j, q, h) = wanted_in ts c i in
    let m = subst (λ z. Memᴰ z (values (rows n w))) q (served_in (rows n w) y (omega arith) (g.serves y j)) in
    let few = shortest b c (all_wanted b ts g.admits c i) z (rows n w) g.sound m in
    subst⁻¹ (λ cs. length (turns (limit b) (length cs) cs none_yet).rows ≤ n) e (omega (arith, length_rows n w))
