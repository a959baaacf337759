-- What steps A and B find, and when; and a turn by its three steps. Assumes nothing.
use mathlib.Core.Path.{◌≡◌, refl, sym, ap, ◌∙◌, subst, subst⁻¹}
use mathlib.Core.Bool.{◌&&◌}
use mathlib.Core.List.Memᴰ
use mathlib.Core.List.{List, [], ◌∷◌, ◌++◌, map, Memᴰ}
use mathlib.Core.Logic.{⊎_elim}
use Rattle.std.specs.Prelude.{Option, Some, None, is_some, option_map, option_and_then, unwrap_or}
use Prim.Native.Nat.{ℕ, ◌<◌}
use native.Mathlib.Omega.{arith}
use lib.Dec.{T}
use Rattle.meaning.specs.declared.Row.{Row}
use Rattle.meaning.specs.Constants.{Ascending}
use Rattle.meaning.specs.Graph.{values, ready, Fits}
use Rattle.meaning.specs.Distance.{does_reach, does_serve, candidates, Reached, ReachedTwice}
use Rattle.meaning.specs.Digits.{prefixes}
use Rattle.meaning.specs.Generator.{row_for, rule_a, trials, serve, rule_b, rule_c, added}
use Rattle.laws.proofs.Distance.Reach.{reach_same, candidates_ordered, serving_in}
use Rattle.laws.proofs.Distance.Distances.{serves_is}
use Rattle.laws.proofs.Lists.First.{first_from, first_got, then_from, map_from, map_got}
use Rattle.laws.proofs.Lists.Least.{Ordered, Lex, first_least, ordered_append, ordered_map, ascending_ordered}
use Rattle.laws.proofs.Generator.Choices.{row_from, got_row, reached_got}
use Rattle.laws.proofs.Graph.Rows.{ready_append}

-- ---- A

-- one valid row, which makes one of the constants
pub record ByA (L : ℕ) (before : List Row) (cs : List ℕ) (new : List Row) : Type 0 where
  pub which : ℕ
  pub row : Row
  pub is_in : Memᴰ which cs
  pub makes : row.value ≡ which
  pub fits : Fits L before row
  pub are : new ≡ row ∷ []

pub a_from : (L : ℕ) (before : List Row) (cs : List ℕ) (new : List Row) → rule_a L before cs ≡ Some new → ByA L before cs new
unfolding rule_a
a_from L before cs new e =
    let (d, i, e1) = first_from _ _ _ e in
    let (x, e2, e3) = map_from _ _ _ e1 in
    let (q, f) = row_from L before d x e2 in
    record { which = d; row = x; is_in = i; makes = q; fits = f; are = sym e3 }

pub a_got : (L : ℕ) (before : List Row) (cs : List ℕ) (d : ℕ) → Memᴰ d cs → T (is_some (row_for L before d)) → T (is_some (rule_a L before cs))
unfolding rule_a
a_got L before cs d i t = first_got _ i (subst⁻¹ T (map_got (row_for L before d) (λ x. x ∷ [])) t)

-- the smallest that one operation reaches, and its row
pub record LeastA (L : ℕ) (before : List Row) (cs : List ℕ) (new : List Row) : Type 0 where
  pub which : ℕ
  pub row : Row
  pub is_in : Memᴰ which cs
  pub by : row_for L before which ≡ Some row
  pub least : (d : ℕ) → Memᴰ d cs → Reached L (ready before) d → ¬ (d < which)
  pub are : new ≡ row ∷ []

pub a_least : (L : ℕ) (before : List Row) (cs : List ℕ) (new : List Row) → Ascending cs → rule_a L before cs ≡ Some new → LeastA L before cs new
unfolding rule_a
a_least L before cs new o e =
    let k = first_least ◌<◌ _ cs new (ascending_ordered cs o) e in
    let (x, e1, e2) = map_from _ _ _ k.gives in
    record {
      which = k.at;
      row = x;
      is_in = k.is_in;
      by = e1;
      least = λ d i r. k.least d i (subst⁻¹ T (map_got (row_for L before d) (λ x. x ∷ [])) (reached_got L before d r));
      are = sym e2;
    }

-- none is found only if none is reached
pub a_none : (L : ℕ) (before : List Row) (cs : List ℕ) → rule_a L before cs ≡ None → (d : ℕ) → Memᴰ d cs → ¬ (Reached L (ready before) d)
a_none L before cs e d i r = subst (λ o. T (is_some o)) e (a_got L before cs d i (reached_got L before d r))

-- ---- B

trials_in : (L : ℕ) (cs : List ℕ) (p : ℕ × ℕ) → Memᴰ p (trials L cs) → Memᴰ p.0 cs
unfolding trials
trials_in L [] p i = absurd (Memᴰ.not-nil i)
trials_in L (c ∷ cs) p i =
    ⊎_elim
    (λ j. let (s, k, e) = Memᴰ.of_map (λ s. (c, s)) (candidates L) j in Memᴰ.head (sym (ap (λ (q : ℕ × ℕ). q.0) e)))
    (λ j. Memᴰ.tail (trials_in L cs p j))
    (Memᴰ.append_cases (map (λ s. (c, s)) (candidates L)) i)

in_trials : (L : ℕ) (cs : List ℕ) (c s : ℕ) → Memᴰ c cs → Memᴰ s (candidates L) → Memᴰ (c, s) (trials L cs)
unfolding trials
in_trials L [] c s i j = absurd (Memᴰ.not-nil i)
in_trials L (d ∷ cs) c s i j =
    ⊎_elim
    (λ e. Memᴰ.append_left (trials L cs) (subst (λ z. Memᴰ {A = ℕ × ℕ} (c, s) (map (λ s. (z, s)) (candidates L))) e (Memᴰ.map (λ s. (c, s)) j)))
    (λ k. Memᴰ.append_right (map (λ s. (d, s)) (candidates L)) (in_trials L cs c s k j))
    (Memᴰ.cases_cons i)

-- two valid rows, of which the second makes one of the constants
pub record ByB (L : ℕ) (before : List Row) (cs : List ℕ) (new : List Row) : Type 0 where
  pub which : ℕ
  pub first : Row
  pub second : Row
  pub is_in : Memᴰ which cs
  pub makes : second.value ≡ which
  pub first_fits : Fits L before first
  pub second_fits : Fits L (before ++ (first ∷ [])) second
  pub are : new ≡ first ∷ second ∷ []

pub b_from : (L : ℕ) (before : List Row) (cs : List ℕ) (new : List Row) → rule_b L before cs ≡ Some new → ByB L before cs new
unfolding rule_b serve
b_from L before cs new e =
    let (p, i, e1) = first_from _ _ _ e in
    let (x, e2, e3) = then_from _ _ _ e1 in
    let (y, e4, e5) = map_from _ _ _ e3 in
    let (q, f) = row_from L before p.1 x e2 in
    let (r, g) = row_from L (before ++ (x ∷ [])) p.0 y e4 in
    record {
      which = p.0;
      first = x;
      second = y;
      is_in = trials_in L cs p i;
      makes = r;
      first_fits = f;
      second_fits = g;
      are = sym e5;
    }

-- the place of the new value does not matter
pub reach_front : (L : ℕ) (vals : List ℕ) (s c : ℕ) → does_reach L (vals ++ (s ∷ [])) c ≡ does_reach L (s ∷ vals) c
reach_front L vals s c =
    reach_same L (vals ++ (s ∷ [])) (s ∷ vals) c
    (λ a i. ⊎_elim (λ j. Memᴰ.tail j) (λ j. Memᴰ.head (Memᴰ.eq_of_singleton j)) (Memᴰ.append_cases vals i))
    (λ a i. ⊎_elim (λ e. Memᴰ.append_right vals (Memᴰ.head e)) (λ j. Memᴰ.append_left (s ∷ []) j) (Memᴰ.cases_cons i))

-- a trial finds something exactly if its s serves, as the distance has it
pub serve_got : (L : ℕ) (before : List Row) (c s : ℕ) → is_some (serve L before (c, s)) ≡ does_serve L (ready before) c s
unfolding serve does_serve
serve_got L before c s = go (row_for L before s) refl (sym (got_row L before s))
  where
    second : Row → Option (List Row)
    second x = option_map (λ y. x ∷ y ∷ []) (row_for L (before ++ (x ∷ [])) c)

    go : (o : Option Row) → row_for L before s ≡ o → does_reach L (ready before) s ≡ is_some (row_for L before s)
        → is_some (option_and_then second o) ≡ (does_reach L (ready before) s && does_reach L (s ∷ ready before) c)
    go None e r = rw (r, e)
    go (Some x) e r =
        let same = (row_from L before s x e).0 in
        map_got (row_for L (before ++ (x ∷ [])) c) (λ y. x ∷ y ∷ [])
        ∙ got_row L (before ++ (x ∷ [])) c
        ∙ ap (λ l. does_reach L l c) (ready_append before (x ∷ []) ∙ ap (λ v. ready before ++ (v ∷ [])) same)
        ∙ reach_front L (ready before) s c
        ∙ sym (rw (r, e))

pub b_got : (L : ℕ) (before : List Row) (cs : List ℕ) (d s : ℕ) → Memᴰ d cs → Memᴰ s (candidates L)
    → T (does_serve L (ready before) d s) → T (is_some (rule_b L before cs))
unfolding rule_b
b_got L before cs d s i j t = first_got _ (in_trials L cs d s i j) (subst⁻¹ T (serve_got L before d s) t)

-- trials are in order
trials_ordered : (L : ℕ) (cs : List ℕ) → Ascending cs → Ordered Lex (trials L cs)
unfolding trials Ascending
trials_ordered L [] a = unfold Ordered in tt
trials_ordered L (c ∷ cs) a =
    ordered_append Lex (map (λ s. (c, s)) (candidates L)) (trials L cs)
    (ordered_map Lex ◌<◌ (λ s. (c, s)) (candidates L) (λ x y s. ⊎_elim (λ h. absurd (omega arith)) (λ h. h.1) s) (candidates_ordered L))
    (trials_ordered L cs a.1)
    (λ p q i j s.
    let (t, _, e) = Memᴰ.of_map (λ s. (c, s)) (candidates L) i in
    let x : c ≡ p.0 = ap (λ (z : ℕ × ℕ). z.0) e in
    let y = a.0 q.0 (trials_in L cs q j) in
    ⊎_elim (λ h. omega arith) (λ h. omega arith) s)

-- the smallest that two operations reach, the smallest s that serves it, and their rows, where one operation reaches none
pub record LeastB (L : ℕ) (before : List Row) (cs : List ℕ) (new : List Row) : Type 0 where
  pub which : ℕ
  pub s : ℕ
  pub first : Row
  pub second : Row
  pub is_in : Memᴰ which cs
  pub by_first : row_for L before s ≡ Some first
  pub by_second : row_for L (before ++ (first ∷ [])) which ≡ Some second
  pub least : (d t : ℕ) → Memᴰ d cs → Reached L (ready before) t → Reached L (t ∷ ready before) d → ¬ (Lex (d, t) (which, s))
  pub are : new ≡ first ∷ second ∷ []

module _ (L : ℕ) (before : List Row) (cs : List ℕ) (n : rule_a L before cs ≡ None) where
  trial_in : (d t : ℕ) → Memᴰ d cs → Reached L (ready before) t → Reached L (t ∷ ready before) d → Memᴰ (d, t) (trials L cs)
  trial_in d t i p q = in_trials L cs d t i (serving_in L (values before) d t (a_none L before cs n d i) p q)

  trial_got : (d t : ℕ) → Reached L (ready before) t → Reached L (t ∷ ready before) d → T (is_some (serve L before (d, t)))
  trial_got d t p q = subst⁻¹ T (serve_got L before d t) ((serves_is L (ready before) d t).1 (p, q))

  pub b_least : (new : List Row) → Ascending cs → rule_b L before cs ≡ Some new → LeastB L before cs new
  unfolding rule_b serve
  b_least new o e =
      let k = first_least Lex (serve L before) (trials L cs) new (trials_ordered L cs o) e in
      let (x, e1, e2) = then_from _ _ _ k.gives in
      let (y, e3, e4) = map_from _ _ _ e2 in
      record {
        which = k.at.0;
        s = k.at.1;
        first = x;
        second = y;
        is_in = trials_in L cs k.at k.is_in;
        by_first = e1;
        by_second = e3;
        least = λ d t i p q. k.least (d, t) (trial_in d t i p q) (trial_got d t p q);
        are = sym e4;
      }

  -- none is found only if no two operations reach one
  pub b_none : rule_b L before cs ≡ None → (d : ℕ) → Memᴰ d cs → ¬ (ReachedTwice L (ready before) d)
  unfolding rule_b
  b_none e d i r =
      subst (λ o. T (is_some o)) e (first_got (serve L before) (trial_in d r.s i r.first r.second) (trial_got d r.s r.first r.second))

-- ---- a turn

-- what holds of the rows of each step, where the steps before it find nothing, holds of a turn's rows
module _ {ℓ} (P : List Row → Type ℓ) (L : ℕ) (before : List Row) (c : ℕ) (cs : List ℕ)
    (by-a : (new : List Row) → rule_a L before (c ∷ cs) ≡ Some new → P new)
    (by-b : (new : List Row) → rule_a L before (c ∷ cs) ≡ None → rule_b L before (c ∷ cs) ≡ Some new → P new)
    (by-c : rule_a L before (c ∷ cs) ≡ None → rule_b L before (c ∷ cs) ≡ None → P (rule_c before (prefixes c))) where
  pub added_by : P (added L before (c ∷ cs))
  unfolding added
  added_by = go (rule_a L before (c ∷ cs)) (rule_b L before (c ∷ cs)) refl refl
    where
      go : (a b : Option (List Row)) → rule_a L before (c ∷ cs) ≡ a → rule_b L before (c ∷ cs) ≡ b → P (unwrap_or a (unwrap_or b (rule_c before (prefixes c))))
      go None None e f = by-c e f
      go None (Some y) e f = by-b y e f
      go (Some x) b e f = by-a x e
