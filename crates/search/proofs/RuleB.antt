-- Step B by choices: for the first constant that has one, the rows of the choice and then of the constant. A loop over the constants goes by
-- `b_empty`, `b_nothing` and `b_at`. Assumes nothing.
use mathlib.Core.Path.{◌≡◌, refl, sym, ap, ◌∙◌, subst⁻¹}
use mathlib.Core.List.{List, [], ◌∷◌, ◌++◌, map}
use Prim.Native.Nat.{ℕ, ◌+◌, ◌-◌, ◌^◌, ◌≤◌}
use lib.Dec.{T}
use Rattle.std.specs.Prelude.{Option, Some, None, option_and_then, find}
use Rattle.std.specs.Option.{option_or}
use Rattle.meaning.specs.declared.Row.{Row}
use Rattle.meaning.specs.Basics.{first_some}
use Rattle.meaning.specs.Graph.{ready}
use Rattle.meaning.specs.Distance.{does_reach, does_serve, candidates}
use Rattle.meaning.specs.Generator.{row_for, trials, serve, rule_b}
use Rattle.meaning.specs.Operation.{Odd}
use Rattle.laws.proofs.Lists.First.{found, then_from, map_from, find_from, first_find, first_append, first_map}
use Rattle.laws.proofs.Lists.Tests.{both_of}
use Rattle.laws.proofs.Distance.Reach.{reach_is, reached_odd}
use Rattle.laws.proofs.Generator.Rules.{serve_got}
use Rattle.search.specs.Choices.{chosen_in}
use Rattle.search.proofs.Candidates.{candidates_all, first_take}

-- ---- over a list of constants

-- the choice with no ceiling
abbrev pub choice : ℕ → List ℕ → ℕ → Option ℕ
choice L vals c = find (does_serve L vals c) (candidates L)

-- the rows of the choice and of c
abbrev pub rows_for : ℕ → List Row → ℕ → Option (List Row)
rows_for L before c = option_and_then (λ s. serve L before (c, s)) (choice L (ready before) c)

trials_of : (L : ℕ) (before : List Row) (c : ℕ) → first_some (serve L before) (map (λ s. (c, s)) (candidates L)) ≡ rows_for L before c
trials_of L before c =
    first_map (serve L before) (λ s. (c, s)) (candidates L)
    ∙ first_find (λ s. serve L before (c, s)) (does_serve L (ready before) c) (serve_got L before c) (candidates L)

pub b_empty : (L : ℕ) (before : List Row) → rule_b L before [] ≡ None
unfolding rule_b trials first_some
b_empty L before = refl

b_step : (L : ℕ) (before : List Row) (c : ℕ) (cs : List ℕ) → rule_b L before (c ∷ cs) ≡ option_or (rows_for L before c) (rule_b L before cs)
unfolding rule_b trials
b_step L before c cs =
    first_append (serve L before) (map (λ s. (c, s)) (candidates L)) (trials L cs)
    ∙ ap (λ o. option_or o (rule_b L before cs)) (trials_of L before c)

-- ---- what was chosen

-- s is a value that an operation can have; its row and then that of c are found, and are what step B adds
pub record Served (L : ℕ) (before : List Row) (c s : ℕ) : Type 0 where
  pub odd : Odd L s
  pub first : Row
  pub second : Row
  pub first_is : row_for L before s ≡ Some first
  pub second_is : row_for L (before ++ (first ∷ [])) c ≡ Some second
  pub both_are : serve L before (c, s) ≡ Some (first ∷ second ∷ [])

serve_by : (L : ℕ) (before : List Row) (c s : ℕ) (rows : List Row) → Odd L s → serve L before (c, s) ≡ Some rows → Served L before c s
unfolding serve
serve_by L before c s rows o e =
    let (x, e1, e2) = then_from _ _ _ e in
    let (y, e3, e4) = map_from _ _ _ e2 in
    record { odd = o; first = x; second = y; first_is = e1; second_is = e3; both_are = e ∙ sym (ap Some e4) }

module _ (L : ℕ) (before : List Row) (c k : ℕ) where
  -- this constant has no choice among all candidates, for which k trials are enough: the others decide
  pub b_nothing : 2 ^ (L - 1) ≤ k + 1 → (cs : List ℕ) → (chosen_in L (ready before) c k).value ≡ None → rule_b L before (c ∷ cs) ≡ rule_b L before cs
  unfolding chosen_in
  b_nothing h cs e =
      let none : choice L (ready before) c ≡ None = ap (find (does_serve L (ready before) c)) (sym (candidates_all k L h)) ∙ e in
      b_step L before c cs ∙ ap (λ (o : Option ℕ). option_or (option_and_then (λ s. serve L before (c, s)) o) (rule_b L before cs)) none

  module _ (s : ℕ) (e : (chosen_in L (ready before) c k).value ≡ Some s) where
    -- what k trials find is the choice
    choice_is : choice L (ready before) c ≡ Some s
    unfolding chosen_in
    choice_is = first_take (does_serve L (ready before) c) k (candidates L) s e

    its_rows : (rows : List Row) × (serve L before (c, s) ≡ Some rows)
    its_rows = found (serve L before (c, s)) (subst⁻¹ T (serve_got L before c s) (find_from (does_serve L (ready before) c) (candidates L) s choice_is).1)

    -- this constant has one: by the rows of s and then of c
    pub b_at : (cs : List ℕ) → rule_b L before (c ∷ cs) ≡ serve L before (c, s)
    b_at cs =
        let q = its_rows.1 in
        b_step L before c cs
        ∙ ap (λ (o : Option ℕ). option_or (option_and_then (λ s. serve L before (c, s)) o) (rule_b L before cs)) choice_is
        ∙ ap (λ (o : Option (List Row)). option_or o (rule_b L before cs)) q
        ∙ sym q

    -- and these rows are found: s can be made ready, and then c
    pub at_served : Served L before c s
    unfolding does_serve
    at_served =
        let t = (find_from (does_serve L (ready before) c) (candidates L) s choice_is).1 in
        let (a, b) = both_of (does_reach L (ready before) s) (does_reach L (s ∷ ready before) c) t in
        let (rows, q) = its_rows in
        serve_by L before c s rows (reached_odd L (ready before) s ((reach_is L (ready before) s).0 a)) q
