-- A turn of the rule as the code takes it: which of the constants is the first that one operation reaches, and which has a choice; and the rows of
-- a turn by those of its steps. Assumes nothing.
use mathlib.Core.Path.{◌≡◌, refl, sym, ap, ap₂, ◌∙◌, subst⁻¹}
use mathlib.Core.Bool.{false, cond}
use mathlib.Core.List.{List, [], ◌∷◌, ◌++◌, Memᴰ}
use Rattle.std.specs.Prelude.{Option, Some, None, option_to_list, find}
use Prim.Native.Nat.{ℕ, ◌+◌, ◌-◌, ◌^◌, ◌≤◌}
use native.Mathlib.Omega.{arith}
use lib.Dec.{T}
use lib.ListN.{length, get_or, take, length-append}
use lib.Pow.{pow_mono}
use Rattle.meaning.specs.declared.Row.{Row}
use Rattle.meaning.specs.Basics.{first_some}
use Rattle.meaning.specs.Digits.{prefixes}
use Rattle.meaning.specs.Graph.{ready}
use Rattle.meaning.specs.Distance.{does_reach}
use Rattle.meaning.specs.Generator.{row_for, rule_a, serve, rule_b, rule_c, added}
use Rattle.laws.proofs.Lists.Tests.{false_of}
use Rattle.laws.proofs.Lists.First.{found, find_from, find_none}
use Rattle.laws.proofs.Generator.Choices.{got_row}
use Rattle.laws.proofs.Generator.Steps.{rule_a_is}
use Rattle.search.specs.declared.serving.Trials.{Trials}
use Rattle.search.specs.Choices.{chosen_in}
use Rattle.search.specs.Marks.{marked, long_limit, State}
use Rattle.search.proofs.Marks.{reached_is}
use Rattle.search.proofs.RuleB.{Served, b_empty, b_nothing, b_at, at_served}
use Rattle.generator.specs.Rule.{AllServable, Serves, NoneNear}

-- ---- step A by the map

-- c is the first that one operation reaches, and its row is what step A adds
pub record Nearest (L : ℕ) (before : List Row) (cs : List ℕ) (c : ℕ) : Type 0 where
  pub is_in : Memᴰ c cs
  pub row : Row
  pub row_is : row_for L before c ≡ Some row
  pub one : length (option_to_list (row_for L before c)) ≡ 1
  pub rows : rule_a L before cs ≡ Some (option_to_list (row_for L before c))

near_row : (L : ℕ) (before : List Row) (cs : List ℕ) (c : ℕ) → Memᴰ c cs → find (does_reach L (ready before)) cs ≡ Some c
    → (x : Row) → row_for L before c ≡ Some x → Nearest L before cs c
near_row L before cs c i f x r =
    record {
      is_in = i;
      row = x;
      row_is = r;
      one = ap (λ (o : Option Row). length (option_to_list o)) r;
      rows = rule_a_is L before cs ∙ rw (f, r);
    }

module _ (L : ℕ) (map vals : List ℕ) (n : ℕ) (s : State L map vals n) where
  first_near : (cs : List ℕ) → AllServable L cs → find (marked map) cs ≡ find (does_reach L (take n vals)) cs
  first_near [] a = refl
  first_near (c ∷ cs) a =
      let o = (a c (Memᴰ.head refl)).odd in
      ap₂ (λ b r. cond b (Some c) r) (reached_is L map vals n c s o.0 o.1) (first_near cs (λ d i. a d (Memᴰ.tail i)))

  module _ (before : List Row) (same : take n vals ≡ ready before) (cs : List ℕ) (a : AllServable L cs) where
    -- the same of the rows that have these values
    first_of : find (marked map) cs ≡ find (does_reach L (ready before)) cs
    first_of = first_near cs a ∙ ap (λ l. find (does_reach L l) cs) same

    pub near_at : (c : ℕ) → find (marked map) cs ≡ Some c → Nearest L before cs c
    near_at c e =
        let f = sym first_of ∙ e in
        let (i, t) = find_from (does_reach L (ready before)) cs c f in
        let (row, r) = found (row_for L before c) (subst⁻¹ T (got_row L before c) t) in
        near_row L before cs c i f row r

    pub near_nothing : find (marked map) cs ≡ None → (rule_a L before cs ≡ None) × NoneNear L (take n vals) cs
    near_nothing e =
        let f = sym first_of ∙ e in (
          rule_a_is L before cs ∙ rw f,
          λ c i. subst⁻¹ (λ l. does_reach L l c ≡ false) same (false_of (does_reach L (ready before) c) (find_none (does_reach L (ready before)) f i)),
        )

-- ---- the first that has a choice

-- the rows of s and then of c, as they are found one by one
served_rows : (L : ℕ) (before : List Row) (cs : List ℕ) (c s : ℕ) → Memᴰ c cs → Served L before c s → rule_b L before cs ≡ serve L before (c, s)
    → Serves L before cs c s
served_rows L before cs c s i p e =
    let one : option_to_list (row_for L before s) ≡ p.first ∷ [] = ap option_to_list p.first_is in
    let two : row_for L (before ++ option_to_list (row_for L before s)) c ≡ Some p.second = ap (λ xs. row_for L (before ++ xs) c) one ∙ p.second_is in
    record {
      is_in = i;
      odd = p.odd;
      first = ap length one;
      second = ap (λ (o : Option Row). length (option_to_list o)) two;
      rows = e ∙ p.both_are ∙ ap₂ (λ xs o. Some (xs ++ option_to_list o)) (sym one) (sym two);
    }

module _ (L : ℕ) (before : List Row) (cs : List ℕ) (c : ℕ) (rest : List ℕ) (on : rule_b L before cs ≡ rule_b L before (c ∷ rest))
    (k : ℕ) (r : Trials) (e : r ≡ chosen_in L (ready before) c k) where
  pub picked_at : (s : ℕ) → Memᴰ c cs → r.value ≡ Some s → Serves L before cs c s
  picked_at s i f =
      let g = sym (ap (λ (t : Trials). t.value) e) ∙ f in
      served_rows L before cs c s i (at_served L before c k s g) (on ∙ b_at L before c k s g rest)

  -- as many trials as there are candidates find nothing
  pub picked_none : 2 ^ (L - 1) ≤ k + 1 → r.value ≡ None → rule_b L before cs ≡ rule_b L before rest
  picked_none h f = on ∙ b_nothing L before c k h rest (sym (ap (λ (t : Trials). t.value) e) ∙ f)

-- 65535 trials are all the candidates that the long map has
pub ceiling : (L : ℕ) → L ≤ long_limit → 2 ^ (L - 1) ≤ 65535 + 1
ceiling L h = pow_mono {i = L - 1} {j = 16} (omega arith)

-- ---- a turn by its steps

module _ (L : ℕ) (before : List Row) where
  pub added_none : added L before [] ≡ []
  unfolding added
  added_none = refl

  pub added_a : (cs : List ℕ) (new : List Row) → rule_a L before cs ≡ Some new → added L before cs ≡ new
  unfolding added
  added_a [] new e = absurd (let q : rule_a L before [] ≡ None = unfold rule_a first_some in refl in let z : ◌≡◌ {A = ℕ} 0 1 = cc in omega arith)
  added_a (c ∷ cs) new e = rw e

  pub added_b : (cs : List ℕ) (new : List Row) → rule_a L before cs ≡ None → rule_b L before cs ≡ Some new → added L before cs ≡ new
  unfolding added
  added_b [] new e f = absurd (let q = b_empty L before in let z : ◌≡◌ {A = ℕ} 0 1 = cc in omega arith)
  added_b (c ∷ cs) new e f = rw (e, f)

  pub added_c : (cs : List ℕ) → 1 ≤ length cs → rule_a L before cs ≡ None → rule_b L before cs ≡ None → added L before cs ≡ rule_c before (prefixes (get_or cs 0 0))
  unfolding added
  added_c [] h e f = absurd (omega arith)
  added_c (c ∷ cs) h e f = rw (e, f)

  -- step B's rows are two
  pub added_two : (cs : List ℕ) (c s : ℕ) → rule_a L before cs ≡ None → Serves L before cs c s → length (added L before cs) ≡ 2
  added_two cs c s e p =
      let x = option_to_list (row_for L before s) in
      let y = option_to_list (row_for L (before ++ x) c) in
      omega (arith, ap length (added_b cs (x ++ y) e p.rows), length-append x y, p.first, p.second)
