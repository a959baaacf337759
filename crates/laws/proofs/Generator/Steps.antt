-- The steps of a turn as code meets them: A by the first constant that one operation reaches, C by its prefixes one after the other. Assumes nothing.
use mathlib.Core.Path.{◌≡◌, ◌∙◌}
use mathlib.Core.Bool.{true, false}
use mathlib.Core.List.{List, [], ◌∷◌, ◌++◌}
use Rattle.std.specs.Prelude.{Option, option_map, option_and_then, find}
use Prim.Native.Nat.{ℕ, ◌+◌, ◌≤◌, ◌<◌}
use native.Mathlib.Numerals.{add-one}
use lib.ListN.{length, get_or, drop, drop_of_length-le}
use lib.Seq.{drop-cons}
use Rattle.meaning.specs.declared.Prefix.{Prefix}
use Rattle.meaning.specs.declared.Row.{Row}
use Rattle.meaning.specs.Basics.{has}
use Rattle.meaning.specs.Graph.{ready}
use Rattle.meaning.specs.Distance.{does_reach}
use Rattle.meaning.specs.Generator.{row_for, remaining, rule_a, prefix_row, rule_c}
use Rattle.laws.proofs.Lists.First.{first_find, map_got}
use Rattle.laws.proofs.Generator.Choices.{got_row}

-- ---- step A

abbrev one_row : ℕ → List Row → ℕ → Option (List Row)
one_row L before c = option_map (λ x. x ∷ []) (row_for L before c)

-- the row of the first that is reached
pub rule_a_is : (L : ℕ) (before : List Row) (cs : List ℕ) → rule_a L before cs ≡ option_and_then (one_row L before) (find (does_reach L (ready before)) cs)
unfolding rule_a
rule_a_is L before =
    first_find (one_row L before) (does_reach L (ready before)) (λ c. map_got (row_for L before c) (λ x. x ∷ []) ∙ got_row L before c)

-- ---- the constants that remain, one after the other

pub remaining_ready : (vals cs : List ℕ) (i : ℕ) → i < length cs → has vals (get_or cs i 0) ≡ true → remaining vals (drop i cs) ≡ remaining vals (drop (i + 1) cs)
unfolding remaining
remaining_ready vals cs i h e = rw (drop-cons cs i 0 h, e, add-one i)

pub remaining_left : (vals cs : List ℕ) (i : ℕ) → i < length cs → has vals (get_or cs i 0) ≡ false
    → remaining vals (drop i cs) ≡ get_or cs i 0 ∷ remaining vals (drop (i + 1) cs)
unfolding remaining
remaining_left vals cs i h e = rw (drop-cons cs i 0 h, e, add-one i)

pub remaining_end : (vals cs : List ℕ) (i : ℕ) → length cs ≤ i → remaining vals (drop i cs) ≡ []
unfolding remaining
remaining_end vals cs i h = rw (drop_of_length-le cs h)

-- ---- step C, prefix by prefix

pub rule_c_ready : (before : List Row) (ps : List Prefix) (i : ℕ) (d : Prefix) → i < length ps → has (ready before) (get_or ps i d).value ≡ true
    → rule_c before (drop i ps) ≡ rule_c before (drop (i + 1) ps)
unfolding rule_c
rule_c_ready before ps i d h e = rw (drop-cons ps i d h, e, add-one i)

pub rule_c_row : (before : List Row) (ps : List Prefix) (i : ℕ) (d : Prefix) → i < length ps → has (ready before) (get_or ps i d).value ≡ false
    → let x = prefix_row before (get_or ps i d) in rule_c before (drop i ps) ≡ x ∷ rule_c (before ++ (x ∷ [])) (drop (i + 1) ps)
unfolding rule_c
rule_c_row before ps i d h e = rw (drop-cons ps i d h, e, add-one i)

pub rule_c_end : (before : List Row) (ps : List Prefix) (i : ℕ) → length ps ≤ i → rule_c before (drop i ps) ≡ []
unfolding rule_c
rule_c_end before ps i h = rw (drop_of_length-le ps h)
