-- The generator's rule. Assumes nothing.
use Rattle.std.specs.Prelude.{cond, List, [], ◌∷◌, ◌++◌, map, Option, Some, None, option_map, option_and_then, unwrap_or, ℕ, zero, suc, ◌-◌, ℤ, length, get_or}
use Rattle.meaning.specs.declared.Choice.{Choice}
use Rattle.meaning.specs.declared.Row.{Row}
use Rattle.meaning.specs.declared.Prefix.{Prefix}
use Rattle.meaning.specs.Basics.{has, index_from, up_from, zeros, first_some}
use Rattle.meaning.specs.Limits.{limit}
use Rattle.meaning.specs.Constants.{wanted}
use Rattle.meaning.specs.Operation.{size}
use Rattle.meaning.specs.Graph.{ready}
use Rattle.meaning.specs.Distance.{does_give, shift_pairs, candidates}
use Rattle.meaning.specs.Digits.{prefixes}

-- one choice of indices, shifts and sign, if it is valid and gives c; vals are the values by index
unfoldable pub chosen : ℕ → List ℕ → ℕ → ℕ → ℕ → ℕ → ℕ → ℕ → Option Choice
chosen L vals c i j l1 l2 s =
    let u : ℕ = get_or vals i 0 in
    let v : ℕ = get_or vals j 0 in
    cond (does_give L u v l1 l2 s c) (Some (record { u = i; v = j; l1 = l1; l2 = l2; s = s; r = zeros (size u v l1 l2 s) })) None

-- the first valid choice in the order u index, v index, l1, l2, s, with the u index at most the v index
unfoldable pub choice_for : ℕ → List ℕ → ℕ → Option Choice
choice_for L vals c =
    first_some (λ i.
    first_some (λ j.
    first_some (λ p.
    first_some (λ s. chosen L vals c i j p.0 p.1 s) (0 ∷ 1 ∷ []))
    (shift_pairs L))
    (up_from i (length vals - i)))
    (up_from 0 (length vals))

-- the row of a choice that gives c
abbrev pub row_of : ℕ → Choice → Row
row_of c x = record { u = x.u; v = x.v; l1 = x.l1; l2 = x.l2; s = x.s; r = x.r; value = c }

-- the row that makes c after some rows, by the first valid choice
unfoldable pub row_for : ℕ → List Row → ℕ → Option Row
row_for L before c = option_map (row_of c) (choice_for L (ready before) c)

-- the wanted constants that are not ready
unfoldable pub remaining : List ℕ → List ℕ → List ℕ
remaining vals [] = []
remaining vals (c ∷ cs) = cond (has vals c) (remaining vals cs) (c ∷ remaining vals cs)

-- A: the row of the smallest at distance 1
unfoldable pub rule_a : ℕ → List Row → List ℕ → Option (List Row)
rule_a L before cs = first_some (λ c. option_map (λ x. x ∷ []) (row_for L before c)) cs

-- what step B tries: constants ascending, and for each the candidates s ascending
unfoldable pub trials : ℕ → List ℕ → List (ℕ × ℕ)
trials L [] = []
trials L (c ∷ cs) = map (λ s. (c, s)) (candidates L) ++ trials L cs

-- the rows of s and then of c, if s serves c
unfoldable pub serve : ℕ → List Row → ℕ × ℕ → Option (List Row)
serve L before p =
    option_and_then (λ x. option_map (λ y. x ∷ y ∷ []) (row_for L (before ++ (x ∷ [])) p.0)) (row_for L before p.1)

-- B: the smallest constant at distance 2, by the smallest s that serves
unfoldable pub rule_b : ℕ → List Row → List ℕ → Option (List Row)
rule_b L before cs = first_some (serve L before) (trials L cs)

-- C: a row for each prefix that is not yet ready, from the prefix before it
abbrev pub prefix_row : List Row → Prefix → Row
prefix_row before p = record { u = index_from 0 (ready before) p.before; v = 0; l1 = p.gap; l2 = 0; s = p.s; r = 0; value = p.value }

unfoldable pub rule_c : List Row → List Prefix → List Row
rule_c before [] = []
rule_c before (p ∷ ps) =
    cond (has (ready before) p.value) (rule_c before ps) (prefix_row before p ∷ rule_c (before ++ (prefix_row before p ∷ [])) ps)

-- the rows that a turn adds for the constants that remain, ascending: by A, else B, else C for the smallest
unfoldable pub added : ℕ → List Row → List ℕ → List Row
added L before [] = []
added L before (c ∷ cs) = unwrap_or (rule_a L before (c ∷ cs)) (unwrap_or (rule_b L before (c ∷ cs)) (rule_c before (prefixes c)))

-- what a turn hands on: the rows that are drawn
pub record Draft : Type 0 where
  pub rows : List Row

-- one turn, for the wanted constants cs
unfoldable pub turn : ℕ → List ℕ → Draft → Draft
turn L cs d = record { rows = d.rows ++ added L d.rows (remaining (ready d.rows) cs) }

-- a turn makes one of them ready or more, so that as many turns as there are constants are enough
unfoldable pub turns : ℕ → ℕ → List ℕ → Draft → Draft
turns L zero cs d = d
turns L (suc k) cs d = turns L k cs (turn L cs d)

unfoldable pub generated : ℕ → List ℤ → List Row
generated b ts = (turns (limit b) (length (wanted ts)) (wanted ts) (record { rows = [] })).rows
