-- The generator that Tauwaage replaces kept each adder's peak in a signed 32-bit field and ranked by it. Two rows tell its ranking
-- from ours, so that no program which ranks by such peaks meets the contract of the ranking. Assumes nothing.
use Rattle.std.specs.Prelude.{◌≡◌, cond, List, [], ◌∷◌, map, ℕ, ◌-◌, ◌%◌, ◌^◌, ltb, ℤ, pos, neg_ℤ}
use Rattle.meaning.specs.Refusals.{Answer}
use Rattle.meaning.specs.Widths.{row_width, ranking}
use Rattle.meaning.specs.Calls.{Ranks}

-- the greatest magnitude that an adder of this width holds
abbrev pub peak : ℕ → ℕ
peak width = 2 ^ (width - 1)

-- what a signed 32-bit field makes of a number
abbrev pub signed32 : ℕ → ℤ
signed32 p = cond (ltb (p % 2 ^ 32) (2 ^ 31)) (pos (p % 2 ^ 32)) (neg_ℤ (pos (2 ^ 32 - p % 2 ^ 32)))

-- a graph that makes 3 and 5, for inputs of 29 bits
abbrev pub words : List ℕ
words = 0 ∷ 0 ∷ 0 ∷ 1 ∷ 0 ∷ 0 ∷ 3 ∷ 0 ∷ 0 ∷ 0 ∷ 2 ∷ 0 ∷ 0 ∷ 5 ∷ []

pub record SortKey : Type 0 where
  pub widths : map (row_width 29) (3 ∷ 5 ∷ []) ≡ 31 ∷ 32 ∷ []
  -- row 2 is the wider, and its peak sorts below row 1's
  pub peaks : map (λ v. signed32 (peak (row_width 29 v))) (3 ∷ 5 ∷ []) ≡ pos 1073741824 ∷ neg_ℤ (pos 2147483648) ∷ []
  pub order : ranking 29 (3 ∷ 5 ∷ []) ≡ 2 ∷ 1 ∷ []
  -- whatever the call answers and leaves in a slice of two words, it is not the order of those peaks
  pub refused : (r : Answer) (after : List ℕ) → Ranks 8 (pos 3 ∷ pos 5 ∷ []) 2 words 29 r (0 ∷ 0 ∷ []) after → ¬ (after ≡ 1 ∷ 2 ∷ [])
