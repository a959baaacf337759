-- The products by index of a graph whose rows are valid. Assumes nothing.
use Rattle.std.specs.Prelude.{◌≡◌, List, [], ◌∷◌, map, ℕ, ◌+◌, ◌^◌, ◌≤◌, ℤ, pos, nat_abs, ◌*ℤ◌, length, get_or}
use Rattle.meaning.specs.declared.Row.{Row}
use Rattle.meaning.specs.Limits.{most_limit}
use Rattle.meaning.specs.Graph.{row_after, Sound}
use Rattle.products.specs.RowProductWorked.{Narrow}

-- the row after i rows can be worked from the products of the indices before it
pub record Next (w : List ℕ) (i : ℕ) (ps : List ℤ) : Type 0 where
  pub count : length ps ≡ i + 1
  pub first : (row_after w i).u ≤ i
  pub second : (row_after w i).v ≤ i
  pub within : Narrow (get_or ps (row_after w i).u (pos 0)) (get_or ps (row_after w i).v (pos 0)) (row_after w i)

-- rows that are valid, under a limit that the product knows
pub record Graph (xs : List Row) : Type 0 where
  pub limit : ℕ
  pub least : 1 ≤ limit
  pub most : limit ≤ most_limit
  pub sound : Sound limit [] xs

-- the products by index, for some x of 32 bits: the input's is x, and each row's its value times x
pub record Made (vals : List ℕ) (ps : List ℤ) : Type 0 where
  pub x : ℤ
  pub small : nat_abs x ≤ 2 ^ 31
  pub are : ps ≡ map (λ v. pos v *ℤ x) (1 ∷ vals)
