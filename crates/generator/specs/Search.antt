-- The search for the first row, part by part. Assumes nothing.
use Rattle.std.specs.Prelude.{◌≡◌, cond, List, [], ◌∷◌, Option, Some, None, ℕ, ◌+◌, ◌-◌, ◌^◌, ◌≤◌, ◌<◌, min, length, get_or}
use Rattle.meaning.specs.Limits.{most_limit, most_ready}
use Rattle.meaning.specs.declared.Choice.{Choice}
use Rattle.meaning.specs.Basics.{up_from, zeros, first_some}
use Rattle.meaning.specs.Operation.{Odd, size}
use Rattle.meaning.specs.Distance.{does_give, shift_pairs}
use Rattle.generator.specs.declared.first_choice.Pair.{Pair}

-- what may be asked: the values have indices, and the constant c is odd and below 2 ^ L, which has room for guard bits
pub record Searchable (L : ℕ) (vals : List ℕ) (c : ℕ) : Type 0 where
  pub limit : L ≤ most_limit
  pub few : length vals ≤ most_ready
  pub wanted : Odd L c

-- what of it concerns a pair
pub record Sought (p : Pair) : Type 0 where
  pub limit : p.limit ≤ most_limit
  pub below : p.c < 2 ^ p.limit

-- two shifts that may be tried for it
pub record Tried (p : Pair) (l1 l2 : ℕ) : Type 0 where
  pub sought : Sought p
  pub left : l1 ≤ p.limit
  pub right : l2 ≤ p.limit
  pub unshifted : min l1 l2 ≡ 0

-- the row of one choice for a pair, if it is valid and gives c
unfoldable pub choice_of : Pair → ℕ → ℕ → ℕ → Option Choice
choice_of p l1 l2 s =
    cond (does_give p.limit p.u p.v l1 l2 s p.c)
    (Some (record { u = p.i; v = p.j; l1 = l1; l2 = l2; s = s; r = zeros (size p.u p.v l1 l2 s) }))
    None

-- the first of the signs
unfoldable pub sign_choice : Pair → ℕ → ℕ → Option Choice
sign_choice p l1 l2 = first_some (λ s. choice_of p l1 l2 s) (0 ∷ 1 ∷ [])

-- the first of the shifts with l1 = 0, with l1 > 0, and of both
unfoldable pub right_choice : Pair → Option Choice
right_choice p = first_some (λ l. sign_choice p 0 l) (up_from 0 (p.limit + 1))

unfoldable pub left_choice : Pair → Option Choice
left_choice p = first_some (λ l. sign_choice p l 0) (up_from 1 p.limit)

unfoldable pub pair_choice : Pair → Option Choice
pair_choice p = first_some (λ q. sign_choice p q.0 q.1) (shift_pairs p.limit)

-- the pair at two indices
abbrev pub pair_at : ℕ → List ℕ → ℕ → ℕ → ℕ → Pair
pair_at L vals c i j = record { limit = L; c = c; i = i; j = j; u = get_or vals i 0; v = get_or vals j 0 }

-- the first of the pairs whose u index is i
unfoldable pub from_choice : ℕ → List ℕ → ℕ → ℕ → Option Choice
from_choice L vals c i = first_some (λ j. pair_choice (pair_at L vals c i j)) (up_from i (length vals - i))
