-- Distance: how many operations make a constant from a list of values. Assumes nothing.
use Rattle.std.specs.Prelude.{Bool, ◌&&◌, ◌||◌, cond, ℕ, ◌+◌, ◌-◌, ◌*◌, ◌^◌}
use mathlib.Core.List.{List, ◌∷◌, ◌++◌, map, Memᴰ}
use Rattle.meaning.specs.declared.Far.{Far}
use Rattle.meaning.specs.declared.Far.TheVariants.{Zero, One, Two, Beyond}
use Rattle.meaning.specs.Basics.{any, has, up_from, zeros}
use Rattle.meaning.specs.Operation.{size, is_valid, Gives}

-- one operation on u and v with these shifts and sign gives c
unfoldable pub does_give : (L u v l1 l2 s c : ℕ) → Bool
does_give L u v l1 l2 s c = is_valid L u v l1 l2 s (zeros (size u v l1 l2 s)) c

-- the pairs of left shifts of which one is 0: l1, then l2, ascending
unfoldable pub shift_pairs : ℕ → List (ℕ × ℕ)
shift_pairs L = map (λ l. (0, l)) (up_from 0 (L + 1)) ++ map (λ l. (l, 0)) (up_from 1 L)

-- one operation on u and v gives c
unfoldable pub is_one_op : (L u v c : ℕ) → Bool
is_one_op L u v c = any (λ p. does_give L u v p.0 p.1 0 c || does_give L u v p.0 p.1 1 c) (shift_pairs L)

-- one operation on two values of the list, perhaps the same one twice, gives c
unfoldable pub does_reach : ℕ → List ℕ → ℕ → Bool
does_reach L vals c = any (λ u. any (λ v. is_one_op L u v c) vals) vals

-- the same as a statement
pub record Reached (L : ℕ) (vals : List ℕ) (c : ℕ) : Type 0 where
  pub u : ℕ
  pub v : ℕ
  pub first : Memᴰ u vals
  pub second : Memᴰ v vals
  pub gives : Gives L u v c

-- some s is reached by one operation, and with s added one operation reaches c; s may be greater than c
pub record ReachedTwice (L : ℕ) (vals : List ℕ) (c : ℕ) : Type 0 where
  pub s : ℕ
  pub first : Reached L vals s
  pub second : Reached L (s ∷ vals) c

-- s is reached by one operation, and with s added to the list one operation gives c
unfoldable pub does_serve : ℕ → List ℕ → ℕ → ℕ → Bool
does_serve L vals c s = does_reach L vals s && does_reach L (s ∷ vals) c

-- the odd numbers 3, 5, .. below 2 ^ L
unfoldable pub candidates : ℕ → List ℕ
candidates L = map (λ k. 2 * k + 1) (up_from 1 (2 ^ (L - 1) - 1))

-- a list need not hold 1, so that s may be 1 too
unfoldable pub distance : ℕ → List ℕ → ℕ → Far
distance L vals c =
    cond (has vals c) Zero
    (cond (does_reach L vals c) One
    (cond (any (does_serve L vals c) (1 ∷ candidates L)) Two
    Beyond))
