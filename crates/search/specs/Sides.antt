-- The operation by its sides, in the parts that the code marks one after the other. Assumes nothing.
use Rattle.std.specs.Prelude.{Bool, ◌||◌, List, ℕ, ◌+◌, ◌-◌, ◌*◌, ◌^◌, eqb}
use Rattle.meaning.specs.Basics.{any, up_from, zeros}
use Rattle.meaning.specs.Operation.{size, is_outcome}
use Rattle.meaning.specs.Distance.{is_one_op}

-- c is n without its trailing zeros, and below 2 ^ L
unfoldable pub does_hit : (L n c : ℕ) → Bool
does_hit L n c = is_outcome L n (zeros n) c

-- one operation on u as it is and v shifted by l gives c
unfoldable pub is_at : (L u v l c : ℕ) → Bool
is_at L u v l c = does_hit L (size u v 0 l 0) c || does_hit L (size u v 0 l 1) c

-- the same for some shift below n
unfoldable pub is_side_to : (L u v n c : ℕ) → Bool
is_side_to L u v n c = any (λ l. is_at L u v l c) (up_from 0 n)

-- one operation on v and some member gives c
unfoldable pub is_with : ℕ → ℕ → List ℕ → ℕ → Bool
is_with L v vals c = any (λ u. is_one_op L v u c) vals

-- c is s times 2 ^ l - 1 or 2 ^ l + 1
unfoldable pub is_factor : (c l s : ℕ) → Bool
is_factor c l s = eqb (s * (2 ^ l - 1)) c || eqb (s * (2 ^ l + 1)) c

-- for some l of 1 .. n
unfoldable pub is_twice : (n c s : ℕ) → Bool
is_twice n c s = any (λ l. is_factor c l s) (up_from 1 n)
