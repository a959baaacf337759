-- A row's product from its operands' values and products, and the ranges that keep each step of the code within 64 bits. Assumes nothing.
use Rattle.std.specs.Prelude.{ℕ, ◌*◌, ◌^◌, ◌≤◌, ℤ, pos, nat_abs}
use Rattle.std.specs.Int.Signed.{quot_z}
use Rattle.meaning.specs.declared.Row.{Row}
use Rattle.meaning.specs.Products.{is_negative, joined, negated_if}

-- a row's product, from its operands' values u and v and their products p and q
unfoldable pub worked : (u v : ℕ) → (p q : ℤ) → Row → ℤ
worked u v p q x = quot_z (negated_if (is_negative u v x.l1 x.l2 x.s) (joined p q x.l1 x.l2 x.s)) (pos (2 ^ x.r))

-- both shifted products stay far below 2 ^ 63
pub record Narrow (p q : ℤ) (x : Row) : Type 0 where
  pub left : x.l1 ≤ 30
  pub right : x.l2 ≤ 30
  pub back : x.r ≤ 30
  pub first : 2 ^ x.l1 * nat_abs p ≤ 2 ^ 61
  pub second : 2 ^ x.l2 * nat_abs q ≤ 2 ^ 61
