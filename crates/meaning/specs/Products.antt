-- Products, worked over whole numbers from the operands' products as a row's words say. Assumes nothing.
use Rattle.std.specs.Prelude.{Bool, true, false, List, [], ◌∷◌, ◌++◌, map, ℕ, zero, suc, ◌*◌, ◌^◌, ltb, ℤ, pos, neg_ℤ, ◌+ℤ◌, ◌-ℤ◌, ◌*ℤ◌, get_or}
use Rattle.std.specs.Int.Signed.{quot_z}
use Rattle.meaning.specs.declared.Row.{Row}
use Rattle.meaning.specs.Constants.{sign_of, shift_of, odd_of}
use Rattle.meaning.specs.Graph.{values, ready, output_index}

-- n is negative: s is 1 and 2^l1 u is less than 2^l2 v
abbrev pub is_negative : (u v l1 l2 s : ℕ) → Bool
is_negative u v l1 l2 zero = false
is_negative u v l1 l2 (suc s) = ltb (2 ^ l1 * u) (2 ^ l2 * v)

-- 2^l1 p + (-1)^s 2^l2 q
abbrev pub joined : ℤ → ℤ → (l1 l2 s : ℕ) → ℤ
joined p q l1 l2 zero = pos (2 ^ l1) *ℤ p +ℤ pos (2 ^ l2) *ℤ q
joined p q l1 l2 (suc s) = pos (2 ^ l1) *ℤ p -ℤ pos (2 ^ l2) *ℤ q

-- where n is negative the difference is negated, whatever the sign of x
abbrev pub negated_if : Bool → ℤ → ℤ
negated_if true z = neg_ℤ z
negated_if false z = z

-- a row's product, from the values and the products of the indices below
unfoldable pub row_product : List ℕ → List ℤ → Row → ℤ
row_product vals ps x =
    quot_z
    (negated_if (is_negative (get_or vals x.u 0) (get_or vals x.v 0) x.l1 x.l2 x.s)
    (joined (get_or ps x.u (pos 0)) (get_or ps x.v (pos 0)) x.l1 x.l2 x.s))
    (pos (2 ^ x.r))

-- the products by index, after those in ps, which are of the rows before
unfoldable pub products_from : List Row → List ℤ → List Row → List ℤ
products_from before ps [] = ps
products_from before ps (x ∷ xs) = products_from (before ++ (x ∷ [])) (ps ++ (row_product (ready before) ps x ∷ [])) xs

-- the input's product is x
unfoldable pub products : List Row → ℤ → List ℤ
products xs x = products_from [] (x ∷ []) xs

-- the product of a target: sign × 2^shift × its row's product, by the rows' values and the products of the indices
unfoldable pub target_product : List ℕ → List ℤ → ℤ → ℤ
target_product vals ps t = sign_of t *ℤ (pos (2 ^ shift_of t) *ℤ get_or ps (output_index vals (odd_of t)) (pos 0))

unfoldable pub target_products : List Row → ℤ → List ℤ → List ℤ
target_products xs x ts = map (target_product (values xs) (products xs x)) ts
