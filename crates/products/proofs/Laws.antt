-- What the code of the products needs of its steps. Assumes nothing.
use mathlib.Core.Path.{◌≡◌, refl, sym, subst⁻¹}
use mathlib.Core.List.{List, [], ◌∷◌, ◌++◌}
use mathlib.Core.Bool.{Bool}
use Prim.Native.Nat.{ℕ, zero, suc, ◌+◌, ◌≤◌, ◌<◌}
use lib.Dec.{T}
use lib.IntN.{ℤ, pos}
use lib.ListN.{length, get_or}
use native.Mathlib.Nat.{le_of_suc-le-suc, not-suc-le-zero}
use native.Mathlib.Numerals.{add-one}
use Rattle.meaning.specs.declared.Row.{Row}
use Rattle.meaning.specs.Basics.{every}
use Rattle.laws.proofs.Lists.Tests.{both_of}
use Rattle.meaning.specs.Graph.{row_after, rows, ready}
use Rattle.meaning.specs.Products.{row_product, products_from, products}
use Rattle.laws.proofs.Products.{products_more}
use Rattle.products.specs.RowProductWorked.{worked, Narrow}
use Rattle.products.specs.Worked.{Next}

-- ---- a row of a slice

-- from the row y, the values u and v and the products p and q that code has read
pub next_read : (w : List ℕ) (i : ℕ) (ps : List ℤ) (y : Row) (u v : ℕ) (p q : ℤ) → y ≡ row_after w i
    → u ≡ get_or (ready (rows i w)) y.u 0 → v ≡ get_or (ready (rows i w)) y.v 0 → p ≡ get_or ps y.u (pos 0) → q ≡ get_or ps y.v (pos 0)
    → worked u v p q y ≡ row_product (ready (rows i w)) ps (row_after w i)
unfolding worked row_product
next_read w i ps y u v p q e a b f g = rw (a, b, f, g, e)

-- and that they may be read and worked
pub read_of : (w : List ℕ) (i : ℕ) (ps : List ℤ) (y : Row) → Next w i ps → y ≡ row_after w i
    → (y.u ≤ i) × (y.v ≤ i) × Narrow (get_or ps y.u (pos 0)) (get_or ps y.v (pos 0)) y
read_of w i ps y h e =
    subst⁻¹ (λ z. (z.u ≤ i) × (z.v ≤ i) × Narrow (get_or ps z.u (pos 0)) (get_or ps z.v (pos 0)) z) e (h.first, h.second, h.within)

-- ---- the products by index

pub made_first : (w : List ℕ) (x : ℤ) → (x ∷ []) ≡ products (rows 0 w) x
unfolding products products_from rows
made_first w x = refl

-- a turn makes the next row's product
pub made_more : (w : List ℕ) (x : ℤ) (i : ℕ) (made : List ℤ) (p : ℤ) → made ≡ products (rows i w) x
    → p ≡ row_product (ready (rows i w)) made (row_after w i) → made ++ (p ∷ []) ≡ products (rows (i + 1) w) x
made_more w x i made p e f = rw (f, e, add-one i) (sym (products_more i w x))

-- ---- a target of a list

pub every_at : {A : Type 0} (f : A → Bool) (xs : List A) (i : ℕ) (d : A) → i < length xs → T (every f xs) → T (f (get_or xs i d))
every_at f [] i d h t = absurd (not-suc-le-zero h)
every_at f (x ∷ xs) zero d h t = (both_of (f x) (every f xs) t).0
every_at f (x ∷ xs) (suc i) d h t = every_at f xs i d (le_of_suc-le-suc h) (both_of (f x) (every f xs) t).1
