-- What stands at a place of a text is within it. Assumes nothing.
use mathlib.Core.Path.{◌≡◌, refl}
use mathlib.Core.Bool.{Bool, true, false, cond}
use mathlib.Core.List.{List, [], ◌∷◌}
use Prim.Native.Nat.{ℕ, suc, ◌+◌, ◌≤◌, max}
use native.Mathlib.Omega.{arith}
use lib.Dec.{eqb, ltb}
use lib.ListN.{length, get_or}
use borrow.Author.Tests.{ltb-true}
use Rattle.meaning.specs.Text.{stands}

-- what stands in a text is within it
within_by : (b d r : Bool) (cs s : List ℕ) (at : ℕ) → ltb at (length s) ≡ b → (r ≡ true → at + 1 + length cs ≤ max (at + 1) (length s))
    → cond b (cond d r false) false ≡ true → at + suc (length cs) ≤ max at (length s)
within_by true true r cs s at e h k = let l = ltb-true at (length s) e in let i = h k in omega arith
within_by true false r cs s at e h k = let z : ◌≡◌ {A = ℕ} 0 1 = cc in omega arith
within_by false d r cs s at e h k = let z : ◌≡◌ {A = ℕ} 0 1 = cc in omega arith

pub stands_within : (text s : List ℕ) (at : ℕ) → stands text s at ≡ true → at + length text ≤ max at (length s)
unfolding stands
stands_within [] s at e = omega arith
stands_within (c ∷ cs) s at e =
    within_by (ltb at (length s)) (eqb (get_or s at 0) c) (stands cs s (at + 1)) cs s at refl (stands_within cs s (at + 1)) e
