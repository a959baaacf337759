-- Permutations keep members and length. Assumes nothing.
use mathlib.Core.Path.{◌≡◌, refl, ◌∙◌}
use mathlib.Core.List.Memᴰ
use mathlib.Core.List.{List, Memᴰ, Permᴰ}
use mathlib.Core.Logic.{⊎_elim}
use Prim.Native.Nat.{ℕ}
use native.Mathlib.Omega.{arith}
use lib.ListN.{length}

pub perm_in : {xs ys : List ℕ} → Permᴰ xs ys → (k : ℕ) → Memᴰ k xs → Memᴰ k ys
perm_in Permᴰ.nil k i = i
perm_in (Permᴰ.cons e p) k i = ⊎_elim (λ q. Memᴰ.head (q ∙ e)) (λ j. Memᴰ.tail (perm_in p k j)) (Memᴰ.cases_cons i)
perm_in (Permᴰ.swap e f) k i =
    ⊎_elim (λ q. Memᴰ.tail (Memᴰ.head (q ∙ e))) (λ j. ⊎_elim (λ q. Memᴰ.head (q ∙ f)) (λ l. Memᴰ.tail (Memᴰ.tail l)) (Memᴰ.cases_cons j)) (Memᴰ.cases_cons i)
perm_in (Permᴰ.trans p q) k i = perm_in q k (perm_in p k i)

pub perm_length : {xs ys : List ℕ} → Permᴰ xs ys → length xs ≡ length ys
perm_length Permᴰ.nil = refl
perm_length (Permᴰ.cons e p) = omega (arith, perm_length p)
perm_length (Permᴰ.swap e f) = refl
perm_length (Permᴰ.trans p q) = perm_length p ∙ perm_length q
