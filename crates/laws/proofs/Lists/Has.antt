-- A value in a list: the test and membership are one. Assumes nothing.
use mathlib.Core.Path.{subst}
use mathlib.Core.List.{List, Memᴰ}
use Prim.Native.Nat.{ℕ}
use lib.Dec.{T, eqb, eqb→eq, eqb_refl}
use Rattle.meaning.specs.Basics.{has}
use Rattle.laws.proofs.Lists.Tests.{any_in, in_any}

pub in_has : {xs : List ℕ} {c : ℕ} → Memᴰ c xs → T (has xs c)
in_has {c} i = in_any (λ x. eqb x c) i (eqb_refl c)

pub has_in : (xs : List ℕ) (c : ℕ) → T (has xs c) → Memᴰ c xs
has_in xs c t = let (x, i, q) = any_in (λ x. eqb x c) xs t in subst (λ y. Memᴰ y xs) (eqb→eq x c q) i

-- every member of the one list is in the other
abbrev pub Among : List ℕ → List ℕ → Type 0
Among xs ys = (a : ℕ) → Memᴰ a xs → Memᴰ a ys
