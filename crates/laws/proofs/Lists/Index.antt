-- The member at an index, and the lowest index that has a value. Assumes nothing.
use mathlib.Core.Path.{◌≡◌, refl, ◌∙◌, subst}
use mathlib.Core.Bool.{Bool, true, false, cond, ◌||◌}
use mathlib.Core.List.{List, [], ◌∷◌, map, Memᴰ}
use Prim.Native.Nat.{ℕ, zero, suc, ◌+◌, ◌≤◌, ◌<◌}
use native.Mathlib.Nat.{le_of_suc-le-suc}
use native.Mathlib.Omega.{arith}
use lib.Dec.{T, eqb, eqb→eq}
use lib.ListN.{length, get_or}
use Rattle.meaning.specs.Basics.{has, index_from}
use Rattle.laws.proofs.Lists.Tests.{eqb_of_eq, T_of}

-- ---- the member at an index

pub get_or_in {ℓ} : {A : Type ℓ} (xs : List A) (i : ℕ) (d : A) → i < length xs → Memᴰ (get_or xs i d) xs
get_or_in [] i d h = absurd (omega arith)
get_or_in (x ∷ xs) zero d h = Memᴰ.head refl
get_or_in (x ∷ xs) (suc i) d h = Memᴰ.tail (get_or_in xs i d (omega arith))

pub in_get_or : {u : ℕ} {xs : List ℕ} → Memᴰ u xs → (i : ℕ) × (i < length xs) × (u ≡ get_or xs i 0)
in_get_or (Memᴰ.head e) = (0, omega arith, e)
in_get_or (Memᴰ.tail j) = let (i, h, e) = in_get_or j in (suc i, omega arith, e)

-- and of what a function makes of the members
pub at_map : {A B : Type 0} (f : A → B) (xs : List A) (k : ℕ) (d : A) (e : B) → k < length xs → get_or (map f xs) k e ≡ f (get_or xs k d)
at_map f [] k d e h = absurd (omega arith)
at_map f (x ∷ xs) zero d e h = refl
at_map f (x ∷ xs) (suc k) d e h = at_map f xs k d e (omega arith)

-- ---- the lowest index of a value

-- index i has c, and no lower index has
pub record Lowest (xs : List ℕ) (c i : ℕ) : Type 0 where
  pub inside : i < length xs
  pub at : get_or xs i 0 ≡ c
  pub below : (j : ℕ) → j < i → get_or xs j 0 ≡ c → ⊥

-- nor has the value before the list, if it is another
pub none_below : (x : ℕ) (xs : List ℕ) (c i : ℕ) → eqb x c ≡ false → ((j : ℕ) → j < i → get_or xs j 0 ≡ c → ⊥) → (j : ℕ) → j < suc i → get_or (x ∷ xs) j 0 ≡ c → ⊥
none_below x xs c i e b zero h q = subst T e (eqb_of_eq x c q)
none_below x xs c i e b (suc j) h q = b j (le_of_suc-le-suc h) q

pub index_is : (k : ℕ) (xs : List ℕ) (c : ℕ) → T (has xs c) → (i : ℕ) × (index_from k xs c ≡ k + i) × Lowest xs c i
unfolding index_from
index_is k [] c t = absurd t
index_is k (x ∷ xs) c t = go (eqb x c) refl t (λ q. index_is (suc k) xs c q)
  where
    go : (b : Bool) → eqb x c ≡ b → T (b || has xs c)
        → (T (has xs c) → (i : ℕ) × (index_from (suc k) xs c ≡ suc k + i) × Lowest xs c i)
        → (i : ℕ) × (cond b k (index_from (suc k) xs c) ≡ k + i) × Lowest (x ∷ xs) c i
    go true e t rest = (0, omega arith, record { inside = omega arith; at = eqb→eq x c (T_of e); below = λ j h q. absurd (omega arith) })
    go false e t rest =
        let (i, f, l) = rest t in
        (suc i, f ∙ omega arith, record { inside = let h = l.inside in omega arith; at = l.at; below = none_below x xs c i e l.below })

-- no index below it has c
pub index_lowest : (k : ℕ) (xs : List ℕ) (c i : ℕ) → k + i < index_from k xs c → ¬ (get_or xs i 0 ≡ c)
unfolding index_from
index_lowest k [] c i h q = omega arith
index_lowest k (x ∷ xs) c i h q = go (eqb x c) refl i h q (λ j. index_lowest (suc k) xs c j)
  where
    go : (b : Bool) → eqb x c ≡ b → (i : ℕ) → k + i < cond b k (index_from (suc k) xs c) → get_or (x ∷ xs) i 0 ≡ c
        → ((j : ℕ) → suc k + j < index_from (suc k) xs c → ¬ (get_or xs j 0 ≡ c)) → ⊥
    go true e i h q rest = omega arith
    go false e zero h q rest = subst T e (eqb_of_eq x c q)
    go false e (suc i) h q rest = rest i (omega arith) q

-- it is inside the list also where none has c
pub index_inside : (k : ℕ) (xs : List ℕ) (c : ℕ) → 0 < k + length xs → index_from k xs c < k + length xs
unfolding index_from
index_inside k [] c h = h
index_inside k (x ∷ xs) c h = go (eqb x c) (index_inside (suc k) xs c (omega arith))
  where
    go : (b : Bool) → index_from (suc k) xs c < suc k + length xs → cond b k (index_from (suc k) xs c) < k + suc (length xs)
    go true l = omega arith
    go false l = omega arith

pub index_most : (xs : List ℕ) (c : ℕ) → index_from 0 xs c ≤ length xs
index_most [] c = unfold index_from in (omega arith)
index_most (x ∷ xs) c = omega (arith, index_inside 0 (x ∷ xs) c (omega arith))
