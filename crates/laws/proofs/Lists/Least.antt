-- Lists in order, and that the first member that gives something is the least such. Assumes nothing.
use mathlib.Core.Path.{◌≡◌, refl, sym, ◌∙◌, subst}
use mathlib.Core.List.Memᴰ
use mathlib.Core.List.{List, [], ◌∷◌, ◌++◌, map, Memᴰ}
use mathlib.Core.Logic.{◌⊎◌, ⊎_elim}
use Rattle.std.specs.Prelude.{Option, Some, None, is_some}
use Prim.Native.Nat.{ℕ, zero, suc, ◌<◌}
use native.Mathlib.Omega.{arith}
use lib.Dec.{T}
use Rattle.meaning.specs.Basics.{up_from, first_some}
use Rattle.meaning.specs.Constants.{Ascending}
use Rattle.laws.proofs.Lists.First.{first_none, first_some_lem}
use Rattle.laws.proofs.Lists.Tests.{up_in}

-- no member is sooner than one that stands before it, or than itself
unfoldable pub Ordered : {A : Type 0} → (A → A → Type 0) → List A → Type 0
Ordered S [] = Unit {0}
Ordered S (x ∷ xs) = ((y : _) → Memᴰ y (x ∷ xs) → ¬ (S y x)) × Ordered S xs

-- by the first number, then by the second
abbrev pub Lex : ℕ × ℕ → ℕ × ℕ → Type 0
Lex p q = (p.0 < q.0) ⊎ ((p.0 ≡ q.0) × (p.1 < q.1))

-- the least member that gives something
pub record Least {A B : Type 0} (S : A → A → Type 0) (f : A → Option B) (xs : List A) (b : B) : Type 0 where
  pub at : A
  pub is_in : Memᴰ at xs
  pub gives : f at ≡ Some b
  pub least : (y : A) → Memᴰ y xs → T (is_some (f y)) → ¬ (S y at)

module _ {A B : Type 0} (S : A → A → Type 0) (f : A → Option B) where
  pub first_least : (xs : List A) (b : B) → Ordered S xs → first_some f xs ≡ Some b → Least S f xs b
  unfolding Ordered
  first_least [] b o e = unfold first_some in absurd (let z : ◌≡◌ {A = ℕ} 0 1 = cc in omega arith)
  first_least (x ∷ xs) b o e = go (f x) refl (λ q. first_least xs b o.1 q)
    where
      go : (r : Option B) → f x ≡ r → (first_some f xs ≡ Some b → Least S f xs b) → Least S f (x ∷ xs) b
      go None p rest =
          let k = rest (sym (first_none f x xs p) ∙ e) in
          record {
            at = k.at;
            is_in = Memᴰ.tail k.is_in;
            gives = k.gives;
            least = λ y i t s. ⊎_elim (λ q. subst (λ r. T (is_some r)) p (subst (λ z. T (is_some (f z))) q t)) (λ j. k.least y j t s) (Memᴰ.cases_cons i);
          }
      go (Some c) p rest =
          record { at = x; is_in = Memᴰ.head refl; gives = p ∙ sym (first_some_lem f x xs c p) ∙ e; least = λ y i t. o.0 y i }

-- ---- lists that are in order

module _ {A : Type 0} (S : A → A → Type 0) where
  pub ordered_append : (xs ys : List A) → Ordered S xs → Ordered S ys → ((x y : A) → Memᴰ x xs → Memᴰ y ys → ¬ (S y x)) → Ordered S (xs ++ ys)
  unfolding Ordered
  ordered_append [] ys o p h = p
  ordered_append (x ∷ xs) ys o p h = (
    λ y i. ⊎_elim (λ j. o.0 y j) (λ j. h x y (Memᴰ.head refl) j) (Memᴰ.append_cases (x ∷ xs) i),
    ordered_append xs ys o.1 p (λ z y i j. h z y (Memᴰ.tail i) j),
  )

  pub ordered_map : {C : Type 0} (R : C → C → Type 0) (g : C → A) (xs : List C) → ((x y : C) → S (g y) (g x) → R y x) → Ordered R xs → Ordered S (map g xs)
  unfolding Ordered
  ordered_map R g [] h o = tt
  ordered_map R g (x ∷ xs) h o = (
    λ y i s. let (z, j, e) = Memᴰ.of_map g (x ∷ xs) i in o.0 z j (h x z (subst (λ w. S w (g x)) (sym e) s)),
    ordered_map R g xs h o.1,
  )

pub up_ordered : (k n : ℕ) → Ordered ◌<◌ (up_from k n)
unfolding Ordered
up_ordered k zero = tt
up_ordered k (suc n) = (λ y i l. let h = up_in k (suc n) y i in omega arith, up_ordered (suc k) n)

pub ascending_ordered : (cs : List ℕ) → Ascending cs → Ordered ◌<◌ cs
unfolding Ordered Ascending
ascending_ordered [] a = tt
ascending_ordered (c ∷ cs) a =
    (λ d i l. ⊎_elim (λ e. omega arith) (λ j. let h = a.0 d j in omega arith) (Memᴰ.cases_cons i), ascending_ordered cs a.1)
