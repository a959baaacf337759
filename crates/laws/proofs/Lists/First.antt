-- The first member that gives something: what is found, and when; and as a loop meets it, what all give is what those left give. Assumes nothing.
use mathlib.Core.Path.{◌≡◌, refl, sym, ap, ◌∙◌, subst, subst⁻¹}
use mathlib.Core.Bool.{Bool, true, false, cond, ◌||◌}
use mathlib.Core.List.{List, [], ◌∷◌, ◌++◌, map, Memᴰ}
use mathlib.Core.Logic.{◌⊎◌, inl, inr, ⊎_elim}
use Prim.Native.Nat.{ℕ, zero, suc, ◌+◌, ◌-◌, ◌≤◌, ◌<◌}
use native.Mathlib.Omega.{arith}
use native.Mathlib.Numerals.{add-one}
use lib.Dec.{T}
use lib.ListN.{length}
use Rattle.std.specs.Prelude.{Option, Some, None, is_some, option_map, option_and_then, find}
use Rattle.std.specs.Option.{option_or}
use Rattle.meaning.specs.Basics.{up_from, first_some}
use Rattle.laws.proofs.Lists.Tests.{of_left, of_right, T_of}

pub found : {A : Type 0} (o : Option A) → T (is_some o) → (a : A) × (o ≡ Some a)
found None t = absurd t
found (Some a) t = (a, refl)

pub some_same : {A : Type 0} {a b : A} → ◌≡◌ {A = Option A} (Some a) (Some b) → a ≡ b
some_same e = cc

none_some {ℓ} : {A : Type 0} {B : Type ℓ} {a : A} → ◌≡◌ {A = Option A} None (Some a) → B
none_some e = absurd (let z : ◌≡◌ {A = ℕ} 0 1 = cc in omega arith)

-- what is found in the one or else in the other
or_from : {B : Type 0} (o p : Option B) (b : B) → option_or o p ≡ Some b → (o ≡ Some b) ⊎ ((o ≡ None) × (p ≡ Some b))
or_from None p b e = inr (refl, e)
or_from (Some a) p b e = inl e

or_some : {B : Type 0} (o p : Option B) → is_some (option_or o p) ≡ (is_some o || is_some p)
or_some None p = refl
or_some (Some b) p = refl

-- ---- what the first member gives

module _ {ℓ} {A : Type ℓ} {B : Type 0} (f : A → Option B) where
  -- what is found is what some member gives
  pub first_from : (xs : List A) (b : B) → first_some f xs ≡ Some b → (x : A) × Memᴰ x xs × (f x ≡ Some b)
  unfolding first_some
  first_from [] b e = none_some e
  first_from (x ∷ xs) b e =
      ⊎_elim (λ q. (x, Memᴰ.head refl, q)) (λ q. let (y, i, r) = first_from xs b q.1 in (y, Memᴰ.tail i, r)) (or_from (f x) (first_some f xs) b e)

  -- and one is found if some member gives one
  pub first_got : {x : A} {xs : List A} → Memᴰ x xs → T (is_some (f x)) → T (is_some (first_some f xs))
  unfolding first_some
  first_got {xs = []} m t = elim m [ ]
  first_got {xs = y ∷ ys} (Memᴰ.head e) t =
      subst⁻¹ T (or_some (f y) (first_some f ys)) (of_left (is_some (f y)) (is_some (first_some f ys)) (subst (λ z. T (is_some (f z))) e t))
  first_got {xs = y ∷ ys} (Memᴰ.tail i) t =
      subst⁻¹ T (or_some (f y) (first_some f ys)) (of_right (is_some (f y)) (is_some (first_some f ys)) (first_got i t))

pub then_from : {A B : Type 0} (o : Option A) (f : A → Option B) (b : B) → option_and_then f o ≡ Some b → (a : A) × (o ≡ Some a) × (f a ≡ Some b)
then_from None f b e = none_some e
then_from (Some a) f b e = (a, refl, e)

pub map_from : {A B : Type 0} (o : Option A) (f : A → B) (b : B) → option_map f o ≡ Some b → (a : A) × (o ≡ Some a) × (f a ≡ b)
map_from None f b e = none_some e
map_from (Some a) f b e = (a, refl, some_same e)

pub map_got : {A B : Type 0} (o : Option A) (f : A → B) → is_some (option_map f o) ≡ is_some o
map_got None f = refl
map_got (Some a) f = refl

-- ---- one member more

module _ {ℓ} {A : Type ℓ} {B : Type 0} (f : A → Option B) where
  pub first_none : (x : A) (xs : List A) → f x ≡ None → first_some f (x ∷ xs) ≡ first_some f xs
  unfolding first_some
  first_none x xs e = rw e

  pub first_some_lem : (x : A) (xs : List A) (b : B) → f x ≡ Some b → first_some f (x ∷ xs) ≡ Some b
  unfolding first_some
  first_some_lem x xs b e = rw e

  -- of one list and then another
  pub first_append : (xs ys : List A) → first_some f (xs ++ ys) ≡ option_or (first_some f xs) (first_some f ys)
  unfolding first_some
  first_append [] ys = refl
  first_append (x ∷ xs) ys = ap (option_or (f x)) (first_append xs ys) ∙ assoc (f x) (first_some f xs) (first_some f ys)
    where
      assoc : (a b c : Option B) → option_or a (option_or b c) ≡ option_or (option_or a b) c
      assoc None b c = refl
      assoc (Some x) b c = refl

pub first_map {ℓ} : {A C : Type ℓ} {B : Type 0} (f : A → Option B) (g : C → A) (xs : List C) → first_some f (map g xs) ≡ first_some (λ x. f (g x)) xs
unfolding first_some
first_map f g [] = refl
first_map f g (x ∷ xs) = ap (option_or (f (g x))) (first_map f g xs)

-- ---- the first that passes a test

pub find_from : {A : Type 0} (t : A → Bool) (xs : List A) (a : A) → find t xs ≡ Some a → Memᴰ a xs × T (t a)
find_from t [] a e = none_some e
find_from t (x ∷ xs) a e = go (t x) refl e (λ q. find_from t xs a q)
  where
    go : (b : Bool) → t x ≡ b → cond b (Some x) (find t xs) ≡ Some a → (find t xs ≡ Some a → Memᴰ a xs × T (t a)) → Memᴰ a (x ∷ xs) × T (t a)
    go true p q rest = let f : x ≡ a = cc in (Memᴰ.head (sym f), subst (λ z. T (t z)) f (T_of p))
    go false p q rest = let (i, r) = rest q in (Memᴰ.tail i, r)

pub find_none : {A : Type 0} (t : A → Bool) {x : A} {xs : List A} → find t xs ≡ None → Memᴰ x xs → ¬ T (t x)
find_none t {xs = []} e i h = elim i [ ]
find_none t {x = x} {xs = y ∷ ys} e i h = go (t y) refl e i (λ q j. find_none t q j h)
  where
    go : (b : Bool) → t y ≡ b → cond b (Some y) (find t ys) ≡ None → Memᴰ x (y ∷ ys) → (find t ys ≡ None → Memᴰ x ys → ⊥) → ⊥
    go true p q i rest = none_some (sym q)
    go false p q (Memᴰ.head f) rest = subst T p (subst (λ z. T (t z)) f h)
    go false p q (Memᴰ.tail j) rest = rest q j

-- what the first member that gives something gives, by a test that says which do
pub first_find : {A B : Type 0} (f : A → Option B) (t : A → Bool) → ((x : A) → is_some (f x) ≡ t x) → (xs : List A) → first_some f xs ≡ option_and_then f (find t xs)
unfolding first_some
first_find f t e [] = refl
first_find {B = B} f t e (x ∷ xs) = go (f x) (t x) refl (e x) (first_find f t e xs)
  where
    go : (o : Option B) (b : Bool) → f x ≡ o → is_some (f x) ≡ b → first_some f xs ≡ option_and_then f (find t xs)
        → option_or (f x) (first_some f xs) ≡ option_and_then f (cond b (Some x) (find t xs))
    go None true p q ih = absurd (subst T (ap is_some p) (T_of q))
    go None false p q ih = rw p ih
    go (Some y) true p q ih = rw p refl
    go (Some y) false p q ih = absurd (subst T q (T_of (ap is_some p)))

-- ---- over the numbers from k on below e

pub up_split : (k e : ℕ) → k < e → up_from k (e - k) ≡ k ∷ up_from (k + 1) (e - (k + 1))
up_split k e h =
    let n : e - k ≡ suc (e - (k + 1)) = omega arith in
    ap (up_from k) n ∙ ap (λ j. k ∷ up_from j (e - (k + 1))) (sym (add-one k))

pub up_length : (k n : ℕ) → length (up_from k n) ≡ n
up_length k zero = refl
up_length k (suc n) = ap suc (up_length (suc k) n)

pub up_more : (k n : ℕ) → up_from k n ++ ((k + n) ∷ []) ≡ up_from k (suc n)
up_more k zero = ap (λ (j : ℕ). j ∷ []) (omega arith)
up_more k (suc n) = ap (λ (l : List ℕ). k ∷ l) (ap (λ (j : ℕ). up_from (suc k) n ++ (j ∷ [])) (omega arith) ∙ up_more (suc k) n)

module _ {B : Type 0} (f : ℕ → Option B) (k e : ℕ) where
  pub scan_miss : k < e → f k ≡ None → first_some f (up_from k (e - k)) ≡ first_some f (up_from (k + 1) (e - (k + 1)))
  scan_miss h n = ap (first_some f) (up_split k e h) ∙ first_none f k (up_from (k + 1) (e - (k + 1))) n

  pub scan_hit : (b : B) → k < e → f k ≡ Some b → first_some f (up_from k (e - k)) ≡ Some b
  scan_hit b h q = ap (first_some f) (up_split k e h) ∙ first_some_lem f k (up_from (k + 1) (e - (k + 1))) b q

  pub scan_end : e ≤ k → first_some f (up_from k (e - k)) ≡ None
  unfolding first_some
  scan_end h = let z : e - k ≡ 0 = omega arith in ap (λ n. first_some f (up_from k n)) z
