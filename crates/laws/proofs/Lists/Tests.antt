-- What the tests over lists and ranges mean. Assumes nothing.
use mathlib.Core.Path.{◌≡◌, refl, subst, sym}
use mathlib.Core.Bool.{Bool, true, false, ◌&&◌, ◌||◌}
use mathlib.Core.List.Memᴰ
use mathlib.Core.List.{List, [], ◌∷◌, ◌++◌, Memᴰ}
use native.Mathlib.Decide.{ℕ_discrete}
use mathlib.Core.Logic.{◌⊎◌, inl, inr, ⊎_elim}
use Prim.Native.Nat.{ℕ, zero, suc, ◌+◌, ◌≤◌, ◌<◌}
use native.Mathlib.Omega.{arith}
use lib.Dec.{T, eqb, eqb_refl}
use Rattle.meaning.specs.Basics.{any, every, all, up_from}

pub both_of : (a b : Bool) → T (a && b) → T a × T b
both_of true b t = (tt, t)
both_of false b t = absurd t

pub of_both : (a b : Bool) → T a → T b → T (a && b)
of_both true b s t = t
of_both false b s t = absurd s

pub either_of : (a b : Bool) → T (a || b) → T a ⊎ T b
either_of true b t = inl tt
either_of false b t = inr t

pub of_left : (a b : Bool) → T a → T (a || b)
of_left true b t = tt
of_left false b t = absurd t

pub of_right : (a b : Bool) → T b → T (a || b)
of_right true b t = tt
of_right false b t = t

-- every test of a list passes, as a statement: a nest of pairs
abbrev pub All : List Bool → Type 0
All [] = Unit {0}
All (b ∷ bs) = T b × All bs

pub all_of : (bs : List Bool) → T (all bs) → All bs
all_of [] t = tt
all_of (b ∷ bs) t = let p = both_of b (all bs) t in (p.0, all_of bs p.1)

pub of_all : (bs : List Bool) → All bs → T (all bs)
of_all [] p = tt
of_all (b ∷ bs) p = of_both b (all bs) p.0 (of_all bs p.1)

pub T_of : {b : Bool} → b ≡ true → T b
T_of e = subst T (sym e) tt

pub true_of : (b : Bool) → T b → b ≡ true
true_of true t = refl
true_of false t = absurd t

pub false_of : (b : Bool) → (T b → ⊥) → b ≡ false
false_of true n = absurd (n tt)
false_of false n = refl

pub eqb_of_eq : (m n : ℕ) → m ≡ n → T (eqb m n)
eqb_of_eq m n e = subst (λ (k : ℕ). T (eqb m k)) e (eqb_refl m)

-- what a test over a list says of its members
pub any_in {ℓ} : {A : Type ℓ} (f : A → Bool) (xs : List A) → T (any f xs) → (a : A) × Memᴰ a xs × T (f a)
any_in f [] t = absurd t
any_in f (x ∷ xs) t =
    ⊎_elim
    (λ p. (x, Memᴰ.head refl, p))
    (λ p. let (a, i, q) = any_in f xs p in (a, Memᴰ.tail i, q))
    (either_of (f x) (any f xs) t)

pub in_any {ℓ} : {A : Type ℓ} (f : A → Bool) {a : A} {xs : List A} → Memᴰ a xs → T (f a) → T (any f xs)
in_any {A = A} f {a = a} {xs = []} m t = elim m [ ]
in_any f {xs = x ∷ xs} (Memᴰ.head e) t = of_left (f x) (any f xs) (subst (λ y. T (f y)) e t)
in_any f {xs = x ∷ xs} (Memᴰ.tail i) t = of_right (f x) (any f xs) (in_any f i t)

pub every_in {ℓ} : {A : Type ℓ} (f : A → Bool) {a : A} {xs : List A} → T (every f xs) → Memᴰ a xs → T (f a)
every_in {A = A} f {a = a} {xs = []} t m = elim m [ ]
every_in f {xs = x ∷ xs} t (Memᴰ.head e) = subst (λ y. T (f y)) (sym e) (both_of (f x) (every f xs) t).0
every_in f {xs = x ∷ xs} t (Memᴰ.tail i) = every_in f (both_of (f x) (every f xs) t).1 i

pub in_every {ℓ} : {A : Type ℓ} (f : A → Bool) (xs : List A) → ((a : A) → Memᴰ a xs → T (f a)) → T (every f xs)
in_every f [] h = tt
in_every f (x ∷ xs) h =
    of_both (f x) (every f xs) (h x (Memᴰ.head refl)) (in_every f xs (λ a i. h a (Memᴰ.tail i)))

-- the range k .. k + n - 1
pub in_up : (k n c : ℕ) → k ≤ c → c < k + n → Memᴰ c (up_from k n)
in_up k zero c h l = absurd (omega arith)
in_up k (suc n) c h l = go (ℕ_discrete c k) (λ g. in_up (suc k) n c g (omega arith))
  where
    go : Dec (c ≡ k) → (suc k ≤ c → Memᴰ c (up_from (suc k) n)) → Memᴰ c (k ∷ up_from (suc k) n)
    go (yes e) rest = Memᴰ.head e
    go (no f) rest = Memᴰ.tail (rest (omega arith))

pub up_in : (k n c : ℕ) → Memᴰ c (up_from k n) → (k ≤ c) × (c < k + n)
up_in k zero c i = absurd (Memᴰ.not-nil i)
up_in k (suc n) c i =
    ⊎_elim (λ e. omega arith) (λ j. let h = up_in (suc k) n c j in omega arith) (Memᴰ.cases_cons i)

-- two tests that say the same are equal
pub bool_ext : (a b : Bool) → (T a → T b) → (T b → T a) → a ≡ b
bool_ext true true f g = refl
bool_ext true false f g = absurd (f tt)
bool_ext false true f g = absurd (g tt)
bool_ext false false f g = refl

-- two tests as a list of tests
pub pair_all : (a b : Bool) → (a && b) ≡ all (a ∷ b ∷ [])
pair_all true true = refl
pair_all true false = refl
pair_all false b = refl

pub all_append : (xs ys : List Bool) → all (xs ++ ys) ≡ (all xs && all ys)
all_append [] ys = refl
all_append (true ∷ xs) ys = all_append xs ys
all_append (false ∷ xs) ys = refl

pub and_true : (a : Bool) → (a && true) ≡ a
and_true true = refl
and_true false = refl
