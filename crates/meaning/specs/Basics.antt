-- What the other pages share: tests and searches over lists, and the count of trailing zero bits. Assumes nothing.
use Rattle.std.specs.Prelude.{◌≡◌, Bool, true, false, ◌&&◌, ◌||◌, cond, List, [], ◌∷◌, ◌++◌, Option, None, ℕ, zero, suc, ◌+◌, ◌-◌, ◌/◌, ◌%◌, eqb, length, take, drop}
use Rattle.std.specs.Option.{option_or}

-- a - b or b - a, whichever is not negative
abbrev pub difference : ℕ → ℕ → ℕ
difference a b = (a - b) + (b - a)

-- some member passes
abbrev pub any {ℓ} : {A : Type ℓ} → (A → Bool) → List A → Bool
any f [] = false
any f (x ∷ xs) = f x || any f xs

-- every member passes
abbrev pub every {ℓ} : {A : Type ℓ} → (A → Bool) → List A → Bool
every f [] = true
every f (x ∷ xs) = f x && every f xs

-- every test of a list passes
abbrev pub all : List Bool → Bool
all [] = true
all (b ∷ bs) = b && all bs

-- c is in the list
abbrev pub has : List ℕ → ℕ → Bool
has xs c = any (λ x. eqb x c) xs

-- the lowest index that has c, counted from k; 0 where none has
unfoldable pub index_from : ℕ → List ℕ → ℕ → ℕ
index_from k [] c = 0
index_from k (x ∷ xs) c = cond (eqb x c) k (index_from (suc k) xs c)

-- the numbers k, k + 1, .., n of them
abbrev pub up_from : ℕ → ℕ → List ℕ
up_from k zero = []
up_from k (suc n) = k ∷ up_from (suc k) n

-- the sum of f over a list
unfoldable pub sum_of : (ℕ → ℕ) → List ℕ → ℕ
sum_of f [] = 0
sum_of f (c ∷ cs) = f c + sum_of f cs

-- P holds of no member, each seen after those before it
unfoldable pub NoneOf : {A : Type 0} → (List A → A → Type 0) → List A → List A → Type 0
NoneOf P before [] = Unit {0}
NoneOf P before (x ∷ xs) = (¬ P before x) × NoneOf P (before ++ (x ∷ [])) xs

-- P holds of the member at place p, counted from 1, and of none before it
pub record First {A : Type 0} (P : List A → A → Type 0) (xs : List A) (p : ℕ) : Type 0 where
  pub before : List A
  pub there : A
  pub behind : List A
  pub split : xs ≡ before ++ (there ∷ behind)
  pub none_before : NoneOf P [] before
  pub holds : P before there
  pub place : p ≡ length before + 1

-- what the first member that gives something gives
unfoldable pub first_some {ℓ} : {A : Type ℓ} {B : Type 0} → (A → Option B) → List A → Option B
first_some f [] = None
first_some f (x ∷ xs) = option_or (f x) (first_some f xs)

-- a list written over the front of another: the rest keeps its contents
unfoldable pub over {ℓ} : {A : Type ℓ} → List A → List A → List A
over new old = new ++ drop (length new) old

-- the same from place n on
unfoldable pub over_at {ℓ} : {A : Type ℓ} → ℕ → List A → List A → List A
over_at n new old = take n old ++ over new (drop n old)

-- the trailing zero bits of n, counted in at most k halvings
unfoldable pub zeros_in : ℕ → ℕ → ℕ
zeros_in zero n = 0
zeros_in (suc k) n = elim (n % 2) [ zero ↦ suc (zeros_in k (n / 2)) | suc d ↦ 0 ]

-- the count of n's trailing zero bits, for which n halvings are enough; 0 for 0
unfoldable pub zeros : ℕ → ℕ
zeros n = zeros_in n n
