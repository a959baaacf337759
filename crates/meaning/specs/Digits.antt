-- The canonic signed-digit form, its prefixes, condition 3's sum, and a form as two words. Assumes nothing.
use Rattle.std.specs.Prelude.{◌≡◌, cond, List, [], ◌∷◌, reverse, map, ℕ, zero, suc, ◌+◌, ◌-◌, ◌*◌, ◌/◌, ◌%◌, ◌^◌, ◌≤◌, eqb, ℤ, pos, negsuc, ◌+ℤ◌, ◌*ℤ◌, drop}
use Rattle.meaning.specs.declared.Prefix.{Prefix}
use Rattle.meaning.specs.Basics.{sum_of}

-- the digits -1, 0 and 1; a form is a list of them, lowest place first
pub data Digit : Type 0 where
  minus none plus : Digit

abbrev pub worth : Digit → ℤ
worth minus = negsuc 0
worth none = pos 0
worth plus = pos 1

-- what a form denotes: the sum of digit × 2 ^ place
unfoldable pub denoted : List Digit → ℤ
denoted [] = pos 0
denoted (d ∷ ds) = worth d +ℤ pos 2 *ℤ denoted ds

abbrev pub is_nonzero : Digit → ℕ
is_nonzero minus = 1
is_nonzero none = 0
is_nonzero plus = 1

unfoldable pub nonzeros : List Digit → ℕ
nonzeros [] = 0
nonzeros (d ∷ ds) = is_nonzero d + nonzeros ds

-- no two adjacent digits are nonzero
unfoldable pub Sparse : List Digit → Type 0
Sparse [] = Unit {0}
Sparse (d ∷ []) = Unit {0}
Sparse (d ∷ e ∷ ds) = (is_nonzero d + is_nonzero e ≤ 1) × Sparse (e ∷ ds)

-- the highest digit is nonzero: no zeros are written above it
unfoldable pub Ended : List Digit → Type 0
Ended [] = Unit {0}
Ended (d ∷ []) = is_nonzero d ≡ 1
Ended (d ∷ e ∷ ds) = Ended (e ∷ ds)

-- the canonic form of n, as a statement
pub record Canonic (n : ℕ) (ds : List Digit) : Type 0 where
  pub denotes : denoted ds ≡ pos n
  pub sparse : Sparse ds
  pub ended : Ended ds

-- the same, worked out digit by digit. The lowest digit of n: 0 for an even n, else the one that leaves a multiple of 4
abbrev pub lowest : ℕ → Digit
lowest n = cond (eqb (n % 2) 0) none (cond (eqb (n % 4) 1) plus minus)

-- what is left of n above its lowest digit: (n - digit) / 2
abbrev pub above : ℕ → ℕ
above n = cond (eqb (n % 4) 3) (n / 2 + 1) (n / 2)

-- at most k digits of n
unfoldable pub digits_in : ℕ → ℕ → List Digit
digits_in zero n = []
digits_in (suc k) zero = []
digits_in (suc k) (suc n) = lowest (suc n) ∷ digits_in k (above (suc n))

-- the canonic form: n has at most n digits
unfoldable pub canonic : ℕ → List Digit
canonic n = digits_in n n

-- a constant's nonzero digits less one, and condition 3's sum of that over the wanted constants
abbrev pub cost : ℕ → ℕ
cost c = nonzeros (canonic c) - 1

abbrev pub csd_sum : List ℕ → ℕ
csd_sum cs = sum_of cost cs

-- the prefixes that end at a nonzero digit, each from the one before it: those longer than the one of value p, which ends g places above the next digit; digits from the top
unfoldable pub prefixes_from : ℕ → ℕ → List Digit → List Prefix
prefixes_from p g [] = []
prefixes_from p g (none ∷ ds) = prefixes_from p (g + 1) ds
prefixes_from p g (plus ∷ ds) =
    record { before = p; gap = g; s = 0; value = 2 ^ g * p + 1 } ∷ prefixes_from (2 ^ g * p + 1) 1 ds
prefixes_from p g (minus ∷ ds) =
    record { before = p; gap = g; s = 1; value = 2 ^ g * p - 1 } ∷ prefixes_from (2 ^ g * p - 1) 1 ds

-- shortest first; the highest digit alone is the prefix 1, which is always ready
unfoldable pub prefixes : ℕ → List Prefix
prefixes n = prefixes_from 1 1 (drop 1 (reverse (canonic n)))

-- ---- the form of a signed constant, and a form as two words

-- a digit with its sign changed
abbrev pub opposite : Digit → Digit
opposite minus = plus
opposite none = none
opposite plus = minus

-- the canonic form of a constant; of a negative one, the digits of its magnitude with their signs changed
unfoldable pub form_of : ℤ → List Digit
form_of (pos n) = canonic n
form_of (negsuc n) = map opposite (canonic (suc n))

abbrev pub is_plus : Digit → ℕ
is_plus minus = 0
is_plus none = 0
is_plus plus = 1

abbrev pub is_minus : Digit → ℕ
is_minus minus = 1
is_minus none = 0
is_minus plus = 0

-- the sum of 2 ^ place over the places whose digit counts
unfoldable pub places : (Digit → ℕ) → List Digit → ℕ
places counts [] = 0
places counts (d ∷ ds) = counts d + 2 * places counts ds

-- over the places that hold 1, and over those that hold -1
abbrev pub plus_places : List Digit → ℕ
plus_places ds = places is_plus ds

abbrev pub minus_places : List Digit → ℕ
minus_places ds = places is_minus ds

-- the two words of a form
abbrev pub form_words : List Digit → List ℕ
form_words ds = plus_places ds ∷ minus_places ds ∷ []
