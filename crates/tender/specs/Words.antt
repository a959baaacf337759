-- The buyer's words, as the conditions use them: constants, graphs, distance, bits, orders, lent slices. Assumes nothing.
use Rattle.std.specs.Prelude.{◌≡◌, cond, ◌⊎◌, ℕ, zero, suc, ◌+◌, ◌-◌, ◌*◌, ◌%◌, ◌^◌, ◌≤◌, ◌<◌, ltb, ℤ, pos, negsuc, neg_ℤ, nat_abs, ◌+ℤ◌, ◌-ℤ◌, ◌*ℤ◌, length, get_or, drop, Result, Err}
use mathlib.Core.List.{List, [], ◌∷◌, ◌++◌, map, Memᴰ}
use Rattle.meaning.specs.declared.Row.{Row}
use Rattle.meaning.specs.Constants.{odd_of}
use Rattle.meaning.specs.declared.Refusal.{Refusal}
use Rattle.meaning.specs.Digits.{Digit, worth, canonic}

-- ---- constants

-- t = sign × 2^shift × odd; zero has sign 0, shift 0 and no odd part, for which 0 stands
pub record TakenApart (t sign : ℤ) (shift odd : ℕ) : Type 0 where
  pub product : t ≡ sign *ℤ pos (2 ^ shift * odd)
  pub parts :
      (((sign ≡ pos 1) ⊎ (sign ≡ negsuc 0)) × (odd % 2 ≡ 1))
      ⊎ ((sign ≡ pos 0) × (shift ≡ 0) × (odd ≡ 0))

-- c is one of the distinct odd parts greater than one
pub record WantedPart (ts : List ℤ) (c : ℕ) : Type 0 where
  pub target : ℤ
  pub listed : Memᴰ target ts
  pub part : odd_of target ≡ c
  pub above : 1 < c

-- how many digits of a form are nonzero: -1 or 1
abbrev pub nonzero_digits : List Digit → ℕ
nonzero_digits [] = 0
nonzero_digits (d ∷ ds) = nat_abs (worth d) + nonzero_digits ds

-- the sum, over constants, of the nonzero digits in the canonic form less one each
abbrev pub digit_sum : List ℕ → ℕ
digit_sum [] = 0
digit_sum (c ∷ cs) = (nonzero_digits (canonic c) - 1) + digit_sum cs

-- ---- graphs

-- Voronenko and Püschel's A-operation (document 004, definition 2.1 with the constraints for odd values): c is |2^l1 u + (-1)^s 2^l2 v| / 2^r, with at
-- most one left shift and an odd result. Document 01 narrows it by the bit limit b: shifts are at most b + 1, and c is below 2^(b+1)
pub record AOperation (b u v l1 l2 s r c : ℕ) : Type 0 where
  pub shifts : (l1 ≤ b + 1) × (l2 ≤ b + 1)
  pub unshifted : (l1 ≡ 0) ⊎ (l2 ≡ 0)
  pub result :
      ((s ≡ 0) × (2 ^ l1 * u + 2 ^ l2 * v ≡ c * 2 ^ r))
      ⊎ ((s ≡ 1) × (nat_abs (pos (2 ^ l1 * u) -ℤ pos (2 ^ l2 * v)) ≡ c * 2 ^ r))
  pub odd : c % 2 ≡ 1
  pub below : c < 2 ^ (b + 1)

-- the row after i others in a slice: its seven words
abbrev pub row_in : List ℕ → ℕ → Row
row_in w i =
    record {
      u = get_or w (7 * i) 0;
      v = get_or w (7 * i + 1) 0;
      l1 = get_or w (7 * i + 2) 0;
      l2 = get_or w (7 * i + 3) 0;
      s = get_or w (7 * i + 4) 0;
      r = get_or w (7 * i + 5) 0;
      value = get_or w (7 * i + 6) 0;
    }

-- the values of some rows
abbrev pub values_of : List Row → List ℕ
values_of xs = map (λ x. x.value) xs

-- the value of an index: the input's, which has index 0, is 1
abbrev pub value_at : List Row → ℕ → ℕ
value_at xs index = get_or (1 ∷ values_of xs) index 0

-- a row, after the rows before it, is an A-operation on the values of two indices below its own
pub record ValidRow (b : ℕ) (before : List Row) (x : Row) : Type 0 where
  pub first : x.u ≤ length before
  pub second : x.v ≤ length before
  pub operation : AOperation b (value_at before x.u) (value_at before x.v) x.l1 x.l2 x.s x.r x.value

abbrev pub EveryRowValid : ℕ → List Row → Type 0
EveryRowValid b xs = (before behind : List Row) (x : Row) → xs ≡ before ++ (x ∷ behind) → ValidRow b before x

-- the input, of value 1, and the rows make every constant: its odd part is 1, or some row's value; zero has none
abbrev pub EveryConstantMade : List Row → List ℤ → Type 0
EveryConstantMade xs ts = (t : ℤ) → Memᴰ t ts → (odd_of t ≤ 1) ⊎ Memᴰ (odd_of t) (values_of xs)

-- n = 2^l1 u + (-1)^s 2^l2 v
abbrev pub whole_of : (u v l1 l2 s : ℕ) → ℤ
whole_of u v l1 l2 zero = pos (2 ^ l1 * u) +ℤ pos (2 ^ l2 * v)
whole_of u v l1 l2 (suc s) = pos (2 ^ l1 * u) -ℤ pos (2 ^ l2 * v)

-- 2^l1 p + (-1)^s 2^l2 q
abbrev pub joined : (p q : ℤ) (l1 l2 s : ℕ) → ℤ
joined p q l1 l2 zero = pos (2 ^ l1) *ℤ p +ℤ pos (2 ^ l2) *ℤ q
joined p q l1 l2 (suc s) = pos (2 ^ l1) *ℤ p -ℤ pos (2 ^ l2) *ℤ q

-- z, negated where n, of the values u and v, is negative
abbrev pub turned : (u v l1 l2 s : ℕ) → ℤ → ℤ
turned u v l1 l2 zero z = z
turned u v l1 l2 (suc s) z = cond (ltb (2 ^ l1 * u) (2 ^ l2 * v)) (neg_ℤ z) z

-- the products ps by index, the input's being x, as the rows' words say: the operands' products shifted left and joined, negated where n is negative, and
-- shifted right by r with nothing lost; and each is its row's value times x
pub record Worked (xs : List Row) (x : ℤ) (ps : List ℤ) : Type 0 where
  pub input : get_or ps 0 (pos 0) ≡ x
  pub row : (before behind : List Row) (y : Row) → xs ≡ before ++ (y ∷ behind)
      → pos (2 ^ y.r) *ℤ get_or ps (suc (length before)) (pos 0)
      ≡ turned (value_at before y.u) (value_at before y.v) y.l1 y.l2 y.s (joined (get_or ps y.u (pos 0)) (get_or ps y.v (pos 0)) y.l1 y.l2 y.s)
  pub value : (before behind : List Row) (y : Row) → xs ≡ before ++ (y ∷ behind) → get_or ps (suc (length before)) (pos 0) ≡ pos y.value *ℤ x

-- ---- distance

-- one bounded operation on two of the values, perhaps the same one twice, gives c
pub record ByOne (b : ℕ) (vals : List ℕ) (c : ℕ) : Type 0 where
  pub u : ℕ
  pub v : ℕ
  pub l1 : ℕ
  pub l2 : ℕ
  pub s : ℕ
  pub r : ℕ
  pub first : Memᴰ u vals
  pub second : Memᴰ v vals
  pub operation : AOperation b u v l1 l2 s r c

-- one operation gives some s, and with s added one operation gives c
pub record ByTwo (b : ℕ) (vals : List ℕ) (c : ℕ) : Type 0 where
  pub s : ℕ
  pub first : ByOne b vals s
  pub second : ByOne b (s ∷ vals) c

abbrev pub NotRefused : {A : Type 0} → Result A Refusal → Type 0
NotRefused r = (why : Refusal) → ¬ (r ≡ Err why)

-- ---- bits, two's complement

-- z fits k bits: -2^(k-1) ≤ z < 2^(k-1), where negsuc n is -(n + 1)
abbrev pub FitsBits : ℕ → ℤ → Type 0
FitsBits k (pos n) = n < 2 ^ (k - 1)
FitsBits k (negsuc n) = n < 2 ^ (k - 1)

-- k is the fewest bits for a result: they hold it for every input x of w bits, and with fewer some x of w bits does not fit
pub record FewestBits (w : ℕ) (result : ℤ → ℤ) (k : ℕ) : Type 0 where
  pub some : 1 ≤ k
  pub holds : (x : ℤ) → FitsBits w x → FitsBits k (result x)
  pub least : (j : ℕ) → 1 ≤ j → j < k → (x : ℤ) × FitsBits w x × ¬ (FitsBits j (result x))

-- ---- orders

-- each row of the order is wider than every one behind it, or as wide and of lower number
abbrev pub WidestFirst : (ℕ → ℕ) → List ℕ → Type 0
WidestFirst width [] = Unit {0}
WidestFirst width (i ∷ is) =
    ((j : ℕ) → Memᴰ j is → (width j < width i) ⊎ ((width i ≡ width j) × (i < j))) × WidestFirst width is

-- each is below all that follow it, so that it is there once
abbrev pub Ascends : List ℕ → Type 0
Ascends [] = Unit {0}
Ascends (c ∷ cs) = ((d : ℕ) → Memᴰ d cs → c < d) × Ascends cs

-- ---- lent slices

-- new is written from the front, and the rest keeps its contents
abbrev pub Written : {A : Type 0} → List A → List A → List A → Type 0
Written new before after = after ≡ new ++ drop (length new) before
