-- The generator's rule, as document 01 tells it: while wanted constants remain, step A, else B, else C. Assumes nothing.
use Rattle.std.specs.Prelude.{◌≡◌, ◌⊎◌, ℕ, suc, ◌*◌, ◌^◌, ◌≤◌, ◌<◌, ℤ, pos, ◌+ℤ◌, drop}
use mathlib.Core.List.{List, [], ◌∷◌, ◌++◌, reverse, Memᴰ}
use Rattle.meaning.specs.declared.Row.{Row}
use Rattle.meaning.specs.Digits.{Digit, minus, none, plus, worth, canonic}
use Rattle.tender.specs.Words.{WantedPart, values_of, value_at, ValidRow, ByOne, ByTwo}

-- the ready set: 1, and one value more at each row
abbrev pub ready_after : List Row → List ℕ
ready_after before = 1 ∷ values_of before

-- c is wanted and not ready
pub record Remains (ts : List ℤ) (before : List Row) (c : ℕ) : Type 0 where
  pub wanted : WantedPart ts c
  pub missing : ¬ Memᴰ c (ready_after before)

-- ---- rows of A and B

-- the order u index, v index, l1, l2, s, each ascending
abbrev pub Sooner : Row → Row → Type 0
Sooner y x =
    (y.u < x.u)
    ⊎ ((y.u ≡ x.u) × ((y.v < x.v)
    ⊎ ((y.v ≡ x.v) × ((y.l1 < x.l1)
    ⊎ ((y.l1 ≡ x.l1) × ((y.l2 < x.l2)
    ⊎ ((y.l2 ≡ x.l2) × (y.s < x.s))))))))

-- the first valid choice for its value in that order, with u index at most v index
pub record FirstChoice (b : ℕ) (before : List Row) (x : Row) : Type 0 where
  pub valid : ValidRow b before x
  pub ordered : x.u ≤ x.v
  pub first : (y : Row) → y.value ≡ x.value → ValidRow b before y → y.u ≤ y.v → ¬ (Sooner y x)

-- A: if any is at distance 1, the smallest such, and its row
pub record StepA (b : ℕ) (ts : List ℤ) (before new : List Row) : Type 0 where
  pub row : Row
  pub remains : Remains ts before row.value
  pub smallest : (c : ℕ) → Remains ts before c → ByOne b (ready_after before) c → row.value ≤ c
  pub choice : FirstChoice b before row
  pub adds : new ≡ row ∷ []

-- B: else if any is at distance 2, the smallest such and the smallest s that serves; the row of s, then the row of the constant
pub record StepB (b : ℕ) (ts : List ℤ) (before new : List Row) : Type 0 where
  pub first : Row
  pub second : Row
  pub remains : Remains ts before second.value
  pub none_at_1 : (c : ℕ) → Remains ts before c → ¬ (ByOne b (ready_after before) c)
  pub smallest : (c : ℕ) → Remains ts before c → ByTwo b (ready_after before) c → second.value ≤ c
  pub smallest_s : (s : ℕ) → ByOne b (ready_after before) s → ByOne b (s ∷ ready_after before) second.value → first.value ≤ s
  pub first_choice : FirstChoice b before first
  pub second_choice : FirstChoice b (before ++ (first ∷ [])) second
  pub adds : new ≡ first ∷ second ∷ []

-- ---- rows of C

-- a row from the prefix of value p, which ends g places higher, to the next digit d: u is the lowest index of p, v = 0, l1 the gap, l2 = 0, s = 0 for
-- digit 1 and 1 for digit -1
pub record FromPrefix (before : List Row) (p g : ℕ) (d : Digit) (x : Row) : Type 0 where
  pub from : value_at before x.u ≡ p
  pub lowest : (i : ℕ) → i < x.u → ¬ (value_at before i ≡ p)
  pub input : x.v ≡ 0
  pub gap : x.l1 ≡ g
  pub unshifted : x.l2 ≡ 0
  pub sign : ((d ≡ plus) × (x.s ≡ 0)) ⊎ ((d ≡ minus) × (x.s ≡ 1))
  pub whole : x.r ≡ 0
  pub value : pos x.value ≡ pos (2 ^ g * p) +ℤ worth d

-- the rows that the digits of a form bring, from the top, below a prefix of value p that ends g places above the next digit: each prefix that ends at a
-- nonzero digit is a value, and each that is not yet ready gets a row from the prefix before it
pub data PrefixRows : (before : List Row) (p g : ℕ) → List Digit → List Row → Type 0 where
  ended : {before : List Row} {p g : ℕ} → PrefixRows before p g [] []
  zero_digit : {before new : List Row} {p g : ℕ} {ds : List Digit} → PrefixRows before p (suc g) ds new → PrefixRows before p g (none ∷ ds) new
  ready : {before new : List Row} {p g q : ℕ} {d : Digit} {ds : List Digit} → ¬ (d ≡ none) → pos q ≡ pos (2 ^ g * p) +ℤ worth d
      → Memᴰ q (ready_after before) → PrefixRows before q 1 ds new → PrefixRows before p g (d ∷ ds) new
  gets_row : {before new : List Row} {p g : ℕ} {d : Digit} {ds : List Digit} {x : Row} → FromPrefix before p g d x
      → ¬ Memᴰ x.value (ready_after before) → PrefixRows (before ++ (x ∷ [])) x.value 1 ds new → PrefixRows before p g (d ∷ ds) (x ∷ new)

-- C: else the smallest, by its canonic form, whose highest digit alone is the prefix 1
pub record StepC (b : ℕ) (ts : List ℤ) (before new : List Row) : Type 0 where
  pub constant : ℕ
  pub remains : Remains ts before constant
  pub none_at_1 : (c : ℕ) → Remains ts before c → ¬ (ByOne b (ready_after before) c)
  pub none_at_2 : (c : ℕ) → Remains ts before c → ¬ (ByTwo b (ready_after before) c)
  pub smallest : (c : ℕ) → Remains ts before c → constant ≤ c
  pub adds : PrefixRows before 1 1 (drop 1 (reverse (canonic constant))) new

-- ---- the rule: from the rows before, these rows are added until nothing remains

pub data Follows (b : ℕ) (ts : List ℤ) : (before added : List Row) → Type 0 where
  ends : {before : List Row} → ((c : ℕ) → ¬ (Remains ts before c)) → Follows b ts before []
  goes_on : {before new more : List Row} → StepA b ts before new ⊎ (StepB b ts before new ⊎ StepC b ts before new) → Follows b ts (before ++ new) more
      → Follows b ts before (new ++ more)
