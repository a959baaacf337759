-- A graph: rows of words in a slice, and when they are valid. Assumes nothing.
use Rattle.std.specs.Prelude.{Bool, ◌&&◌, ◌||◌, cond, List, [], ◌∷◌, ◌++◌, map, ℕ, zero, suc, ◌+◌, ◌*◌, ◌<◌, ◌≤◌, ltb, leb, ℤ, length, get_or, drop}
use Rattle.meaning.specs.declared.Row.{Row}
use Rattle.meaning.specs.Basics.{has, index_from}
use Rattle.meaning.specs.Limits.{most_rows}
use Rattle.meaning.specs.Constants.{odd_of}
use Rattle.meaning.specs.Operation.{Valid, is_valid}

-- how many words a row has, and their order
abbrev pub row_length : ℕ
row_length = 7

abbrev pub words : Row → List ℕ
words x = x.u ∷ x.v ∷ x.l1 ∷ x.l2 ∷ x.s ∷ x.r ∷ x.value ∷ []

-- the row whose words begin at a place
abbrev pub row_at : List ℕ → ℕ → Row
row_at w k =
    record {
      u = get_or w k 0;
      v = get_or w (k + 1) 0;
      l1 = get_or w (k + 2) 0;
      l2 = get_or w (k + 3) 0;
      s = get_or w (k + 4) 0;
      r = get_or w (k + 5) 0;
      value = get_or w (k + 6) 0;
    }

-- the row after i rows
abbrev pub row_after : List ℕ → ℕ → Row
row_after w i = row_at w (row_length * i)

-- n rows are at most 128, and do not exceed the slice: as a statement, and as tests
abbrev pub RowsIn : ℕ → List ℕ → Type 0
RowsIn n w = (n ≤ most_rows) × (row_length * n ≤ length w)

abbrev pub row_tests : ℕ → List ℕ → List Bool
row_tests n w = leb n most_rows ∷ leb (row_length * n) (length w) ∷ []

-- the first n rows of a slice
unfoldable pub rows : ℕ → List ℕ → List Row
rows zero w = []
rows (suc n) w = row_at w 0 ∷ rows n (drop row_length w)

-- all the words of some rows, in order
unfoldable pub flat : List Row → List ℕ
flat [] = []
flat (x ∷ xs) = words x ++ flat xs

-- the values of some rows
abbrev pub values : List Row → List ℕ
values xs = map (λ x. x.value) xs

-- the values by index: the input's 1, and the rows'
abbrev pub ready : List Row → List ℕ
ready xs = 1 ∷ values xs

-- the value of an index, of the input or of one of some rows
abbrev pub value_at : List Row → ℕ → ℕ
value_at xs index = get_or (ready xs) index 0

-- a row's words agree with a valid operation on the values of indices below its own, which are those of the rows before it
pub record Fits (L : ℕ) (before : List Row) (x : Row) : Type 0 where
  pub first : x.u < length (ready before)
  pub second : x.v < length (ready before)
  pub operation : Valid L (value_at before x.u) (value_at before x.v) x.l1 x.l2 x.s x.r x.value

-- the same, as a test
unfoldable pub does_fit : ℕ → List Row → Row → Bool
does_fit L before x =
    ltb x.u (length (ready before))
    && (ltb x.v (length (ready before))
    && is_valid L (value_at before x.u) (value_at before x.v) x.l1 x.l2 x.s x.r x.value)

-- each row is valid after those before it
unfoldable pub Sound : ℕ → List Row → List Row → Type 0
Sound L before [] = Unit {0}
Sound L before (x ∷ xs) = Fits L before x × Sound L (before ++ (x ∷ [])) xs

-- a target needs no row, or its odd part is the value of some row; vals are the rows' values
unfoldable pub is_served : List ℕ → ℤ → Bool
is_served vals t = leb (odd_of t) 1 || has vals (odd_of t)

-- the index that an output of some odd part uses, the lowest that has it as value: the input's, which has 1, or that of the first row which has it. A zero
-- target, which has no odd part, uses the input too
unfoldable pub output_index : List ℕ → ℕ → ℕ
output_index vals odd = cond (leb odd 1) 0 (index_from 1 vals odd)
