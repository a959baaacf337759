-- The calls, one relation each: what a call answers, r, and what its lent slice holds after it and held before. A function's contract is its call's
-- relation, and what is promised in `tender` is promised of the same relations. Assumes nothing.
use Rattle.std.specs.Prelude.{◌≡◌, List, ℕ, ℤ, length, Option, Result}
use Rattle.meaning.specs.declared.Far.{Far}
use Rattle.meaning.specs.declared.Made.{Made}
use Rattle.meaning.specs.declared.Refusal.{Refusal}
use Rattle.meaning.specs.Operation.{operated_under}
use Rattle.meaning.specs.Refusals.{Answer, Done, apart_told, apart_written, canonic_told, canonic_written, admitted, checked, sized, multiplied, products_written, measured, widths_written, ranked, ranking_written, drawn_told, rows_written, distance_told}
use Rattle.meaning.specs.Listing.{printed_told, text_written}

-- ---- calls that lend nothing to be written

-- is the list ts admitted under the bit limit b
abbrev pub Admits : ℕ → List ℤ → Answer → Type 0
Admits b ts r = r ≡ admitted b ts

-- is the graph of n rows in the words w accepted for it
abbrev pub Checks : ℕ → List ℤ → ℕ → List ℕ → Answer → Type 0
Checks b ts n w r = r ≡ checked b ts n w

-- and the input width
abbrev pub ChecksWidth : ℕ → List ℤ → ℕ → List ℕ → ℕ → Answer → Type 0
ChecksWidth b ts n w input r = r ≡ sized b ts n w input

-- how far c is from the values
abbrev pub Distances : ℕ → List ℕ → ℕ → Result Far Refusal → Type 0
Distances b vals c r = r ≡ distance_told b vals c

-- what an operation makes
abbrev pub Operates : (b u v l1 l2 s : ℕ) → Option Made → Type 0
Operates b u v l1 l2 s r = r ≡ operated_under b u v l1 l2 s

-- ---- calls that write

-- a constant's sign, shift and odd part
abbrev pub TakesApart : ℤ → Answer → List ℤ → List ℤ → Type 0
TakesApart t r before after = Done (apart_told (length before)) (apart_written t (length before)) r before after

-- the places of its canonic form that hold 1, and those that hold -1
abbrev pub WritesForm : ℤ → Result ℕ Refusal → List ℕ → List ℕ → Type 0
WritesForm t r before after = Done (canonic_told t (length before)) (canonic_written t (length before)) r before after

-- the rows of a graph
abbrev pub Generates : ℕ → List ℤ → Result ℕ Refusal → List ℕ → List ℕ → Type 0
Generates b ts r before after = Done (drawn_told b ts (length before)) (rows_written b ts (length before)) r before after

-- each target times x, through a graph
abbrev pub Multiplies : ℕ → List ℤ → ℕ → List ℕ → ℤ → Answer → List ℤ → List ℤ → Type 0
Multiplies b ts n w x r before after = Done (multiplied b ts n w (length before)) (products_written b ts n w x (length before)) r before after

-- the widths of the rows, then of the outputs
abbrev pub Measures : ℕ → List ℤ → ℕ → List ℕ → ℕ → Answer → List ℕ → List ℕ → Type 0
Measures b ts n w input r before after = Done (measured b ts n w input (length before)) (widths_written b ts n w input (length before)) r before after

-- the numbers of the rows, widest first
abbrev pub Ranks : ℕ → List ℤ → ℕ → List ℕ → ℕ → Answer → List ℕ → List ℕ → Type 0
Ranks b ts n w input r before after = Done (ranked b ts n w input (length before)) (ranking_written b ts n w input (length before)) r before after

-- the listing of a job's text s, or the line of its refusal
abbrev pub Prints : List ℕ → Result ℕ Refusal → List ℕ → List ℕ → Type 0
Prints s r before after = Done (printed_told s (length before)) (text_written s (length before)) r before after
