-- Condition 3: the generator's graphs, and the distance test. Assumes nothing.
use Rattle.std.specs.Prelude.{◌≡◌, ◌↔◌, ℕ, ◌*◌, ◌≤◌, ℤ, length, drop, Result, Ok}
use mathlib.Core.List.{List, [], ◌∷◌, Memᴰ}
use Rattle.meaning.specs.declared.Far.{Far}
use Rattle.meaning.specs.declared.Far.TheVariants as far
use Rattle.meaning.specs.declared.Refusal.{Refusal}
use Rattle.meaning.specs.Refusals.{Accepted}
use Rattle.meaning.specs.Constants.{wanted}
use Rattle.meaning.specs.Digits.{Digit, Canonic, canonic}
use Rattle.meaning.specs.Graph.{rows}
use Rattle.meaning.specs.Generator.{generated}
use Rattle.meaning.specs.Calls.{Admits, Checks, Distances, Generates}
use Rattle.tender.specs.Words.{WantedPart, nonzero_digits, digit_sum, ByOne, ByTwo, NotRefused, Ascends}
use Rattle.tender.specs.Rule.{Follows}

pub record Condition3 : Type 0 where
  -- every list that is not refused is answered, where there is room for 128 rows: refusal 8 never comes
  pub answered : (b : ℕ) (ts : List ℤ) (r : Result ℕ Refusal) (before after : List ℕ) → Generates b ts r before after → Admits b ts Accepted → 896 ≤ length before
      → (n : ℕ) × (r ≡ Ok n)
  -- the reported rows, as they stand in the lent slice, are a graph that condition 2 accepts; nothing else is written
  pub accepted : (b : ℕ) (ts : List ℤ) (n : ℕ) (before after : List ℕ) → Generates b ts (Ok n) before after → Checks b ts n after Accepted
  pub rows_are_generated : (b : ℕ) (ts : List ℤ) (n : ℕ) (before after : List ℕ) → Generates b ts (Ok n) before after → rows n after ≡ generated b ts
  -- and they are those of document 01's rule, step by step until nothing remains
  pub by_the_rule : (b : ℕ) (ts : List ℤ) (n : ℕ) (before after : List ℕ) → Generates b ts (Ok n) before after → Follows b ts [] (rows n after)
  pub kept : (b : ℕ) (ts : List ℤ) (n : ℕ) (before after : List ℕ) → Generates b ts (Ok n) before after
      → (length after ≡ length before) × (drop (7 * n) after ≡ drop (7 * n) before)
  -- they are never more than the sum over the distinct odd parts greater than one
  pub few_rows : (b : ℕ) (ts : List ℤ) (n : ℕ) (before after : List ℕ) → Generates b ts (Ok n) before after → n ≤ digit_sum (wanted ts)
  pub wanted_are : (ts : List ℤ) (c : ℕ) → Memᴰ c (wanted ts) ↔ WantedPart ts c
  pub wanted_once : (ts : List ℤ) → Ascends (wanted ts)
  pub canonic_is : (c : ℕ) → Canonic c (canonic c)
  pub canonic_only : (c : ℕ) (ds : List Digit) → Canonic c ds → ds ≡ canonic c
  -- with exactly one such odd part, of at most four nonzero digits, no accepted graph under the same bit limit has fewer rows
  pub fewest : (b : ℕ) (ts : List ℤ) (c n : ℕ) (before after : List ℕ) → Generates b ts (Ok n) before after → wanted ts ≡ c ∷ []
      → nonzero_digits (canonic c) ≤ 4 → (m : ℕ) (w : List ℕ) → Checks b ts m w Accepted → n ≤ m
  -- a constant is reported at 0, 1 or 2, or beyond, exactly if it is one of the values, or one or two bounded operations reach it from them
  pub zero : (b : ℕ) (vals : List ℕ) (c : ℕ) (r : Result Far Refusal) → Distances b vals c r → NotRefused r → (r ≡ Ok far.Zero) ↔ Memᴰ c vals
  pub one : (b : ℕ) (vals : List ℕ) (c : ℕ) (r : Result Far Refusal) → Distances b vals c r → NotRefused r → (r ≡ Ok far.One) ↔ ((¬ Memᴰ c vals) × ByOne b vals c)
  pub two : (b : ℕ) (vals : List ℕ) (c : ℕ) (r : Result Far Refusal) → Distances b vals c r → NotRefused r
      → (r ≡ Ok far.Two) ↔ ((¬ Memᴰ c vals) × (¬ ByOne b vals c) × ByTwo b vals c)
  pub beyond : (b : ℕ) (vals : List ℕ) (c : ℕ) (r : Result Far Refusal) → Distances b vals c r → NotRefused r
      → (r ≡ Ok far.Beyond) ↔ ((¬ Memᴰ c vals) × (¬ ByOne b vals c) × (¬ ByTwo b vals c))
  -- repeats in the list of values, and their order, change nothing
  pub same_values : (b : ℕ) (xs ys : List ℕ) (c : ℕ) (r q : Result Far Refusal) → Distances b xs c r → Distances b ys c q → NotRefused r → NotRefused q
      → ((a : ℕ) → Memᴰ a xs ↔ Memᴰ a ys) → r ≡ q
