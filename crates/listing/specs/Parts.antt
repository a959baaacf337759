-- What the lines of a graph stand on. Assumes nothing.
use Rattle.std.specs.Prelude.{◌≡◌, List, ℕ, ◌*◌, ◌≤◌, ◌<◌, ℤ, length, get_or}
use Rattle.meaning.specs.declared.Head.{Head}
use Rattle.meaning.specs.Graph.{row_length, rows, values}
use Rattle.meaning.specs.Limits.{most_rows, most_targets}
use Rattle.meaning.specs.Listing.{row_order, graph_in, listing_of}

-- an order of n rows: each is one of the numbers 1 to n
pub record InRows (n : ℕ) (order : List ℕ) : Type 0 where
  pub low : (k : ℕ) → k < length order → 1 ≤ get_or order k 0
  pub high : (k : ℕ) → k < length order → get_or order k 0 ≤ n

-- as many values and targets as a graph can have
pub record InOuts (vals : List ℕ) (ts : List ℤ) : Type 0 where
  pub values : length vals ≤ most_rows
  pub targets : length ts ≤ most_targets

-- n rows in a slice, a list, and room for their listing
pub record Listable (h : Head) (ts : List ℤ) (n : ℕ) (w : List ℕ) (room : ℕ) : Type 0 where
  pub few : n ≤ most_rows
  pub within : row_length * n ≤ length w
  pub targets : length ts ≤ most_targets
  pub fits : length (listing_of (graph_in h ts n w)) ≤ room

-- n rows' values and their order in the listing, a list, and room for the listing
pub record Printable (h : Head) (ts : List ℤ) (n : ℕ) (w order vals : List ℕ) (room : ℕ) : Type 0 where
  pub order_is : order ≡ row_order h.by_width (values (rows n w))
  pub values_are : vals ≡ values (rows n w)
  pub targets : length ts ≤ most_targets
  pub fits : length (listing_of (graph_in h ts n w)) ≤ room
