-- The least value so far, lowered as more values are looked at. Assumes nothing.
use Rattle.std.specs.Prelude.{◌≡◌, Bool, List, ℕ, ◌%◌, ◌≤◌, ◌<◌, T}
use Rattle.search.specs.Marks.{marked}

-- the odd number s is not below low, is marked, and passes the test
pub record Seen (map : List ℕ) (low : ℕ) (Q : ℕ → Bool) (s : ℕ) : Type 0 where
  pub odd : s % 2 ≡ 1
  pub from : low ≤ s
  pub has : T (marked map s)
  pub test : T (Q s)

-- new is the least number that is seen, if one is below old; otherwise it is old
pub record Lowers (map : List ℕ) (low : ℕ) (Q : ℕ → Bool) (old new : ℕ) : Type 0 where
  pub least : new ≤ old
  pub found : new < old → Seen map low Q new
  pub none_below : (s : ℕ) → s < new → Seen map low Q s → ⊥
