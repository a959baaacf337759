-- A map of the odd numbers, a byte for each: that of 2k + 1 at k. Assumes nothing.
use Rattle.std.specs.Prelude.{◌≡◌, Bool, true, false, List, ℕ, ◌+◌, ◌*◌, ◌/◌, ◌^◌, ◌≤◌, ◌<◌, eqb, length, get_or, take}
use Rattle.meaning.specs.Limits.{most_limit}
use Rattle.meaning.specs.Operation.{Odd}
use Rattle.meaning.specs.Distance.{does_reach}

abbrev pub bit : Bool → ℕ
bit true = 1
bit false = 0

abbrev pub mark_of : Bool → ℕ → ℕ
mark_of true m = 1
mark_of false m = m

-- the map holds exactly the odd numbers that pass the test
pub record Holds (ms : List ℕ) (P : ℕ → Bool) : Type 0 where
  pub bits : (k : ℕ) → k < length ms → get_or ms k 0 ≡ bit (P (2 * k + 1))

-- the later map has those marked too that pass the test
pub record Adds (before after : List ℕ) (Q : ℕ → Bool) : Type 0 where
  pub long : length after ≡ length before
  pub marks : (k : ℕ) → k < length before → get_or after k 0 ≡ mark_of (Q (2 * k + 1)) (get_or before k 0)

-- the odd number c is marked
unfoldable pub marked : List ℕ → ℕ → Bool
marked ms c = eqb (get_or ms (c / 2) 0) 1

-- the map has a byte for each odd number below 2 ^ L
abbrev pub Wide : ℕ → List ℕ → Type 0
Wide L ms = (L ≤ most_limit) × (2 ^ L ≤ 2 * length ms)

-- the greatest limits for which maps of 4,096 and of 65,536 bytes are wide
abbrev pub short_limit : ℕ
short_limit = 13

abbrev pub long_limit : ℕ
long_limit = 17

-- the first n values are odd and below 2 ^ L
abbrev pub OddsIn : ℕ → List ℕ → ℕ → Type 0
OddsIn L vals n = (n ≤ length vals) × ((i : ℕ) → i < n → Odd L (get_or vals i 0))

-- the first n values are ready, and the map holds what one operation on them reaches
pub record State (L : ℕ) (map vals : List ℕ) (n : ℕ) : Type 0 where
  pub wide : Wide L map
  pub values : OddsIn L vals n
  pub reach : Holds map (λ c. does_reach L (take n vals) c)
