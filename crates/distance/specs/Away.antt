-- A ready list, and a constant that it does not have. Assumes nothing.
use Rattle.std.specs.Prelude.{◌≡◌, false, List, ℕ, length}
use Rattle.meaning.specs.Basics.{has}
use Rattle.meaning.specs.Operation.{Odd}
use Rattle.search.specs.Marks.{OddsIn}

pub record Away (L : ℕ) (vals : List ℕ) (c : ℕ) : Type 0 where
  pub ready : OddsIn L vals (length vals)
  pub odd : Odd L c
  pub absent : has vals c ≡ false
