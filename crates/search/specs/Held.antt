-- The values that a ready set lists, the bound that it keeps, and what starting it and adding to it make. Assumes nothing.
use Rattle.std.specs.Prelude.{◌≡◌, cond, List, [], ◌∷◌, ◌++◌, ℕ, ◌+◌, ◌≤◌, ◌<◌, ltb, length, take, set, replicate}
use Rattle.meaning.specs.Limits.{most_ready}
use Rattle.search.specs.declared.ready.Ready.{Ready}

-- in the order of their indices
abbrev pub listed : Ready → List ℕ
listed r = take r.count r.values

-- every value counted has a place
pub record Fit (r : Ready) : Type 0 where
  pub places : length r.values ≡ most_ready
  pub bound : r.count ≤ most_ready

-- the set of the input's value alone
unfoldable pub started : Ready
started = record { values = set (replicate most_ready 0) 0 1; count = 1 }

-- v in the first free place; a full set unchanged
unfoldable pub grown : Ready → ℕ → Ready
grown r v = cond (ltb r.count most_ready) (record { values = set r.values r.count v; count = r.count + 1 }) r

pub record Started (r : Ready) : Type 0 where
  pub is : r ≡ started
  pub fit : Fit r
  pub one : r.count ≡ 1
  pub list : listed r ≡ 1 ∷ []

-- where there was room, the list is longer by v
pub record Added (old : Ready) (v : ℕ) (new : Ready) : Type 0 where
  pub is : new ≡ grown old v
  pub fit : Fit old → Fit new
  pub more : old.count < most_ready → new.count ≡ old.count + 1
  pub list : old.count < most_ready → listed new ≡ listed old ++ (v ∷ [])
