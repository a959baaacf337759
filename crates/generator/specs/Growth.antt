-- A graph that grows row by row: its rows' words in front of a lent slice, its ready set, and the map of what one operation reaches. Assumes nothing.
use Rattle.std.specs.Prelude.{◌≡◌, cond, ℕ, ◌+◌, ◌-◌, ◌*◌, ◌≤◌, length}
use mathlib.Core.List.{List, [], ◌∷◌, ◌++◌, Memᴰ}
use Rattle.meaning.specs.Limits.{most_rows, most_ready}
use Rattle.meaning.specs.declared.Prefix.{Prefix}
use Rattle.meaning.specs.declared.Row.{Row}
use Rattle.meaning.specs.Basics.{has, over_at}
use Rattle.meaning.specs.Graph.{row_length, rows, flat, values, ready}
use Rattle.meaning.specs.Digits.{prefixes}
use Rattle.meaning.specs.Generator.{prefix_row}
use Rattle.search.specs.declared.ready.Ready.{Ready}
use Rattle.search.specs.Held.{listed, grown, Fit, Started}
use Rattle.meaning.specs.Operation.{Odd}
use Rattle.search.specs.Marks.{State}
use Rattle.generator.specs.declared.draft.Draft.{Draft}

-- the rows drawn: as many as the set counts values, but for the input's
abbrev pub drawn_rows : Draft → List Row
drawn_rows d = rows (d.set.count - 1) d.out.now

-- the input alone, in front of words that are as they were lent
pub record Begun (L : ℕ) (lent : List ℕ) (d : Draft) : Type 0 where
  pub started : Started d.set
  pub limit : d.limit ≡ L
  pub state : State L d.map.now d.set.values d.set.count
  pub words : d.out.now ≡ lent

-- the set lists the values of the rows drawn, the map holds what one operation on them reaches, and n rows more have room
pub record Open (d : Draft) (n : ℕ) : Type 0 where
  pub fit : Fit d.set
  pub some : 1 ≤ d.set.count
  pub same : listed d.set ≡ ready (drawn_rows d)
  pub state : State d.limit d.map.now d.set.values d.set.count
  pub space : d.set.count + n ≤ most_ready
  pub words : row_length * most_rows ≤ length d.out.now

-- values put into a set one after the other
unfoldable pub grown_by : Ready → List ℕ → Ready
grown_by set [] = set
grown_by set (v ∷ vs) = grown_by (grown set v) vs

-- the rows xs have been added: their values are in the set, their words stand behind those before, and nothing else is changed
pub record Grown (old : Draft) (xs : List Row) (new : Draft) : Type 0 where
  pub map : new.map.ghost_name ≡ old.map.ghost_name
  pub out : new.out.ghost_name ≡ old.out.ghost_name
  pub limit : new.limit ≡ old.limit
  pub is : new.set ≡ grown_by old.set (values xs)
  pub fit : Fit new.set
  pub state : State old.limit new.map.now new.set.values new.set.count
  pub count : new.set.count ≡ old.set.count + length xs
  pub lists : listed new.set ≡ listed old.set ++ values xs
  pub writes : new.out.now ≡ over_at (row_length * (old.set.count - 1)) (flat xs) old.out.now

-- step C's row of a prefix, if it is not ready
unfoldable pub prefix_rows : List Row → Prefix → List Row
prefix_rows before p = cond (has (ready before) p.value) [] (prefix_row before p ∷ [])

-- what step C can serve
pub record Servable (L c : ℕ) : Type 0 where
  pub odd : Odd L c
  pub steps : (p : Prefix) → Memᴰ p (prefixes c) → Odd L p.value
