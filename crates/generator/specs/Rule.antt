-- What one turn of the generator's rule needs and finds. Assumes nothing.
use Rattle.std.specs.Prelude.{◌≡◌, false, Option, Some, None, option_to_list, ℕ, ◌*◌, ◌≤◌, length}
use mathlib.Core.List.{List, [], ◌++◌, Memᴰ}
use Rattle.meaning.specs.declared.Row.{Row}
use Rattle.meaning.specs.Limits.{most_rows}
use Rattle.meaning.specs.Graph.{row_length}
use Rattle.meaning.specs.Distance.{does_reach}
use Rattle.meaning.specs.Generator.{row_for, rule_b, added, turns}
use Rattle.search.specs.Held.{listed}
use Rattle.meaning.specs.Operation.{Odd}
use Rattle.search.specs.Marks.{long_limit, State}
use Rattle.generator.specs.Growth.{Servable, drawn_rows, Open}
use Rattle.generator.specs.declared.draft.Draft.{Draft}
use Rattle.generator.specs.declared.rule.Chosen.{Chosen}

abbrev pub AllServable : ℕ → List ℕ → Type 0
AllServable L cs = (c : ℕ) → Memᴰ c cs → Servable L c

-- s and then c have rows, and these are what step B adds
pub record Serves (L : ℕ) (before : List Row) (cs : List ℕ) (c s : ℕ) : Type 0 where
  pub is_in : Memᴰ c cs
  pub odd : Odd L s
  pub first : length (option_to_list (row_for L before s)) ≡ 1
  pub second : length (option_to_list (row_for L (before ++ option_to_list (row_for L before s)) c)) ≡ 1
  pub rows : rule_b L before cs ≡ Some (option_to_list (row_for L before s) ++ option_to_list (row_for L (before ++ option_to_list (row_for L before s)) c))

-- the first constant that some value serves, and the smallest such value, or that there is none
abbrev pub Picked : ℕ → List Row → List ℕ → Option Chosen → Type 0
Picked L before cs (Some x) = Serves L before cs x.c x.s
Picked L before cs None = rule_b L before cs ≡ None

-- none of the constants is reached by one operation
abbrev pub NoneNear : ℕ → List ℕ → List ℕ → Type 0
NoneNear L vals cs = (c : ℕ) → Memᴰ c cs → does_reach L vals c ≡ false

-- step B may be asked: the map is that of the set, and no constant is near
pub record Pickable (d : Draft) (cs : List ℕ) : Type 0 where
  pub state : State d.limit d.map.now d.set.values d.set.count
  pub limit : d.limit ≤ long_limit
  pub servable : AllServable d.limit cs
  pub far : NoneNear d.limit (listed d.set) cs

-- a turn may begin: there is room for its rows, and its constants can be served
pub record Turning (d : Draft) (cs : List ℕ) : Type 0 where
  pub room : Open d (length (added d.limit (drawn_rows d) cs))
  pub limit : d.limit ≤ long_limit
  pub servable : AllServable d.limit cs

-- ---- all turns

-- the rows of as many turns as there are constants
abbrev pub turned : ℕ → List ℕ → List Row
turned L cs = (turns L (length cs) cs (record { rows = [] })).rows

-- the turns may begin: by a map of zeros, for constants that can be served, with room for a full graph
pub record Drawable (L : ℕ) (map out cs : List ℕ) : Type 0 where
  pub least : 1 ≤ L
  pub most : L ≤ long_limit
  pub state : State L map [] 0
  pub servable : AllServable L cs
  pub few : length (turned L cs) ≤ most_rows
  pub words : row_length * most_rows ≤ length out
