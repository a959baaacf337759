-- The bounds of document 01, each in its one place. Assumes nothing.
use Rattle.std.specs.Prelude.{Bool, List, [], ◌∷◌, ℕ, ◌+◌, leb}

-- n is in low..high, both ends included: as tests
abbrev pub between : ℕ → ℕ → ℕ → List Bool
between low high n = leb low n ∷ leb n high ∷ []

-- the bit limit b is 2 to 16
abbrev pub bit_tests : ℕ → List Bool
bit_tests b = between 2 16 b

-- left shifts run to L, and values lie below 2 ^ L, which document 01 calls G: the L of the bit limit b
abbrev pub limit : ℕ → ℕ
limit b = b + 1

-- no limit is above it: what the code is proved for
abbrev pub most_limit : ℕ
most_limit = 19

-- a list has 1 to 16 targets
abbrev pub most_targets : ℕ
most_targets = 16

-- a graph has 0 to 128 rows, and so at most 129 indices; a ready list has 1 to as many values
abbrev pub most_rows : ℕ
most_rows = 128

abbrev pub most_ready : ℕ
most_ready = most_rows + 1

-- the input width w is 2 to 32
abbrev pub width_tests : ℕ → List Bool
width_tests w = between 2 32 w
