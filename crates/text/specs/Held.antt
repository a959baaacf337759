-- A line's numbers as the code holds them: those that there is room for. Assumes nothing.
use Rattle.std.specs.Prelude.{List, [], ◌++◌, ℕ, ℤ, pos, take, Option, Some, None}
use Rattle.arrayvec.specs.ArrayVec.{ArrayVec}
use Rattle.few.specs.declared.Few.{Few}
use Rattle.few.specs.Places.{in_places}
use Rattle.meaning.specs.Forms.{Line}

-- what a line says behind numbers that are held
abbrev pub behind : ℕ → List ℤ → Line (List ℤ) → Option (ArrayVec ℤ × ℕ)
behind room before None = None
behind room before (Some (zs, p)) = Some (record { items = take room (before ++ zs) }, p)

abbrev pub held : ℕ → Line (List ℤ) → Option (ArrayVec ℤ × ℕ)
held room l = behind room [] l

-- as they are handed back
abbrev pub handed : (room : ℕ) → Option (ArrayVec ℤ × ℕ) → Option (Few ℤ room × ℕ)
handed room None = None
handed room (Some (v, p)) = Some (in_places (pos 0) room v.items, p)
