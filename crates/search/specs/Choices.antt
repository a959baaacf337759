-- Step B's choice: the smallest s that serves the constant, and the number of candidates tried. Assumes nothing.
use Rattle.std.specs.Prelude.{Bool, List, ℕ, ◌+◌, min, length, take, find}
use Rattle.std.specs.List.{position_or_len}
use Rattle.meaning.specs.Distance.{does_serve, candidates}
use Rattle.search.specs.declared.serving.Trials.{Trials}

-- how many members are looked at until one passes
abbrev pub used : (ℕ → Bool) → List ℕ → ℕ
used t xs = min (position_or_len t xs + 1) (length xs)

-- the smallest s that serves c, within k trials
unfoldable pub chosen_in : ℕ → List ℕ → ℕ → ℕ → Trials
chosen_in L vals c k =
    let serves : ℕ → Bool = does_serve L vals c in
    let tries : List ℕ = take k (candidates L) in
    record { value = find serves tries; tried = used serves tries }
