-- A list as plain data: its values in the first of some places, and blanks behind them. Assumes nothing.
use Rattle.std.specs.Prelude.{ℕ, ◌-◌, List, ◌++◌, length, replicate}
use Rattle.few.specs.declared.Few.{Few}

abbrev pub in_places : {T : Type 0} → T → (room : ℕ) → List T → Few T room
in_places blank room xs = record { values = xs ++ replicate (room - length xs) blank; count = length xs }
