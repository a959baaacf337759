-- The last prefix of a number, and none; a form as two words with its count. Assumes nothing.
use Rattle.std.specs.Prelude.{cond, List, ℕ, ◌+◌, ◌-◌, ◌/◌, ◌%◌, ◌^◌, eqb}
use Rattle.meaning.specs.declared.Prefix.{Prefix}
use Rattle.meaning.specs.Basics.{zeros}
use Rattle.meaning.specs.Digits.{Digit, nonzeros, plus_places, minus_places}
use Rattle.digits.specs.declared.Places.{Places}

-- a place that holds no prefix
abbrev pub nothing : Prefix
nothing = record { before = 0; gap = 0; s = 0; value = 0 }

-- an odd number less its lowest digit: the multiple of 4 next to it
abbrev pub near : ℕ → ℕ
near n = cond (eqb (n % 4) 3) (n + 1) (n - 1)

-- 1 where the lowest digit of an odd number is -1
abbrev pub end_sign : ℕ → ℕ
end_sign n = cond (eqb (n % 4) 3) 1 0

abbrev pub odd_part : ℕ → ℕ
odd_part n = n / 2 ^ zeros n

-- the last prefix of an odd number above 1
unfoldable pub last_prefix : ℕ → Prefix
last_prefix n = record { before = odd_part (near n); gap = zeros (near n); s = end_sign n; value = n }

unfoldable pub places_held : List Digit → Places
places_held ds = record { plus = plus_places ds; minus = minus_places ds; count = nonzeros ds }
