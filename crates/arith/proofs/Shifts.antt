-- A number of 32 bits shifted by at most 30: 62 bits hold it. Assumes nothing.
use mathlib.Core.Path.{◌≡◌, ◌∙◌}
use Prim.Native.Nat.{ℕ, ◌+◌, ◌*◌, ◌^◌, ◌%◌, ◌≤◌, ◌<◌}
use native.Mathlib.Nat.{mul_comm, lt_of_lt_of_le}
use native.Mathlib.Omega.{arith}
use lib.Pow.{shl_exact, shl_lt, pow_mono}

module _ (v l : ℕ) (h : v < 2 ^ 32) (g : l ≤ 30) where
  same : v * 2 ^ l % 2 ^ 64 ≡ v * 2 ^ l
  same = shl_exact 32 l 64 h (omega arith)

  pub shift_exact : v * 2 ^ l % 2 ^ 64 ≡ 2 ^ l * v
  shift_exact = same ∙ mul_comm v (2 ^ l)

  pub shift_low : v * 2 ^ l % 2 ^ 64 < 2 ^ 62
  shift_low = rw same (lt_of_lt_of_le (shl_lt 32 l h) (pow_mono {i = 32 + l} {j = 62} (omega arith)))
