-- What the code of a refusal is worked from fits a signed 64-bit number. Assumes nothing.
use mathlib.Core.Path.{◌≡◌, ap, ◌∙◌}
use Prim.Native.Nat.{ℕ, ◌+◌, ◌*◌, ◌^◌, ◌<◌}
use native.Mathlib.Omega.{arith}
use lib.IntN.{ℤ, pos, ◌-ℤ◌}
use mir.Syntax.{w64}
use mir.Val.{SFits}
use Rattle.laws.proofs.Whole.Integers.{abs_sub, abs_fits}
use Rattle.meaning.specs.declared.Refusal.{Refusal}
use Rattle.meaning.specs.Refusals.{number, place_of}
use Rattle.exports.specs.Codes.{minus, refusal_code}

-- 0 - k, as the code works it
pub minus_fits : (k : ℕ) → k < 2 ^ 63 → SFits w64 (pos 0 -ℤ pos k)
minus_fits k h = abs_fits (pos 0 -ℤ pos k) (omega (arith, abs_sub (pos 0) (pos k)))

pub refusal_told : (why : Refusal) (z : ℤ) (k : ℕ) → z ≡ minus k → k ≡ 1000 * number why + place_of why → z ≡ refusal_code why
unfolding refusal_code
refusal_told why z k e f = e ∙ ap minus f
