-- What the code finds of a target is what the definition says, and fits signed words. Assumes nothing.
use mathlib.Core.Path.{◌≡◌, refl, sym, ap, ◌∙◌}
use Prim.Native.Nat.{ℕ, zero, suc, ◌/◌, ◌^◌, ◌≤◌, ◌<◌}
use native.Mathlib.Nat.{div-le_self}
use native.Mathlib.Omega.{arith}
use lib.Count.{count_trailing_zeros}
use lib.IntN.{ℤ, pos, negsuc, nat_abs}
use Rattle.std.specs.Int.{int_signum}
use mir.Syntax.{w32}
use mir.Val.{SFits, to_z, of_z}
use mir.ValLaws.{to_z-of_z}
use Rattle.meaning.specs.declared.Parts.{Parts}
use Rattle.meaning.specs.Basics.{zeros_in, zeros}
use Rattle.meaning.specs.Constants.{apart}
use Rattle.laws.proofs.Whole.Zeros.{machine_is, zeros_low, zeros_left}

-- the parts as code finds them from a sign and the magnitude m
abbrev pub found : ℤ → ℕ → Parts
found s m = record { sign = s; shift = count_trailing_zeros 32 m; odd = m / 2 ^ count_trailing_zeros 32 m }

found_is : (s : ℤ) (m : ℕ) → 0 < m → m < 2 ^ 32 → found s m ≡ record { sign = s; shift = zeros m; odd = m / 2 ^ zeros m }
found_is s m p h = rw (machine_is 32 m p h)

pub at_zero : (t : ℤ) → nat_abs t ≡ 0 → record { sign = pos 0; shift = 0; odd = 0 } ≡ apart t
unfolding apart zeros zeros_in
at_zero (pos zero) e = refl
at_zero (pos (suc n)) e = absurd (no n e)
  where
    no : (n : ℕ) → suc n ≡ 0 → ⊥
    no n e = omega arith
at_zero (negsuc n) e = absurd (no n e)
  where
    no : (n : ℕ) → suc n ≡ 0 → ⊥
    no n e = omega arith

-- the same of a magnitude that was found, of t as its bits say it
pub zero_apart : (t : ℤ) (m : ℕ) → SFits w32 t → m ≡ nat_abs (to_z w32 (of_z w32 t)) → m ≡ 0 → record { sign = pos 0; shift = 0; odd = 0 } ≡ apart t
zero_apart t m h e z = at_zero t (sym (rw (to_z-of_z w32 t h) at e) ∙ z)

-- what code finds of the magnitude and the sign, of t as its bits say it
pub taken_apart : (t s : ℤ) (m : ℕ) → SFits w32 t → m ≡ nat_abs (to_z w32 (of_z w32 t)) → m < 2 ^ 32 → (m ≡ 0 → ⊥)
    → s ≡ to_z w32 (of_z w32 (int_signum (to_z w32 (of_z w32 t)))) → found s m ≡ apart t
unfolding apart
taken_apart t s m h e l z f = go t (rw (to_z-of_z w32 t h) at e) (rw (to_z-of_z w32 t h) at f)
  where
    go : (t : ℤ) → m ≡ nat_abs t → s ≡ to_z w32 (of_z w32 (int_signum t)) → found s m ≡ apart t
    go (pos zero) e f = absurd (z e)
    go (pos (suc n)) e f =
        let w : SFits w32 (pos 1) = omega arith in
        let g : int_signum (pos (suc n)) ≡ pos 1 = ap pos (omega arith) in
        let k : s ≡ pos 1 = f ∙ ap (λ z. to_z w32 (of_z w32 z)) g ∙ to_z-of_z w32 _ w in
        rw (k, e) (found_is (pos 1) (suc n) (omega arith) (omega arith))
    go (negsuc n) e f =
        let w : SFits w32 (negsuc 0) = omega arith in
        rw (f, to_z-of_z w32 _ w, e) (found_is (negsuc 0) (suc n) (omega arith) (omega arith))

-- ---- the three words

-- the odd part of -2147483648 is 1
pub record PartsFit (p : Parts) : Type 0 where
  pub sign : SFits w32 p.sign
  pub shift : p.shift < 32
  pub odd : p.odd < 2 ^ 31

low_parts : (m : ℕ) → 0 < m → m ≤ 2 ^ 31 → (zeros m < 32) × (m / 2 ^ zeros m < 2 ^ 31)
low_parts m p h = (zeros_low 32 m p (omega arith), omega (arith, zeros_left m p, div-le_self m (2 ^ zeros m)))

pub parts_fit : (t : ℤ) → SFits w32 t → PartsFit (apart t)
unfolding apart zeros zeros_in
parts_fit (pos zero) h = record { sign = omega arith; shift = omega arith; odd = omega arith }
parts_fit (pos (suc n)) h = let l = low_parts (suc n) (omega arith) (omega arith) in record { sign = omega arith; shift = l.0; odd = l.1 }
parts_fit (negsuc n) h = let l = low_parts (suc n) (omega arith) (omega arith) in record { sign = omega arith; shift = l.0; odd = l.1 }
