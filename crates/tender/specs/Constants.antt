-- What the two calls on one constant write. Assumes nothing.
use Rattle.std.specs.Prelude.{◌≡◌, List, [], ◌∷◌, ℕ, suc, ◌+◌, ◌/◌, ◌%◌, ◌^◌, ◌≤◌, ℤ, pos, nat_abs, ◌-ℤ◌, Ok}
use Rattle.meaning.specs.Refusals.{Accepted}
use Rattle.meaning.specs.Constants.{sign_of, shift_of, odd_of}
use Rattle.meaning.specs.Digits.{canonic}
use Rattle.meaning.specs.Calls.{TakesApart, WritesForm}
use Rattle.tender.specs.Words.{TakenApart, Written, nonzero_digits}

abbrev pub bit : ℕ → ℕ → ℕ
bit k word = word / 2 ^ k % 2

-- the words p and m are a canonic form of t: p holds the places of digit 1 and m those of digit -1, no two adjacent digits are nonzero, and n are nonzero
pub record FormOf (t : ℤ) (n p m : ℕ) : Type 0 where
  pub difference : pos p -ℤ pos m ≡ t
  pub sparse : (k : ℕ) → (bit k p + bit k m) + (bit (suc k) p + bit (suc k) m) ≤ 1
  pub count : n ≡ nonzero_digits (canonic (nat_abs t))

pub record Constants : Type 0 where
  pub apart : (t : ℤ) (before after : List ℤ) → TakesApart t Accepted before after
      → TakenApart t (sign_of t) (shift_of t) (odd_of t) × Written (sign_of t ∷ pos (shift_of t) ∷ pos (odd_of t) ∷ []) before after
  pub form : (t : ℤ) (n : ℕ) (before after : List ℕ) → WritesForm t (Ok n) before after
      → (p : ℕ) × (m : ℕ) × FormOf t n p m × Written (p ∷ m ∷ []) before after
