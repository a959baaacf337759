-- The code's steps are the definition's: what n comes to, and the operation by its shifts and then its n. Assumes nothing.
use mathlib.Core.Path.{◌≡◌, refl, sym, ap, ◌∙◌}
use mathlib.Core.Bool.{Bool, true, false, ◌&&◌, cond}
use mathlib.Core.List.{List, [], ◌∷◌}
use Prim.Native.Nat.{ℕ, zero, suc, ◌*◌, ◌/◌, ◌^◌, ◌≤◌, ◌<◌, min}
use native.Mathlib.Omega.{arith}
use lib.Dec.{leb, eqb}
use lib.IntN.{ℤ, pos, nat_abs, ◌-ℤ◌}
use Rattle.std.specs.Prelude.{Option, Some, None}
use Rattle.meaning.specs.declared.Made.{Made}
use Rattle.meaning.specs.Basics.{all, zeros}
use Rattle.meaning.specs.Operation.{whole, size, is_outcome, is_valid, operated}
use Rattle.laws.proofs.Lists.Tests.{true_of, false_of, all_append, and_true}
use Rattle.laws.proofs.Operation.Result.{outcome_of_test, test_of_outcome, size_is}
use Rattle.operation.specs.Code.{outcome_of}

-- ---- what n comes to

abbrev rest : ℕ → ℕ
rest m = m / 2 ^ zeros m

abbrev by : ℤ → ℕ → Option Made
by n m = Some (record { n = n; r = zeros m; value = rest m })

abbrev told : ℤ → Bool → Option Made
told n t = cond t (by n (nat_abs n)) None

abbrev is : ℕ → ℤ → Bool
is L n = is_outcome L (nat_abs n) (zeros (nat_abs n)) (rest (nat_abs n))

pub outcome_made : (L : ℕ) (n : ℤ) → 0 < nat_abs n → rest (nat_abs n) < 2 ^ L → outcome_of L n ≡ by n (nat_abs n)
unfolding outcome_of
outcome_made L n p h =
    ap (told n) (true_of (is L n) (test_of_outcome L _ _ _ (record { nonzero = p; shift = refl; value = refl; below = h })))

pub outcome_none : (L : ℕ) (n : ℤ) → nat_abs n ≡ 0 → outcome_of L n ≡ None
unfolding outcome_of
outcome_none L n e = ap (told n) (false_of (is L n) (λ t. let k = (outcome_of_test L _ _ _ t).nonzero in omega arith))

pub outcome_over : (L : ℕ) (n : ℤ) → 2 ^ L ≤ rest (nat_abs n) → outcome_of L n ≡ None
unfolding outcome_of
outcome_over L n h = ap (told n) (false_of (is L n) (λ t. let k = (outcome_of_test L _ _ _ t).below in omega arith))

-- ---- the operation

module _ (L u v l1 l2 s : ℕ) where
  abbrev shifts : List Bool
  shifts = leb l1 L ∷ leb l2 L ∷ leb s 1 ∷ eqb (min l1 l2) 0 ∷ []

  abbrev m : ℕ
  m = size u v l1 l2 s

  abbrev made : Bool → Option Made
  made t = cond t (by (whole u v l1 l2 s) m) None

  valid_is : is_valid L u v l1 l2 s (zeros m) (rest m) ≡ (all shifts && (is_outcome L m (zeros m) (rest m) && true))
  unfolding is_valid
  valid_is = all_append shifts (is_outcome L m (zeros m) (rest m) ∷ [])

  pub operated_not : all shifts ≡ false → operated L u v l1 l2 s ≡ None
  unfolding operated
  operated_not e = ap made (valid_is ∙ ap (λ t. t && (is_outcome L m (zeros m) (rest m) && true)) e)

  pub operated_by : all shifts ≡ true → operated L u v l1 l2 s ≡ outcome_of L (whole u v l1 l2 s)
  unfolding operated outcome_of
  operated_by e =
      ap made (valid_is ∙ ap (λ t. t && (is_outcome L m (zeros m) (rest m) && true)) e ∙ and_true (is_outcome L m (zeros m) (rest m)))
      ∙ ap (λ k. cond (is_outcome L k (zeros k) (rest k)) (by (whole u v l1 l2 s) k) None) (sym (size_is u v l1 l2 s))

-- the difference, as code meets a sign that is not 0
pub whole_minus : (u v l1 l2 s : ℕ) → (s ≡ 0 → ⊥) → pos (2 ^ l1 * u) -ℤ pos (2 ^ l2 * v) ≡ whole u v l1 l2 s
whole_minus u v l1 l2 zero h = absurd (h refl)
whole_minus u v l1 l2 (suc s) h = refl
