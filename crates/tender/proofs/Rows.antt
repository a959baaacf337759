-- The operation, a row and all rows: what the definitions test is what the buyer's words say. Assumes nothing.
use mathlib.Core.Path.{◌≡◌, refl, sym, ap, ◌∙◌, subst}
use mathlib.Core.List.{List, [], ◌∷◌, ◌++◌, append_assoc}
use mathlib.Core.Logic.{◌⊎◌, inl, inr, ⊎_elim}
use Prim.Native.Nat.{ℕ, zero, suc, ◌+◌, ◌*◌, ◌^◌, ◌≤◌, min}
use native.Mathlib.Omega.{arith}
use lib.Dec.{T}
use lib.IntN.{pos, nat_abs, ◌-ℤ◌}
use lib.ListN.{length}
use Rattle.meaning.specs.declared.Row.{Row}
use Rattle.meaning.specs.Limits.{limit}
use Rattle.meaning.specs.Operation.{size, Valid}
use Rattle.meaning.specs.Graph.{ready, Fits, does_fit, Sound}
use Rattle.laws.proofs.Operation.Result.{abs_minus, exact_of, outcome_of_lem}
use Rattle.laws.proofs.Graph.Rows.{length_values, fits_of_test, test_of_fits, sound_split}
use Rattle.tender.specs.Words.{AOperation, ValidRow, EveryRowValid}

-- ---- the operation

abbrev Result : (u v l1 l2 s m : ℕ) → Type 0
Result u v l1 l2 s m = ((s ≡ 0) × (2 ^ l1 * u + 2 ^ l2 * v ≡ m)) ⊎ ((s ≡ 1) × (nat_abs (pos (2 ^ l1 * u) -ℤ pos (2 ^ l2 * v)) ≡ m))

result_of : (u v l1 l2 s m : ℕ) → s ≤ 1 → size u v l1 l2 s ≡ m → Result u v l1 l2 s m
result_of u v l1 l2 zero m h e = inl (refl, e)
result_of u v l1 l2 (suc s) m h e = inr (omega arith, abs_minus (2 ^ l1 * u) (2 ^ l2 * v) ∙ e)

of_result : (u v l1 l2 s m : ℕ) → Result u v l1 l2 s m → (s ≤ 1) × (size u v l1 l2 s ≡ m)
of_result u v l1 l2 zero m r = ⊎_elim (λ p. (omega arith, p.1)) (λ p. absurd (omega (arith, p.0))) r
of_result u v l1 l2 (suc s) m r =
    ⊎_elim (λ p. absurd (omega (arith, p.0))) (λ p. (omega (arith, p.0), sym (abs_minus (2 ^ l1 * u) (2 ^ l2 * v)) ∙ p.1)) r

module _ (b u v l1 l2 s r c : ℕ) where
  pub operation_of : Valid (limit b) u v l1 l2 s r c → AOperation b u v l1 l2 s r c
  operation_of k =
      let x = exact_of (limit b) (size u v l1 l2 s) r c k.outcome in
      record {
        shifts = (k.left, k.right);
        unshifted = one l1 l2 k.unshifted;
        result = result_of u v l1 l2 s (c * 2 ^ r) k.sign x.whole;
        odd = x.odd;
        below = k.outcome.below;
      }
    where
      one : (a d : ℕ) → min a d ≡ 0 → (a ≡ 0) ⊎ (d ≡ 0)
      one zero d e = inl refl
      one (suc a) d e = inr (omega arith)

  pub valid_of : AOperation b u v l1 l2 s r c → Valid (limit b) u v l1 l2 s r c
  valid_of o =
      let (h, e) = of_result u v l1 l2 s (c * 2 ^ r) o.result in
      record {
        left = o.shifts.0;
        right = o.shifts.1;
        unshifted = ⊎_elim (λ e. omega arith) (λ e. omega arith) o.unshifted;
        sign = h;
        outcome = outcome_of_lem (limit b) (size u v l1 l2 s) r c (record { odd = o.odd; whole = e }) o.below;
      }

-- ---- a row after those before it

indices : (before : List Row) → length (ready before) ≡ suc (length before)
indices before = ap suc (length_values before)

module _ (b : ℕ) (before : List Row) (x : Row) where
  pub row_of : Fits (limit b) before x → ValidRow b before x
  row_of f =
      record {
        first = omega (arith, f.first, indices before);
        second = omega (arith, f.second, indices before);
        operation = operation_of b _ _ _ _ _ _ _ f.operation;
      }

  pub of_row : ValidRow b before x → Fits (limit b) before x
  of_row f =
      record {
        first = omega (arith, f.first, indices before);
        second = omega (arith, f.second, indices before);
        operation = valid_of b _ _ _ _ _ _ _ f.operation;
      }

  pub row_of_test : T (does_fit (limit b) before x) → ValidRow b before x
  row_of_test t = row_of (fits_of_test (limit b) before x t)

  pub test_of_row : ValidRow b before x → T (does_fit (limit b) before x)
  test_of_row f = test_of_fits (limit b) before x (of_row f)

-- ---- every row

pub rows_of : (b : ℕ) (xs : List Row) → Sound (limit b) [] xs → EveryRowValid b xs
unfolding Sound
rows_of b xs s before behind x e = row_of b before x (sound_split (limit b) [] before (x ∷ behind) (subst (Sound (limit b) []) e s)).1.0

sound_of : (b : ℕ) (before xs : List Row) → EveryRowValid b (before ++ xs) → Sound (limit b) before xs
unfolding Sound
sound_of b before [] v = tt
sound_of b before (x ∷ xs) v =
    (of_row b before x (v before xs x refl), sound_of b (before ++ (x ∷ [])) xs (subst (EveryRowValid b) (sym (append_assoc before (x ∷ []) xs)) v))

pub of_rows : (b : ℕ) (xs : List Row) → EveryRowValid b xs → Sound (limit b) [] xs
of_rows b xs v = sound_of b [] xs v
