-- The products of an accepted graph are worked by its rows' words. Assumes nothing.
use mathlib.Core.Path.{◌≡◌, refl, sym, ap, ap₂, ◌∙◌, subst}
use mathlib.Core.Bool.{Bool, true, false, cond}
use mathlib.Core.List.{List, [], ◌∷◌, ◌++◌}
use Prim.Native.Nat.{ℕ, zero, suc, ◌*◌, ◌^◌, ◌≤◌}
use native.Mathlib.Omega.{arith}
use lib.Dec.{ltb}
use lib.IntN.{ℤ, pos, neg_ℤ, ◌-ℤ◌, ◌*ℤ◌, *ℤ_comm}
use lib.ListN.{length, get_or, get_or-append}
use Rattle.meaning.specs.declared.Row.{Row}
use Rattle.meaning.specs.Limits.{limit}
use Rattle.meaning.specs.Graph.{values, ready, Fits, Sound}
use Rattle.meaning.specs.Products.{is_negative, joined as products_joined, negated_if, products}
use Rattle.laws.proofs.Whole.Integers.{mul_assocℤ}
use Rattle.laws.proofs.Operation.Result.{exact_of}
use Rattle.laws.proofs.Graph.Rows.{length_values, ready_append, sound_split}
use Rattle.laws.proofs.Products.{times, product_at, turned_is, one_times, products_are}
use Rattle.tender.specs.Words.{value_at, joined, turned, Worked}

-- an index below a row has its value among the rows before
kept : (before more : List Row) (i : ℕ) → i ≤ length before → value_at (before ++ more) i ≡ value_at before i
kept before more i h =
    ap (λ l. get_or l i 0) (ready_append before more) ∙ get_or-append (ready before) (values more) 0 i (omega (arith, length_values before))

-- the row's own index
own : (before behind : List Row) (y : Row) → value_at (before ++ (y ∷ behind)) (suc (length before)) ≡ y.value
own [] behind y = refl
own (x ∷ before) behind y = own before behind y

-- what the row's words say, in the definition's form
negated : (t : Bool) (z : ℤ) → negated_if t z ≡ cond t (neg_ℤ z) z
negated true z = refl
negated false z = refl

worked_is : (u v : ℕ) (p q : ℤ) (l1 l2 s : ℕ) → negated_if (is_negative u v l1 l2 s) (products_joined p q l1 l2 s) ≡ turned u v l1 l2 s (joined p q l1 l2 s)
worked_is u v p q l1 l2 zero = refl
worked_is u v p q l1 l2 (suc s) = negated (ltb (2 ^ l1 * u) (2 ^ l2 * v)) (pos (2 ^ l1) *ℤ p -ℤ pos (2 ^ l2) *ℤ q)

module _ (b : ℕ) (xs : List Row) (x : ℤ) (g : Sound (limit b) [] xs) where
  abbrev ps : List ℤ
  ps = products xs x

  -- the product of an index is its value times x
  pub product_of : (i : ℕ) → get_or ps i (pos 0) ≡ times x (value_at xs i)
  product_of i = ap (λ l. get_or l i (pos 0)) (products_are (limit b) xs x g) ∙ product_at x (ready xs) i

  module _ (before behind : List Row) (y : Row) (e : xs ≡ before ++ (y ∷ behind)) where
    fits : Fits (limit b) before y
    unfolding Sound
    fits = (sound_split (limit b) [] before (y ∷ behind) (subst (Sound (limit b) []) e g)).1.0

    operand : (i : ℕ) → i ≤ length before → get_or ps i (pos 0) ≡ times x (value_at before i)
    operand i h = product_of i ∙ ap (times x) (ap (λ l. value_at l i) e ∙ kept before (y ∷ behind) i h)

    pub row_value : get_or ps (suc (length before)) (pos 0) ≡ pos y.value *ℤ x
    row_value = product_of (suc (length before)) ∙ ap (times x) (ap (λ l. value_at l (suc (length before))) e ∙ own before behind y)

    row_worked :
        pos (2 ^ y.r) *ℤ get_or ps (suc (length before)) (pos 0)
        ≡ turned (value_at before y.u) (value_at before y.v) y.l1 y.l2 y.s (joined (get_or ps y.u (pos 0)) (get_or ps y.v (pos 0)) y.l1 y.l2 y.s)
    row_worked =
        let u = value_at before y.u in
        let v = value_at before y.v in
        ap (λ z. pos (2 ^ y.r) *ℤ z) row_value
        ∙ sym (mul_assocℤ (pos (2 ^ y.r)) (pos y.value) x)
        ∙ ap (λ z. z *ℤ x) (*ℤ_comm (pos (2 ^ y.r)) (pos y.value))
        ∙ ap (times x) (sym (exact_of (limit b) _ _ _ fits.operation.outcome).whole)
        ∙ sym (turned_is x u v y.l1 y.l2 y.s)
        ∙ ap₂ (λ p q. negated_if (is_negative u v y.l1 y.l2 y.s) (products_joined p q y.l1 y.l2 y.s))
        (sym (operand y.u (omega (arith, fits.first, length_values before)))) (sym (operand y.v (omega (arith, fits.second, length_values before))))
        ∙ worked_is u v (get_or ps y.u (pos 0)) (get_or ps y.v (pos 0)) y.l1 y.l2 y.s

  pub worked : Worked xs x ps
  worked = record { input = product_of 0 ∙ one_times x; row = row_worked; value = row_value }
