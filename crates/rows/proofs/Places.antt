-- The value of an index by the row before it, and words written over a part of a slice. Assumes nothing.
use mathlib.Core.Path.{◌≡◌, refl, sym, ap, ◌∙◌}
use mathlib.Core.List.{List, [], ◌∷◌, ◌++◌, map-append}
use Prim.Native.Nat.{ℕ, zero, suc, ◌+◌, ◌-◌, ◌≤◌, ◌<◌}
use native.Mathlib.Omega.{arith}
use borrow.Rule.Slice.PartMut.{put_mid}
use lib.ListN.{length, get_or, drop}
use Rattle.std.proofs.lemmas.List.{ext_get_or}
use Rattle.meaning.specs.Basics.{over, over_at}
use Rattle.meaning.specs.Graph.{row_after, rows, values, value_at}
use Rattle.laws.proofs.Graph.Rows.{rows_more, length_rows, length_values, value_is}

pub value_before : (w : List ℕ) (i index : ℕ) → 0 < index → index ≤ i → (row_after w (index - 1)).value ≡ value_at (rows i w) index
value_before w i zero z h = absurd (omega arith)
value_before w i (suc k) z h = sym (value_is i w k (omega arith) ∙ ap (λ j. (row_after w j).value) (omega arith))

-- no rows have no values; one row more has its value behind theirs, and there is room for it
pub values_none : (w : List ℕ) → [] ≡ values (rows 0 w)
unfolding rows
values_none w = refl

pub values_more : (i : ℕ) (w : List ℕ) → values (rows i w) ++ ((row_after w i).value ∷ []) ≡ values (rows (i + 1) w)
values_more i w =
    sym (ap (λ k. values (rows k w)) (omega arith) ∙ ap values (rows_more i w) ∙ map-append (λ x. x.value) (rows i w) (row_after w i ∷ []))

pub values_room : (i : ℕ) (w : List ℕ) → length (values (rows i w)) ≡ i
values_room i w = length_values (rows i w) ∙ length_rows i w

-- the values of n rows, each in its place
pub values_over : (n : ℕ) (w items old : List ℕ) → length items ≡ n → ((k : ℕ) → k < n → get_or items k 0 ≡ (row_after w k).value) → items ++ drop n old ≡ over (values (rows n w)) old
unfolding over
values_over n w items old e f =
    let long : length (values (rows n w)) ≡ n = length_values (rows n w) ∙ length_rows n w in
    let same : items ≡ values (rows n w) = ext_get_or 0 items _ (e ∙ sym long) (λ k h. f k (omega arith) ∙ sym (value_is n w k (omega arith))) in
    rw (← same, e) refl

pub put_over : {A : Type 0} (at k : ℕ) (old new : List A) → k ≡ length new → put_mid at k old new ≡ over_at at new old
unfolding over_at over
put_over at k old new e = rw (← e) refl
