-- Condition 3's sum so far, row numbers counted up, and the numbers of the lines. Assumes nothing.
use mathlib.Core.Path.{◌≡◌, refl, sym, ap, ◌∙◌}
use mathlib.Core.List.{List, [], ◌∷◌, ◌++◌}
use Prim.Native.Nat.{ℕ, zero, suc, ◌+◌, ◌≤◌, ◌<◌}
use native.Mathlib.Nat.{add-zero}
use native.Mathlib.Numerals.{add-one}
use native.Mathlib.Omega.{arith}
use lib.IntN.{ℤ, pos}
use lib.ListN.{length, get_or, set, take, drop, drop_of_length-le, length-map}
use lib.Seq.{drop-cons, take_at}
use Rattle.std.specs.Prelude.{Bool}
use Rattle.meaning.specs.declared.Row.{Row}
use Rattle.meaning.specs.Basics.{sum_of, up_from, over}
use Rattle.meaning.specs.Constants.{wanted}
use Rattle.meaning.specs.Digits.{cost, csd_sum}
use Rattle.meaning.specs.Graph.{rows, values}
use Rattle.meaning.specs.Listing.{row_order, nth_row, row_numbers, rows_by, out_numbers, outs_from}
use Rattle.laws.proofs.Lists.Index.{get_or_in}
use Rattle.laws.proofs.Graph.Rows.{length_rows, length_values}
use Rattle.laws.proofs.Text.Listings.{order_length, order_in}
use Rattle.laws.proofs.Lists.Over.{over_at_lem}
use Rattle.laws.proofs.Lists.First.{up_length, up_more}
use Rattle.laws.proofs.Constants.Wanted.{wanted_in}
use Rattle.laws.proofs.Lists.Index.{at_map}
use Rattle.listing.specs.Parts.{InRows}

-- ---- the sum so far, and one more

module _ (cs : List ℕ) (i sum : ℕ) (e : csd_sum cs ≡ sum + csd_sum (drop i cs)) where
  pub sum_more : i < length cs → csd_sum cs ≡ sum + cost (get_or cs i 0) + csd_sum (drop (i + 1) cs)
  unfolding sum_of
  sum_more h =
      let k : csd_sum (drop i cs) ≡ cost (get_or cs i 0) + csd_sum (drop (i + 1) cs) = rw (drop-cons cs i 0 h, add-one i) in
      omega arith

  pub sum_end : length cs ≤ i → sum ≡ csd_sum cs
  unfolding sum_of
  sum_end h = let k : csd_sum (drop i cs) ≡ 0 = ap csd_sum (drop_of_length-le cs h) in omega arith

pub wanted_positive : (ts : List ℤ) (i : ℕ) → i < length (wanted ts) → 0 < get_or (wanted ts) i 0
wanted_positive ts i h = let (t, m, e, l) = wanted_in ts (get_or (wanted ts) i 0) (get_or_in (wanted ts) i 0 h) in omega arith

-- ---- row numbers

pub counted : (order now : List ℕ) (i : ℕ) → i < length order → now ≡ over (up_from 1 i) order → set now i (i + 1) ≡ over (up_from 1 (i + 1)) order
counted order now i h e =
    ap (λ (l : List ℕ). set l i (i + 1)) e
    ∙ over_at_lem (up_from 1 i) order (i + 1) i (up_length 1 i) h
    ∙ ap (λ (l : List ℕ). over l order)
    (ap (λ (j : ℕ). up_from 1 i ++ (j ∷ [])) (omega arith) ∙ up_more 1 i ∙ ap (up_from 1) (sym (add-one i)))

-- ---- the numbers of the line at a place

module _ (w : ℤ) (xs : List Row) (order : List ℕ) where
  pub rows_length : length (rows_by w xs order) ≡ length order
  rows_length = length-map order _

  pub rows_at : (k : ℕ) → k < length order → get_or (rows_by w xs order) k [] ≡ row_numbers w (get_or order k 0) (nth_row xs (get_or order k 0))
  rows_at k h = at_map (λ i. row_numbers w i (nth_row xs i)) order k 0 [] h

module _ (w : ℤ) (vals : List ℕ) where
  outs_long : (j : ℕ) (ts : List ℤ) → length (outs_from w vals j ts) ≡ length ts
  unfolding outs_from
  outs_long j [] = refl
  outs_long j (t ∷ ts) = ap suc (outs_long (suc j) ts)

  outs_from_lem : (j : ℕ) (ts : List ℤ) (k : ℕ) → k < length ts → get_or (outs_from w vals j ts) k [] ≡ out_numbers w vals (j + k) (get_or ts k (pos 0))
  unfolding outs_from
  outs_from_lem j [] k h = absurd (omega arith)
  outs_from_lem j (t ∷ ts) zero h = rw (add-zero j)
  outs_from_lem j (t ∷ ts) (suc k) h = let e : suc j + k ≡ j + suc k = omega arith in outs_from_lem (suc j) ts k (omega arith) ∙ rw e

  -- the targets are counted from 1
  pub outs_length : (ts : List ℤ) → length (outs_from w vals 1 ts) ≡ length ts
  outs_length ts = outs_long 1 ts

  pub outs_at : (ts : List ℤ) (k : ℕ) → k < length ts → get_or (outs_from w vals 1 ts) k [] ≡ out_numbers w vals (k + 1) (get_or ts k (pos 0))
  outs_at ts k h = outs_from_lem 1 ts k h ∙ ap (λ (j : ℕ). out_numbers w vals j (get_or ts k (pos 0))) (omega arith)

-- ---- what stands in front of a buffer that was lent for it

pub front_of : (new old now : List ℕ) (n : ℕ) → length new ≡ n → now ≡ over new old → take n now ≡ new
unfolding over
front_of new old now n e f = ap (take n) f ∙ take_at new _ n e

-- ---- the rows' order

module _ (by_width : Bool) (n : ℕ) (w : List ℕ) where
  abbrev order : List ℕ
  order = row_order by_width (values (rows n w))

  pub order_count : length order ≡ n
  order_count = order_length by_width (values (rows n w)) ∙ length_values (rows n w) ∙ length_rows n w

  at : (k : ℕ) → k < length order → (1 ≤ get_or order k 0) × (get_or order k 0 ≤ length (values (rows n w)))
  at k l = order_in by_width (values (rows n w)) (get_or order k 0) (get_or_in order k 0 l)

  pub order_rows : InRows n order
  order_rows = record { low = λ k i. (at k i).0; high = λ k i. omega (arith, (at k i).1, length_values (rows n w), length_rows n w) }
