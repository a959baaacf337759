-- The rows' widths over the front of a slice, and what the call has done where a stage refuses and where all accept. Assumes nothing.
use mathlib.Core.Path.{◌≡◌, refl, sym, ap, ap₂, ◌∙◌}
use mathlib.Core.List.{List, ◌++◌, map}
use Prim.Native.Nat.{ℕ, ◌+◌, ◌≤◌, ◌<◌}
use native.Mathlib.Omega.{arith}
use lib.IntN.{ℤ}
use lib.ListN.{length, get_or, drop, length-map}
use Rattle.std.specs.Prelude.{Err, IsErrAnd}
use Rattle.std.proofs.lemmas.List.{ext_get_or}
use Rattle.meaning.specs.declared.Refusal.{Refusal}
use Rattle.meaning.specs.declared.Refusal.TheVariants as no
use Rattle.meaning.specs.Basics.{over, over_at}
use Rattle.meaning.specs.Graph.{row_after, rows, values}
use Rattle.meaning.specs.Widths.{row_width, output_width, widths}
use Rattle.meaning.specs.Calls.{ChecksWidth}
use Rattle.meaning.specs.Refusals.{Answer, Accepted, Done, sized_order, sized, measured, widths_written}
use Rattle.laws.proofs.Graph.Rows.{length_rows, length_values, value_is}
use Rattle.laws.proofs.Refusals.Stages.{stage_handed, buffer_refused, all_written}
use Rattle.laws.proofs.Refusals.Checked.{sized_of}
use Rattle.laws.proofs.Lists.Index.{at_map}
use Rattle.laws.proofs.Lists.Over.{over_part}

-- the widths of n rows, each in its place
pub widths_over : (input n : ℕ) (w items old : List ℕ) → length items ≡ n
    → ((k : ℕ) → k < n → get_or items k 0 ≡ row_width input (row_after w k).value) → items ++ drop n old ≡ over (map (row_width input) (values (rows n w))) old
unfolding over
widths_over input n w items old e f =
    let vals = values (rows n w) in
    let long : length vals ≡ n = length_values (rows n w) ∙ length_rows n w in
    let each : (k : ℕ) → k < n → get_or (map (row_width input) vals) k 0 ≡ row_width input (row_after w k).value
    = λ k h. at_map (row_width input) vals k 0 0 (omega arith) ∙ ap (row_width input) (value_is n w k h) in
    let wide : length (map (row_width input) vals) ≡ n = length-map vals (row_width input) ∙ long in
    let same : items ≡ map (row_width input) vals = ext_get_or 0 items _ (e ∙ sym wide) (λ k h. f k (omega arith) ∙ sym (each k (omega arith))) in
    rw (← same, e) refl

-- of an accepted graph
pub narrow_input : (b : ℕ) (ts : List ℤ) (n : ℕ) (w : List ℕ) (input : ℕ) → ChecksWidth b ts n w input Accepted → input ≤ 32
narrow_input b ts n w input e = (sized_of b ts n w input (sym e)).width.1

pub room_for_both : (b : ℕ) (ts : List ℤ) (n : ℕ) (w : List ℕ) (input : ℕ) → ChecksWidth b ts n w input Accepted → n + length ts ≤ 144
room_for_both b ts n w input e = let g = (sized_of b ts n w input (sym e)).good in let a = g.admits.list in let r = g.room in omega arith

module _ (b : ℕ) (ts : List ℤ) (n : ℕ) (w : List ℕ) (input : ℕ) (old : List ℕ) where
  abbrev told : Answer
  told = measured b ts n w input (length old)

  abbrev written : List ℕ
  written = widths_written b ts n w input (length old)

  pub graph_refused : (q : Answer) (why : Refusal) → ChecksWidth b ts n w input (Err why) → IsErrAnd q (λ x. x ≡ why) → Done told written q old old
  unfolding sized measured widths_written
  graph_refused q why e h = stage_handed (sized_order b ts n w input) (n + length ts) _ old (sized b ts n w input) refl q why (sym e) h

  pub short_buffer : ChecksWidth b ts n w input Accepted → length old < n + length ts → Done told written (Err no.Buffer) old old
  unfolding sized measured widths_written
  short_buffer e h = buffer_refused (sized_order b ts n w input) (n + length ts) _ old (sized b ts n w input) refl (sym e) h

  pub both_written : (count : ℕ) (words rest new : List ℕ) → (count ≡ n) × (words ≡ w) × ChecksWidth b ts n w input Accepted → n + length ts ≤ length old
      → rest ≡ over (map (row_width input) (values (rows count words))) old → new ≡ over_at n (map (output_width input) ts) rest → Done told written Accepted old new
  unfolding sized measured widths_written widths
  both_written count words rest new g h e f =
      let xs = values (rows n w) in
      all_written (sized_order b ts n w input) (n + length ts) _ old (sized b ts n w input) refl new (sym g.2) h
      (f
      ∙ ap (over_at n (map (output_width input) ts)) (e ∙ ap₂ (λ k v. over (map (row_width input) (values (rows k v))) old) g.0 g.1)
      ∙ over_part (map (row_width input) xs) (map (output_width input) ts) old n (length-map xs (row_width input) ∙ length_values (rows n w) ∙ length_rows n w))
