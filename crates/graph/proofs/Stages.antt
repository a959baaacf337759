-- The check's stages in their order: what is answered where each of them refuses, and where all accept. Assumes nothing.
use mathlib.Core.Path.{◌≡◌, refl, ap, ap₂, sym, ◌∙◌}
use mathlib.Core.Bool.{true, false}
use mathlib.Core.List.{List, [], ◌∷◌}
use Prim.Native.Nat.{ℕ, ◌≤◌}
use lib.IntN.{ℤ}
use lib.ListN.{length}
use Rattle.std.specs.Prelude.{Err}
use Rattle.meaning.specs.Limits.{most_targets, width_tests}
use Rattle.meaning.specs.declared.Refusal.{Refusal}
use Rattle.meaning.specs.declared.Refusal.TheVariants as no
use Rattle.meaning.specs.Basics.{all}
use Rattle.meaning.specs.Graph.{row_tests, rows}
use Rattle.meaning.specs.Calls.{Checks, ChecksWidth}
use Rattle.meaning.specs.Refusals.{Answer, Accepted, admit_order, check_order, row_count, valid_rows, all_served, input_width, admitted, checked, sized, first_of}
use Rattle.laws.proofs.Refusals.Stages.{stops, passes, passes_on, stops_at}
use Rattle.laws.proofs.Refusals.Checked.{admitted_of}

pub admits_bits : (b : ℕ) (ts : List ℤ) → admitted b ts ≡ Accepted → (2 ≤ b) × (b ≤ 16)
admits_bits b ts e = (admitted_of b ts e).bits

pub admits_list : (b : ℕ) (ts : List ℤ) → admitted b ts ≡ Accepted → length ts ≤ most_targets
admits_list b ts e = (admitted_of b ts e).list.1

module _ (b : ℕ) (ts : List ℤ) (n : ℕ) (w : List ℕ) where
  abbrev later : List Answer
  later = valid_rows b (rows n w) ∷ all_served (rows n w) ts ∷ []

  abbrev behind : List Answer
  behind = row_count n w ∷ later

  past : admitted b ts ≡ Accepted → checked b ts n w ≡ first_of behind
  unfolding checked admitted
  past e = passes_on (admit_order b ts) behind (admitted b ts) refl e

  counted : admitted b ts ≡ Accepted → all (row_tests n w) ≡ true → checked b ts n w ≡ first_of later
  counted e f = past e ∙ passes no.RowCount (row_tests n w) later f

  pub list_refused : (why : Refusal) → admitted b ts ≡ Err why → Checks b ts n w (Err why)
  unfolding checked admitted
  list_refused why e = sym e ∙ stops_at (admit_order b ts) behind (admitted b ts) why refl e

  pub count_refused : admitted b ts ≡ Accepted → all (row_tests n w) ≡ false → Checks b ts n w (Err no.RowCount)
  count_refused e f = sym (past e ∙ stops no.RowCount (row_tests n w) later f)

  pub row_refused : (why : Refusal) → admitted b ts ≡ Accepted → all (row_tests n w) ≡ true → valid_rows b (rows n w) ≡ Err why → Checks b ts n w (Err why)
  row_refused why e f g = sym (counted e f ∙ ap (λ a. first_of (a ∷ all_served (rows n w) ts ∷ [])) g)

  pub target_refused : (why : Refusal) → admitted b ts ≡ Accepted → all (row_tests n w) ≡ true → valid_rows b (rows n w) ≡ Accepted
      → all_served (rows n w) ts ≡ Err why → Checks b ts n w (Err why)
  target_refused why e f g h = sym (counted e f ∙ ap₂ (λ a c. first_of (a ∷ c ∷ [])) g h)

  pub accepted : admitted b ts ≡ Accepted → all (row_tests n w) ≡ true → valid_rows b (rows n w) ≡ Accepted
      → all_served (rows n w) ts ≡ Accepted → Checks b ts n w Accepted
  accepted e f g h = sym (counted e f ∙ ap₂ (λ a c. first_of (a ∷ c ∷ [])) g h)

-- as the check, then the input width
module _ (b : ℕ) (ts : List ℤ) (n : ℕ) (w : List ℕ) (input : ℕ) where
  measured : Checks b ts n w Accepted → sized b ts n w input ≡ first_of (input_width input ∷ [])
  unfolding sized checked
  measured e = passes_on (check_order b ts n w) (input_width input ∷ []) (checked b ts n w) refl (sym e)

  pub graph_refused : (why : Refusal) → Checks b ts n w (Err why) → ChecksWidth b ts n w input (Err why)
  unfolding sized checked
  graph_refused why e = e ∙ stops_at (check_order b ts n w) (input_width input ∷ []) (checked b ts n w) why refl (sym e)

  pub width_refused : Checks b ts n w Accepted → all (width_tests input) ≡ false → ChecksWidth b ts n w input (Err no.Width)
  width_refused e f = sym (measured e ∙ stops no.Width (width_tests input) [] f)

  pub width_accepted : Checks b ts n w Accepted → all (width_tests input) ≡ true → ChecksWidth b ts n w input Accepted
  width_accepted e f = sym (measured e ∙ passes no.Width (width_tests input) [] f)
