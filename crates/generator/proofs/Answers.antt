-- What the generator answers and writes: a refusal, or all rows; and what an admitted list's wanted set is like. Assumes nothing.
use mathlib.Core.Path.{◌≡◌, refl, sym, ap, ◌∙◌}
use Rattle.std.specs.Prelude.{Ok, Err}
use mathlib.Core.List.{List, [], ◌∷◌}
use Prim.Native.Nat.{ℕ, ◌*◌, ◌^◌, ◌≤◌, ◌<◌}
use native.Mathlib.Omega.{arith}
use borrow.Author.Tests.{lt-leb}
use lib.Dec.{leb}
use lib.IntN.{ℤ}
use lib.ListN.{length}
use lib.Pow.{pow_mono}
use Rattle.meaning.specs.declared.Refusal.{Refusal}
use Rattle.meaning.specs.declared.Refusal.TheVariants as no
use Rattle.meaning.specs.Basics.{over}
use Rattle.meaning.specs.Limits.{limit, most_rows}
use Rattle.meaning.specs.Constants.{wanted}
use Rattle.meaning.specs.Graph.{row_length, flat}
use Rattle.meaning.specs.Generator.{generated}
use Rattle.meaning.specs.Refusals.{Answer, Accepted, buffer, few_rows, admit_order, admitted, Done, given, told, drawn, drawn_told, rows_written}
use Rattle.laws.proofs.Refusals.Stages.{stops, stops_at, passes_on, over_none}
use Rattle.laws.proofs.Digits.Chain.{prefix_row_lem}
use Rattle.laws.proofs.Refusals.Checked.{Admitted}
use Rattle.laws.proofs.Constants.Wanted.{all_wanted}
use Rattle.laws.proofs.Generator.Generated.{drawn_is}
use Rattle.generator.specs.Rule.{AllServable, turned}

-- ---- the wanted set

-- every wanted constant is odd and below 2 ^ b, and so are its prefixes
pub all_servable : (b : ℕ) (ts : List ℤ) → Admitted b ts → AllServable (limit b) (wanted ts)
all_servable b ts a c i =
    let w = all_wanted b ts a c i in
    let m : 2 ^ b ≤ 2 ^ limit b = pow_mono (omega arith) in
    record {
      odd = (w.odd, omega (arith, w.below));
      steps = λ p j. let r = prefix_row_lem b c p w.odd w.below j in (r.value_odd, omega (arith, r.value_below));
    }

-- ---- the answers

module _ (b : ℕ) (ts : List ℤ) (room : ℕ) where
  -- refusals 1, 2 and 3
  pub drawn_stops : (why : Refusal) → admitted b ts ≡ Err why → drawn b ts room ≡ Err why
  unfolding admitted drawn
  drawn_stops why e = sym (stops_at (admit_order b ts) (buffer (row_length * most_rows) room ∷ few_rows (generated b ts) ∷ []) (Err why) why (sym e) refl)

  -- refusal 4
  pub drawn_short : admitted b ts ≡ Accepted → room < row_length * most_rows → drawn b ts room ≡ Err no.Buffer
  unfolding admitted
  drawn_short e h =
      drawn_is b ts room
      ∙ passes_on (admit_order b ts) (buffer (row_length * most_rows) room ∷ []) Accepted (sym e) refl
      ∙ stops no.Buffer (leb (row_length * most_rows) room ∷ []) [] (rw (lt-leb _ _ h))

  pub told_refused : (why : Refusal) (old : List ℕ) → drawn b ts room ≡ Err why → Done (drawn_told b ts room) (rows_written b ts room) (Err why) old old
  unfolding drawn_told rows_written
  told_refused why old e =
      record {
        answers = ap (λ (a : Answer). told a (length (generated b ts))) (sym e);
        writes = sym (over_none old) ∙ ap (λ (a : Answer). over (given a (flat (generated b ts))) old) (sym e);
      }

  pub told_rows : (n : ℕ) (before now : List ℕ) → drawn b ts room ≡ Accepted → n ≡ length (generated b ts) → now ≡ over (flat (generated b ts)) before
      → Done (drawn_told b ts room) (rows_written b ts room) (Ok n) before now
  unfolding drawn_told rows_written
  told_rows n before now e l f =
      record {
        answers = ap Ok l ∙ ap (λ (a : Answer). told a (length (generated b ts))) (sym e);
        writes = f ∙ ap (λ (a : Answer). over (given a (flat (generated b ts))) before) (sym e);
      }

-- the rule's rows are those of the turns
pub its_turns : (b : ℕ) (ts : List ℤ) (cs : List ℕ) → cs ≡ wanted ts → turned (limit b) cs ≡ generated b ts
unfolding generated
its_turns b ts cs e = ap (turned (limit b)) e
