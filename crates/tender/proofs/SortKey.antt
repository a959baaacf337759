-- The ranking of two rows that a signed 32-bit peak turns round. It computes. Assumes nothing.
use mathlib.Core.Path.{◌≡◌, refl, sym, ap, ◌∙◌}
use mathlib.Core.List.{List, [], ◌∷◌}
use Prim.Native.Nat.{ℕ}
use native.Mathlib.Omega.{arith}
use lib.IntN.{pos}
use lib.ListN.{get_or}
use Rattle.meaning.specs.Basics.{over, zeros_in, zeros}
use Rattle.meaning.specs.Constants.{apart}
use Rattle.meaning.specs.Operation.{is_outcome, is_valid}
use Rattle.meaning.specs.Graph.{rows, does_fit, is_served}
use Rattle.meaning.specs.Widths.{least_from, extra_bits, place, ranked_from, ranking}
use Rattle.meaning.specs.Refusals.{Answer, need_each, ranked, ranking_written}
use Rattle.meaning.specs.Calls.{Ranks}
use Rattle.tender.specs.SortKey.{words, SortKey}

written : ranking_written 8 (pos 3 ∷ pos 5 ∷ []) 2 words 29 2 ≡ 2 ∷ 1 ∷ []
unfolding zeros_in zeros apart is_outcome is_valid rows does_fit is_served least_from extra_bits place ranked_from ranking need_each ranked ranking_written
written = refl

left : (r : Answer) (after : List ℕ) → Ranks 8 (pos 3 ∷ pos 5 ∷ []) 2 words 29 r (0 ∷ 0 ∷ []) after → ¬ (after ≡ 1 ∷ 2 ∷ [])
unfolding over
left r after d e =
    let h : after ≡ 2 ∷ 1 ∷ [] = d.writes ∙ ap (λ xs. over xs (0 ∷ 0 ∷ [])) written in
    let one : ◌≡◌ {A = ℕ} 2 1 = ap (λ xs. get_or xs 0 0) (sym h ∙ e) in
    omega arith

pub sort_key : SortKey
unfolding least_from extra_bits place ranked_from ranking
sort_key = record { widths = refl; peaks = refl; order = refl; refused = left }
