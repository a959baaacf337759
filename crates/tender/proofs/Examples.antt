-- P1 to P10 and the sample hold. Most of it computes. Assumes nothing.
use mathlib.Core.Path.{◌≡◌, refl, ap}
use Rattle.std.specs.Prelude.{Err}
use mathlib.Core.Bool.{true, false}
use mathlib.Core.List.{[], ◌∷◌}
use Prim.Native.Nat.{ℕ, ◌*◌, ◌^◌}
use native.Mathlib.Omega.{arith}
use lib.IntN.{pos, +ℤ_invr}
use Rattle.meaning.specs.declared.Refusal.TheVariants as no
use Rattle.meaning.specs.declared.Row.{Row}
use Rattle.meaning.specs.Basics.{index_from, sum_of, first_some, zeros_in, zeros}
use Rattle.meaning.specs.Constants.{apart, insert, wanted}
use Rattle.meaning.specs.Operation.{whole, Valid, is_outcome, is_valid, operated, operated_under}
use Rattle.meaning.specs.Graph.{rows, does_fit, output_index}
use Rattle.meaning.specs.Distance.{does_give, shift_pairs, is_one_op, does_reach, does_serve, candidates, distance}
use Rattle.meaning.specs.Digits.{nonzeros, digits_in, canonic, prefixes_from, prefixes}
use Rattle.meaning.specs.Generator.{chosen, choice_for, row_for, remaining, rule_a, trials, serve, rule_b, rule_c, added, turn, turns, generated}
use Rattle.meaning.specs.Products.{row_product, products_from, products, target_product, target_products}
use Rattle.meaning.specs.Widths.{least_from, extra_bits, place, ranked_from, ranking}
use Rattle.meaning.specs.Refusals.{Answer, need_each, valid_rows, all_served, first_of, admitted, checked, distance_told}
use Rattle.meaning.specs.Text.{stands, unsigned_at, number_at, unsigned_text}
use Rattle.meaning.specs.Forms.{line_at, line_of, lines_of}
use Rattle.meaning.specs.Job.{job_of, report_at, numbers, targets_at}
use Rattle.meaning.specs.Listing.{head_text, row_numbers, out_numbers, outs_from, listing_of, listing, reply_to, job_text}
use Rattle.laws.proofs.Graph.Rows.{fits_of_test}
use Rattle.laws.proofs.Lists.Tests.{false_of}
use Rattle.tender.specs.Examples.{row, Examples, sample_job, sample_listing}
use Rattle.tender.proofs.Jobs.{whole_as}

-- P6: |n| = 6 has one trailing zero, so that r is not 0
six : (c : ℕ) → ¬ (Valid 9 5 1 0 0 0 0 c)
unfolding zeros zeros_in
six c k = let e : ◌≡◌ {A = ℕ} 0 1 = k.outcome.shift in omega arith

abbrev five : Row
five = row 0 0 0 2 0 0 5

five_fits : does_fit 9 [] five ≡ true
unfolding does_fit is_valid is_outcome zeros zeros_in
five_fits = refl

six_fails : (c : ℕ) → does_fit 9 (five ∷ []) (row 1 0 0 0 0 0 c) ≡ false
six_fails c = false_of (does_fit 9 (five ∷ []) (row 1 0 0 0 0 0 c)) (λ t. six c (fits_of_test 9 (five ∷ []) (row 1 0 0 0 0 0 c) t).operation)

six_row : (c : ℕ) → valid_rows 8 (five ∷ row 1 0 0 0 0 0 c ∷ []) ≡ Err (no.Row 2)
unfolding need_each
six_row c = rw (five_fits, six_fails c) refl

six_refused : (c : ℕ) → checked 8 (pos 5 ∷ []) 2 (0 ∷ 0 ∷ 0 ∷ 2 ∷ 0 ∷ 0 ∷ 5 ∷ 1 ∷ 0 ∷ 0 ∷ 0 ∷ 0 ∷ 0 ∷ c ∷ []) ≡ Err (no.Row 2)
unfolding checked need_each rows zeros zeros_in
six_refused c = ap (λ (a : Answer). first_of (a ∷ all_served (five ∷ row 1 0 0 0 0 0 c ∷ []) (pos 5 ∷ []) ∷ [])) (six_row c)

-- P7
nothing : (u : ℕ) → whole u u 0 0 1 ≡ pos 0
nothing u = +ℤ_invr (pos (2 ^ 0 * u))

never : (L u r c : ℕ) → ¬ (Valid L u u 0 0 1 r c)
never L u r c k = let h = k.outcome.nonzero in omega arith

-- the sample, by computation
sample_text : job_text sample_job ≡ sample_listing
unfolding index_from sum_of first_some zeros_in zeros apart insert wanted is_outcome is_valid output_index does_give shift_pairs nonzeros digits_in canonic chosen choice_for row_for remaining rule_a added turn turns generated least_from extra_bits place ranked_from ranking need_each stands unsigned_at number_at unsigned_text line_of lines_of line_at report_at numbers targets_at job_of head_text row_numbers out_numbers outs_from listing_of listing reply_to job_text
sample_text = refl

pub examples : Examples
unfolding index_from sum_of first_some zeros_in zeros apart insert wanted is_outcome is_valid operated operated_under rows does_fit output_index does_give shift_pairs is_one_op does_reach does_serve candidates distance nonzeros digits_in canonic prefixes_from prefixes chosen choice_for row_for remaining rule_a trials serve rule_b rule_c added turn turns generated row_product products_from products target_product target_products least_from extra_bits place ranked_from ranking need_each admitted distance_told
examples =
    record {
      p1 = refl;
      p1_n = refl;
      p1_product = refl;
      p2 = refl;
      p3 = refl;
      p4_two = refl;
      p4_beyond = refl;
      p4_zero = refl;
      p5 = refl;
      p6 = refl;
      p6_refused = six_refused;
      p6_number = refl;
      p7_n = nothing;
      p7 = never;
      p8 = refl;
      p8_over = refl;
      p8_number = refl;
      p8_even = refl;
      p8_parts = refl;
      p9 = refl;
      p9_product = refl;
      p10 = refl;
      sample = λ k before after d. (whole_as sample_job k before after d sample_listing sample_text).1;
    }
