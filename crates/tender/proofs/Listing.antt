-- What is printed for a job: its listing is the lines of the statement, or the line of its refusal; and what each number in it is. Assumes nothing.
use mathlib.Core.Path.{◌≡◌, refl, sym, ap, ap₂, ◌∙◌, subst}
use Rattle.std.specs.Prelude.{Err}
use mathlib.Core.Bool.{Bool, true, false, cond}
use mathlib.Core.List.{List, [], ◌∷◌, ◌++◌, map, append_assoc, Memᴰ, Permᴰ}
use Prim.Native.Nat.{ℕ, zero, suc, ◌+◌, ◌-◌, ◌*◌, ◌%◌, ◌^◌, ◌≤◌, ◌<◌}
use native.Mathlib.Omega.{arith}
use lib.Dec.{T, eqb, leb, leb→le}
use borrow.Author.Tests.{leb-false}
use lib.IntN.{ℤ, pos, negsuc, nat_abs, ◌+ℤ◌, ◌*ℤ◌, zero-*ℤ}
use lib.ListN.{length, get_or}
use Rattle.meaning.specs.declared.Head.{Head}
use Rattle.meaning.specs.declared.Refusal.{Refusal}
use Rattle.meaning.specs.declared.Refusal.TheVariants as no
use Rattle.meaning.specs.declared.Row.{Row}
use Rattle.meaning.specs.Basics.{index_from, up_from, over, zeros, zeros_in}
use Rattle.meaning.specs.Calls.{Checks, Measures}
use Rattle.meaning.specs.Constants.{sign_of, shift_of, odd_of, apart, wanted}
use Rattle.meaning.specs.Digits.{csd_sum}
use Rattle.meaning.specs.Forms.{line_of, lines_of, bits_form, input_form, report_text, adders_form, csd_form, row_form, out_form}
use Rattle.meaning.specs.Graph.{rows, values, is_served, output_index}
use Rattle.meaning.specs.Job.{Asked, asks, malformed, job_of, natural, input_of, rows_of, job_order}
use Rattle.meaning.specs.Limits.{width_tests}
use Rattle.meaning.specs.Listing as meant
use Rattle.meaning.specs.Refusals.{Answer, Accepted, number, place_of, input_width, first_of, given, widths_written}
use Rattle.meaning.specs.Text.{bytes, text_of, value_of as digitValue}
use Rattle.meaning.specs.Widths.{extra_bits, row_width, output_width, InOrder, widths as meant-widths}
use Rattle.laws.proofs.Constants.Apart.{apart_whole}
use Rattle.laws.proofs.Graph.Rows.{length_values}
use Rattle.laws.proofs.Lists.Index.{at_map, index_lowest}
use Rattle.laws.proofs.Lists.Permutations.{perm_in}
use Rattle.laws.proofs.Lists.Tests.{up_in}
use Rattle.laws.proofs.Products.{served_index}
use Rattle.laws.proofs.Refusals.Checked.{good_of}
use Rattle.laws.proofs.Refusals.Stages.{first_accepts, need_accepts}
use Rattle.laws.proofs.Text.Forms.{line_with_lem}
use Rattle.laws.proofs.Text.Jobs.{asked_text, reply_by, positive}
use Rattle.laws.proofs.Text.Jobs as law
use Rattle.laws.proofs.Text.Listings.{order_permutes, ranking_any}
use Rattle.laws.proofs.Text.ReadBack.{leading_is, value_is, digits_only}
use Rattle.laws.proofs.Text.Room.{text_room_lem}
use Rattle.laws.proofs.Whole.Zeros.{zeros_left}
use Rattle.laws.proofs.Widths.Ranking.{ranking_ordered}
use Rattle.tender.specs.Table.{refused_line}
use Rattle.tender.specs.Grammar.{bits_line, input_line, report_line}
use Rattle.tender.specs.Listing.{head_lines, row_line, out_line, row_lines, out_lines, listing_for, worth_of, Decimal}
use Rattle.tender.specs.Words.{value_at, WidestFirst, Written}
use Rattle.tender.proofs.Condition2.{in_order_by}
use Rattle.tender.proofs.Condition3.{sum_is}

-- ---- the lines, each from its form

bits_line_lem : (z : ℤ) → line_of bits_form (z ∷ []) ≡ bits_line z
bits_line_lem z = line_with_lem [] (bytes "bits=" ∷ []) (z ∷ []) tt

input_line_lem : (z : ℤ) → line_of input_form (z ∷ []) ≡ input_line z
input_line_lem z = line_with_lem [] (bytes "input=" ∷ []) (z ∷ []) tt

report_line_lem : (by_width : Bool) → report_text by_width ≡ report_line by_width
report_line_lem true = refl
report_line_lem false = refl

-- the two lines of counts, behind those before them
count_lines : (done : List ℕ) (adders csd : ℕ) → done ++ line_of adders_form (pos adders ∷ []) ++ line_of csd_form (pos csd ∷ [])
    ≡ done ++ bytes "adders=" ++ text_of (pos adders) ++ bytes "\ncsd=" ++ text_of (pos csd) ++ bytes "\n"
count_lines done adders csd =
    let first : List ℕ = done ++ bytes "adders=" ++ text_of (pos adders) in
    ap (λ (l : List ℕ). l ++ line_of csd_form (pos csd ∷ [])) (line_with_lem done (bytes "adders=" ∷ []) (pos adders ∷ []) tt)
    ∙ line_with_lem (first ++ bytes "\n") (bytes "csd=" ∷ []) (pos csd ∷ []) tt
    ∙ ap (λ (l : List ℕ). l ++ text_of (pos csd) ++ bytes "\n") (append_assoc first (bytes "\n") (bytes "csd="))

head_lines_lem : (h : Head) (adders csd : ℕ) → meant.head_text h adders csd ≡ head_lines h adders csd
unfolding meant.head_text
head_lines_lem h adders csd =
    let front : List ℕ = bits_line h.bits ++ input_line h.input ++ report_line h.by_width in
    ap (λ (l : List ℕ). l ++ line_of adders_form (pos adders ∷ []) ++ line_of csd_form (pos csd ∷ []))
    (ap₂ ◌++◌ (ap₂ ◌++◌ (bits_line_lem h.bits) (input_line_lem h.input)) (report_line_lem h.by_width))
    ∙ count_lines front adders csd

-- a row's line: its width is w more than for an input of no bits
row_line_lem : (w i : ℕ) (x : Row) → line_of row_form (meant.row_numbers (pos w) i x) ≡ row_line i x (row_width w x.value)
unfolding meant.row_numbers
row_line_lem w i x =
    line_with_lem [] (bytes "row=" ∷ bytes " u=" ∷ bytes " v=" ∷ bytes " l1=" ∷ bytes " l2=" ∷ bytes " s=" ∷ bytes " r=" ∷ bytes " value=" ∷ bytes " width=" ∷ [])
    (meant.row_numbers (pos w) i x) tt
    ∙ ap (row_line i x) (omega arith)

row_lines_lem : (w : ℕ) (xs : List Row) (order : List ℕ) → lines_of row_form (meant.rows_by (pos w) xs order) ≡ row_lines w xs order
unfolding lines_of
row_lines_lem w xs [] = refl
row_lines_lem w xs (i ∷ order) = ap₂ ◌++◌ (row_line_lem w i (meant.nth_row xs i)) (row_lines_lem w xs order)

out_width_lem : (w : ℕ) (t : ℤ) → meant.out_width (pos w) t ≡ pos (output_width w t)
out_width_lem w t = go (eqb (nat_abs t) 0)
  where
    go : (b : Bool) → cond b (pos 1) (pos w +ℤ pos (cond b 1 (0 + extra_bits (nat_abs t)))) ≡ pos (cond b 1 (w + extra_bits (nat_abs t)))
    go true = refl
    go false = ap pos (omega arith)

out_line_lem : (w : ℕ) (vals : List ℕ) (k : ℕ) (t : ℤ)
    → line_of out_form (meant.out_numbers (pos w) vals k t) ≡ out_line k (output_index vals (odd_of t)) (shift_of t) (sign_of t) (output_width w t)
unfolding meant.out_numbers
out_line_lem w vals k t =
    line_with_lem [] (bytes "out=" ∷ bytes " row=" ∷ bytes " shift=" ∷ bytes " sign=" ∷ bytes " width=" ∷ []) (meant.out_numbers (pos w) vals k t) tt
    ∙ ap (λ (z : ℤ). bytes "out=" ++ text_of (pos k) ++ bytes " row=" ++ text_of (pos (output_index vals (odd_of t))) ++ bytes " shift=" ++ text_of (pos (shift_of t)) ++ bytes " sign="
    ++ text_of (sign_of t) ++ bytes " width=" ++ text_of z ++ bytes "\n") (out_width_lem w t)

out_lines_lem : (w : ℕ) (xs : List Row) (k : ℕ) (ts : List ℤ) → lines_of out_form (meant.outs_from (pos w) (values xs) k ts) ≡ out_lines w xs k ts
unfolding lines_of meant.outs_from
out_lines_lem w xs k [] = refl
out_lines_lem w xs k (t ∷ ts) = ap₂ ◌++◌ (out_line_lem w (values xs) k t) (out_lines_lem w xs (suc k) ts)

-- ---- the listing

-- of a job whose input width is not negative, as it is where 9 does not refuse it
pub listing_is : (j : Asked) (w : ℕ) → j.head.input ≡ pos w → meant.listing j ≡ listing_for j
unfolding meant.listing meant.listing_of
listing_is j w e =
    let xs : List Row = rows_of j in
    let order : List ℕ = meant.row_order j.head.by_width (values xs) in
    let back : w ≡ input_of j.head = sym (ap natural e) in
    ap₂ ◌++◌
    (ap₂ ◌++◌ (head_lines_lem j.head (length xs) (csd_sum (wanted j.targets)) ∙ ap (head_lines j.head (length xs)) (sum_is (wanted j.targets)))
    (ap (λ (z : ℤ). lines_of row_form (meant.rows_by z xs order)) e ∙ row_lines_lem w xs order ∙ ap (λ (n : ℕ). row_lines n xs order) back))
    (ap (λ (z : ℤ). lines_of out_form (meant.outs_from z (values xs) 1 j.targets)) e ∙ out_lines_lem w xs 1 j.targets ∙ ap (λ (n : ℕ). out_lines n xs 1 j.targets) back)

pub refused_is : (why : Refusal) → meant.refused_line why ≡ refused_line (number why) (place_of why)
unfolding meant.refused_line
refused_is why = line_with_lem [] (bytes "refused=" ∷ bytes " place=" ∷ []) (pos (number why) ∷ pos (place_of why) ∷ []) tt

-- ---- what is printed for a text

-- an input width that is accepted is not negative
input_is : (z : ℤ) → input_width (natural z) ≡ Accepted → z ≡ pos (natural z)
input_is z e = sym (positive z (omega (arith, leb→le 2 (natural z) (need_accepts no.Width (width_tests (natural z)) e).0)))

module _ (s : List ℕ) where
  told_text : (j : Asked) (a : Answer) → job_of s ≡ asks j → first_of (job_order j) ≡ a → meant.job_text s ≡ meant.or_refused a (meant.listing j)
  told_text j a e f = asked_text s j e ∙ reply_by j a f

  pub listed_text : (j : Asked) → job_of s ≡ asks j → first_of (job_order j) ≡ Accepted → meant.job_text s ≡ listing_for j
  listed_text j e f =
      told_text j Accepted e f ∙ listing_is j (input_of j.head) (input_is j.head.input (first_accepts (job_order j) f).1.1.1.1.0)

  pub refused_text : (j : Asked) (why : Refusal) → job_of s ≡ asks j → first_of (job_order j) ≡ Err why → meant.job_text s ≡ refused_line (number why) (place_of why)
  refused_text j why e f = told_text j (Err why) e f ∙ refused_is why

  pub malformed_text : (p : ℕ) → job_of s ≡ malformed p → meant.job_text s ≡ refused_line 12 p
  malformed_text p e = law.malformed_text s p e ∙ refused_is (no.Job p)

  pub text_fits : length (meant.job_text s) ≤ 8769
  text_fits = text_room_lem s

-- ---- the order of the row lines

pub rows_once : (by_width : Bool) (xs : List Row) → Permᴰ (meant.row_order by_width (values xs)) (up_from 1 (length xs))
rows_once by_width xs = subst (λ n. Permᴰ (meant.row_order by_width (values xs)) (up_from 1 n)) (length_values xs) (order_permutes by_width (values xs))

pub rows_by_width : (w : ℕ) (xs : List Row) → WidestFirst (λ k. row_width w (value_at xs k)) (meant.row_order true (values xs))
rows_by_width w xs =
    in_order_by _ _ (meant.row_order true (values xs))
    (λ k i. same k (up_in 1 (length xs) k (perm_in (rows_once true xs) k i)))
    (subst (InOrder (λ k. get_or (map (row_width w) (values xs)) (k - 1) 0)) (ranking_any w (values xs)) (ranking_ordered w (values xs)))
  where
    same : (k : ℕ) → (1 ≤ k) × (k < 1 + length xs) → get_or (map (row_width w) (values xs)) (k - 1) 0 ≡ row_width w (value_at xs k)
    same zero h = absurd (omega (arith, h.0))
    same (suc k) h =
        ap (λ i. get_or (map (row_width w) (values xs)) i 0) (let e : suc k - 1 ≡ k = omega arith in e)
        ∙ at_map (row_width w) (values xs) k 0 0 (omega (arith, length_values xs, h.1))

pub rows_by_number : (xs : List Row) → meant.row_order false (values xs) ≡ up_from 1 (length xs)
rows_by_number xs = ap (up_from 1) (length_values xs)

-- ---- the widths

pub widths : (b : ℕ) (ts : List ℤ) (n : ℕ) (w : List ℕ) (input : ℕ) (before after : List ℕ) → Measures b ts n w input Accepted before after
    → Written (map (row_width input) (values (rows n w)) ++ map (output_width input) ts) before after
unfolding widths_written meant-widths over
widths b ts n w input before after d =
    d.writes ∙ ap (λ (a : Answer). over (given a (meant-widths input (values (rows n w)) ts)) before) (sym d.answers)

-- ---- the out lines

-- of a served target
served_back : (vals : List ℕ) (t : ℤ) → odd_of t % 2 ≡ 1 → T (is_served vals t) → sign_of t *ℤ pos (2 ^ shift_of t * get_or (1 ∷ vals) (output_index vals (odd_of t)) 0) ≡ t
unfolding apart
served_back vals t o h = ap (λ (v : ℕ). sign_of t *ℤ pos (2 ^ shift_of t * v)) (served_index vals t o h).at ∙ sym (apart_whole t)

pub gives_target : (b : ℕ) (ts : List ℤ) (n : ℕ) (w : List ℕ) → Checks b ts n w Accepted → (t : ℤ) → Memᴰ t ts
    → sign_of t *ℤ pos (2 ^ shift_of t * value_at (rows n w) (output_index (values (rows n w)) (odd_of t))) ≡ t
gives_target b ts n w e t i = go t ((good_of b ts n w (sym e)).serves t i)
  where
    go : (t : ℤ) → T (is_served (values (rows n w)) t) → sign_of t *ℤ pos (2 ^ shift_of t * value_at (rows n w) (output_index (values (rows n w)) (odd_of t))) ≡ t
    go (pos zero) h = zero-*ℤ (pos (2 ^ shift_of (pos 0) * value_at (rows n w) (output_index (values (rows n w)) (odd_of (pos 0)))))
    go (pos (suc m)) h = served_back (values (rows n w)) (pos (suc m)) (zeros_left (suc m) (omega arith)) h
    go (negsuc m) h = served_back (values (rows n w)) (negsuc m) (zeros_left (suc m) (omega arith)) h

pub lowest_index : (xs : List Row) (t : ℤ) (i : ℕ) → i < output_index (values xs) (odd_of t) → ¬ (value_at xs i ≡ odd_of t)
unfolding output_index
lowest_index xs t i h e = go (leb (odd_of t) 1) refl i h e
  where
    go : (b : Bool) → leb (odd_of t) 1 ≡ b → (i : ℕ) → i < cond b 0 (index_from 1 (values xs) (odd_of t)) → ¬ (value_at xs i ≡ odd_of t)
    go true f i h e = omega arith
    go false f zero h e = omega (arith, leb-false (odd_of t) 1 f)
    go false f (suc i) h e = index_lowest 1 (values xs) (odd_of t) i (omega arith) e

pub zero_index : (xs : List Row) → output_index (values xs) (odd_of (pos 0)) ≡ 0
unfolding output_index zeros zeros_in
zero_index xs = refl

-- ---- numbers in decimal

worth_is : (v : ℕ) (ds : List ℕ) → worth_of v ds ≡ digitValue v ds
worth_is v [] = refl
worth_is v (c ∷ cs) = ap (λ (n : ℕ). worth_of (n + (c - 48)) cs) (omega arith) ∙ worth_is (v * 10 + (c - 48)) cs

pub numbers : (n : ℕ) → n < 2 ^ 64 → Decimal n (text_of (pos n))
numbers n h =
    let l = leading_is n h in
    record {
      some = l.some;
      digits = λ c i. let (low, high) = digits_only n c i in (low, omega arith);
      worth = worth_is 0 (text_of (pos n)) ∙ value_is n h;
      plain = λ e. l.short (low (λ p. omega (arith, l.lead p)));
    }
  where
    low : (0 < n → ⊥) → n < 10
    low f = omega arith

pub negative_numbers : (n : ℕ) → text_of (negsuc n) ≡ 45 ∷ text_of (pos (suc n))
negative_numbers n = refl
