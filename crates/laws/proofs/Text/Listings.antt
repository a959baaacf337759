-- Listings: the order of the row lines, and how much room the listing of a graph takes that is not refused. Assumes nothing.
use mathlib.Core.Path.{◌≡◌, refl, ap, ap₂, ◌∙◌, subst⁻¹}
use mathlib.Core.Bool.{Bool, true, false, cond}
use mathlib.Core.List.Memᴰ
use mathlib.Core.List.Permᴰ
use mathlib.Core.List.{List, [], ◌∷◌, map, Memᴰ, Permᴰ}
use mathlib.Core.Logic.{⊎_elim}
use Prim.Native.Nat.{ℕ, zero, suc, ◌+◌, ◌-◌, ◌*◌, ◌^◌, ◌≤◌, ◌<◌}
use native.Mathlib.Omega.{arith}
use lib.Dec.{eqb, leb}
use lib.IntN.{ℤ, pos, negsuc, nat_abs, ◌+ℤ◌}
use lib.ListN.{length, get_or, length-append, length-map}
use lib.Pow.{pow_mono}
use borrow.Author.Tests.{le-leb, lt-leb, leb-true, leb-false}
use mir.Syntax.{w32}
use mir.Val.{SFits}
use Rattle.meaning.specs.declared.Refusal.{Refusal}
use Rattle.meaning.specs.declared.Refusal.TheVariants as no
use Rattle.meaning.specs.declared.Row.{Row}
use Rattle.meaning.specs.Basics.{up_from, index_from, zeros, zeros_in}
use Rattle.meaning.specs.Constants.{sign_of, shift_of, odd_of, wanted}
use Rattle.meaning.specs.Digits.{csd_sum}
use Rattle.meaning.specs.Forms.{line_of, lines_of, bits_form, input_form, report_text, adders_form, csd_form, row_form, out_form, refused_form}
use Rattle.meaning.specs.Graph.{row_at, row_after, rows, values, output_index, Sound}
use Rattle.meaning.specs.Limits.{limit, most_limit, most_rows, most_targets}
use Rattle.meaning.specs.Listing.{head_text, row_order, nth_row, row_numbers, rows_by, out_numbers, outs_from, listing_of, graph_in, refused_line, head_room, row_line_room, out_line_room, text_room}
use Rattle.meaning.specs.Refusals.{number, place_of}
use Rattle.meaning.specs.Text.{unsigned_text}
use Rattle.meaning.specs.Widths.{extra_bits, row_width, Ranked, place, ranked_from, ranking}
use Rattle.laws.proofs.Refusals.Checked.{GoodWidth}
use Rattle.laws.proofs.Lists.Index.{index_inside}
use Rattle.laws.proofs.Text.Forms.{Short, short_number, line_room, lines_room}
use Rattle.laws.proofs.Graph.Rows.{length_rows, length_values, row_of, sound_at}
use Rattle.laws.proofs.Graph.Bounds.{odds_ready, fits_low}
use Rattle.laws.proofs.Widths.Ranking.{ranking_permutes}
use Rattle.laws.proofs.Lists.First.{up_length}
use Rattle.laws.proofs.Lists.Tests.{up_in}
use Rattle.laws.proofs.Lists.Permutations.{perm_in, perm_length}
use Rattle.laws.proofs.Constants.Wanted.{sum_most}
use Rattle.laws.proofs.Widths.Extra.{extra_least}
use Rattle.laws.proofs.Whole.Zeros.{zeros_low}

-- ---- the order of the row lines: a permutation of the row numbers

pub order_permutes : (by_width : Bool) (vals : List ℕ) → Permᴰ (row_order by_width vals) (up_from 1 (length vals))
order_permutes true vals = ranking_permutes 0 vals
order_permutes false vals = Permᴰ.refl (up_from 1 (length vals))

pub order_length : (by_width : Bool) (vals : List ℕ) → length (row_order by_width vals) ≡ length vals
order_length by_width vals = perm_length (order_permutes by_width vals) ∙ up_length 1 (length vals)

pub order_in : (by_width : Bool) (vals : List ℕ) (i : ℕ) → Memᴰ i (row_order by_width vals) → (1 ≤ i) × (i ≤ length vals)
order_in by_width vals i m = let (low, high) = up_in 1 (length vals) i (perm_in (order_permutes by_width vals) i m) in (low, omega arith)

-- ---- the ranking is the same for every input width

shift : ℕ → List Ranked → List Ranked
shift w [] = []
shift w (y ∷ ys) = record { row = y.row; width = w + y.width } ∷ shift w ys

leb_shift : (w m n : ℕ) → leb (w + m) (w + n) ≡ leb m n
leb_shift w m n = go (leb m n) refl
  where
    go : (b : Bool) → leb m n ≡ b → leb (w + m) (w + n) ≡ b
    go true e = let h = leb-true m n e in le-leb (w + m) (w + n) (omega arith)
    go false e = let h = leb-false m n e in lt-leb (w + m) (w + n) (omega arith)

place_shift : (w k e : ℕ) (ys : List Ranked) → place (record { row = k; width = w + e }) (shift w ys) ≡ shift w (place (record { row = k; width = e }) ys)
unfolding place shift
place_shift w k e [] = refl
place_shift w k e (y ∷ ys) = rw (leb_shift w y.width e) (go (leb y.width e) (place_shift w k e ys))
  where
    go : (b : Bool) → place (record { row = k; width = w + e }) (shift w ys) ≡ shift w (place (record { row = k; width = e }) ys)
        → cond b (record { row = k; width = w + e } ∷ shift w (y ∷ ys)) (record { row = y.row; width = w + y.width } ∷ place (record { row = k; width = w + e }) (shift w ys))
        ≡ shift w (cond b (record { row = k; width = e } ∷ y ∷ ys) (y ∷ place (record { row = k; width = e }) ys))
    go true q = refl
    go false q = ap (λ r. record { row = y.row; width = w + y.width } ∷ r) q

ranked_shift : (w k : ℕ) (vals : List ℕ) → ranked_from k (map (row_width w) vals) ≡ shift w (ranked_from k (map (row_width 0) vals))
unfolding ranked_from shift
ranked_shift w k [] = refl
ranked_shift w k (v ∷ vals) =
    let e : w + extra_bits v ≡ w + (0 + extra_bits v) = omega arith in
    ap₂ (λ (n : ℕ) (r : List Ranked). place (record { row = k; width = n }) r) e (ranked_shift w (suc k) vals)
    ∙ place_shift w k (0 + extra_bits v) (ranked_from (suc k) (map (row_width 0) vals))

shift_rows : (w : ℕ) (ys : List Ranked) → map (λ y. y.row) (shift w ys) ≡ map (λ y. y.row) ys
unfolding shift
shift_rows w [] = refl
shift_rows w (y ∷ ys) = ap (λ r. y.row ∷ r) (shift_rows w ys)

pub ranking_any : (w : ℕ) (vals : List ℕ) → ranking w vals ≡ ranking 0 vals
unfolding ranking
ranking_any w vals = ap (map (λ y. y.row)) (ranked_shift w 1 vals) ∙ shift_rows w (ranked_from 1 (map (row_width 0) vals))

-- ---- how much room a line takes

bits_most : (k v : ℕ) → v ≤ 2 ^ k → extra_bits v ≤ k
bits_most k v h = (extra_least v).least k h

pub refused_room : (why : Refusal) → place_of why < 2 ^ 32 → length (refused_line why) ≤ head_room
unfolding refused_line
refused_room why h =
    omega (
      arith,
      line_room refused_form (1 ∷ 9 ∷ []) (pos (number why) ∷ pos (place_of why) ∷ [])
          (short_number 1 (number why) (numbers why), (short_number 9 (place_of why) (omega arith), tt)),
    )
  where
    numbers : (y : Refusal) → number y < 100
    numbers no.Bits = omega arith
    numbers no.List = omega arith
    numbers (no.OddPart p) = omega arith
    numbers no.Buffer = omega arith
    numbers no.RowCount = omega arith
    numbers (no.Row p) = omega arith
    numbers (no.Unserved p) = omega arith
    numbers no.TooManyRows = omega arith
    numbers no.Width = omega arith
    numbers (no.Ready p) = omega arith
    numbers no.Target = omega arith
    numbers (no.Job p) = omega arith

sign_short : (t : ℤ) → Short 1 (sign_of t)
unfolding unsigned_text
sign_short (pos zero) = record { short = omega arith }
sign_short (pos (suc n)) = record { short = omega arith }
sign_short (negsuc n) = record { short = omega arith }

shift_most : (n : ℕ) → n ≤ 2 ^ 31 → zeros n < 100
shift_most zero h = unfold zeros zeros_in in omega arith
shift_most (suc n) h = let k = zeros_low 32 (suc n) (omega arith) (omega arith) in omega arith

pub index_most : (vals : List ℕ) (odd : ℕ) → output_index vals odd ≤ length vals
unfolding output_index
index_most vals odd = go (leb odd 1) (omega (arith, index_inside 1 vals odd (omega arith)))
  where
    go : (b : Bool) → index_from 1 vals odd ≤ length vals → cond b 0 (index_from 1 vals odd) ≤ length vals
    go true k = omega arith
    go false k = k

pub magnitude_most : (t : ℤ) → SFits w32 t → nat_abs t ≤ 2 ^ 31
magnitude_most (pos n) h = let k : n < 2 ^ 31 = h.sfits in omega arith
magnitude_most (negsuc n) h = let k : n < 2 ^ 31 = h.sfits in omega arith

-- an out line, for an input of at most 32 bits
out_room : (input : ℕ) (vals : List ℕ) (k : ℕ) (t : ℤ) → input ≤ 32 → length vals ≤ most_rows → k ≤ most_targets → SFits w32 t
    → length (line_of out_form (out_numbers (pos input) vals k t)) ≤ out_line_room
unfolding out_numbers
out_room input vals k t w few low f =
    let m : nat_abs t ≤ 2 ^ 31 = magnitude_most t f in
    let e : extra_bits (nat_abs t) ≤ 31 = bits_most 31 (nat_abs t) m in
    let i : output_index vals (odd_of t) ≤ length vals = index_most vals (odd_of t) in
    omega (
      arith,
      line_room out_form (1 ∷ 2 ∷ 1 ∷ 1 ∷ 1 ∷ []) (out_numbers (pos input) vals k t)
          (short_number 1 k (omega arith), (short_number 2 _ (omega arith), (short_number 1 (shift_of t) (shift_most (nat_abs t) m), (sign_short t, (wide (eqb (nat_abs t) 0) e, tt))))),
    )
  where
    wide : (b : Bool) → extra_bits (nat_abs t) ≤ 31 → Short 1 (cond b (pos 1) (pos input +ℤ pos (cond b 1 (0 + extra_bits (nat_abs t)))))
    wide true e = short_number 1 1 (omega arith)
    wide false e = short_number 1 (input + (0 + extra_bits (nat_abs t))) (omega arith)

-- the line of row i of a graph that is not refused
row_room : (L n : ℕ) (ws : List ℕ) (input i : ℕ) → 1 ≤ L → L ≤ most_limit → n ≤ most_rows → input ≤ 32 → Sound L [] (rows n ws) → 1 ≤ i → i ≤ n
    → length (line_of row_form (row_numbers (pos input) i (nth_row (rows n ws) i))) ≤ row_line_room
unfolding row_numbers
row_room L n ws input i one most few w s low high =
    let x : Row = row_after ws (i - 1) in
    let (before, fits) = sound_at L n ws (i - 1) s (omega arith) in
    let r = (fits_low L (rows (i - 1) ws) x (odds_ready L (rows (i - 1) ws) one before) fits).shift in
    let p : 2 ^ L ≤ 2 ^ 19 = pow_mono {i = L} {j = 19} most in
    let below = fits.operation.outcome.below in
    let e : extra_bits x.value ≤ 19 = bits_most 19 x.value (omega arith) in
    let count = length_values (rows (i - 1) ws) ∙ length_rows (i - 1) ws in
    let u = fits.first in
    let v = fits.second in
    let o = fits.operation in
    rw (row_of n ws (i - 1) (row_at [] 0) (omega arith))
    (omega (
      arith,
      line_room row_form (2 ∷ 2 ∷ 2 ∷ 1 ∷ 1 ∷ 0 ∷ 1 ∷ 5 ∷ 1 ∷ []) (row_numbers (pos input) i x) (
        short_number 2 i (omega arith),
        (
          short_number 2 x.u (omega arith),
          (
            short_number 2 x.v (omega arith),
            (
              short_number 1 x.l1 (omega arith),
              (
                short_number 1 x.l2 (omega arith),
                (
                  short_number 0 x.s (omega arith),
                  (
                    short_number 1 x.r (omega arith),
                    (
                      short_number 5 x.value (omega arith),
                      (short_number 1 (input + (0 + extra_bits x.value)) (omega arith), tt),
                    ),
                  ),
                ),
              ),
            ),
          ),
        ),
      ),
    ))

-- ---- how much room the listing takes

in_map : {A B : Type 0} (f : A → B) (xs : List A) (y : B) → Memᴰ y (map f xs) → (x : A) × Memᴰ x xs × (y ≡ f x)
in_map f [] y i = absurd (Memᴰ.not-nil i)
in_map f (x ∷ xs) y i = ⊎_elim (λ e. (x, Memᴰ.head refl, e)) (λ j. let (z, m, e) = in_map f xs y j in (z, Memᴰ.tail m, e)) (Memᴰ.cases_cons i)

module _ (input : ℕ) (w : input ≤ 32) where
  rows_room : (L n : ℕ) (ws : List ℕ) (order : List ℕ) → 1 ≤ L → L ≤ most_limit → n ≤ most_rows → Sound L [] (rows n ws)
      → ((i : ℕ) → Memᴰ i order → (1 ≤ i) × (i ≤ n)) → length order ≡ n
      → length (lines_of row_form (rows_by (pos input) (rows n ws) order)) ≤ most_rows * row_line_room
  rows_room L n ws order one most few s inside all =
      let f : ℕ → List ℤ = λ i. row_numbers (pos input) i (nth_row (rows n ws) i) in
      omega (
        arith,
        lines_room row_form row_line_room (map f order) (λ zs m. let (i, k, e) = in_map f order zs m in let (low, high) = inside i k in
            subst⁻¹ (λ ys. length (line_of row_form ys) ≤ row_line_room) e (row_room L n ws input i one most few w s low high)),
        length-map order f,
      )

  outs_room : (vals : List ℕ) (k : ℕ) (ts : List ℤ) → length vals ≤ most_rows → k + length ts ≤ suc most_targets
      → ((i : ℕ) → SFits w32 (get_or ts i (pos 0))) → length (lines_of out_form (outs_from (pos input) vals k ts)) ≤ out_line_room * length ts
  unfolding outs_from lines_of
  outs_room vals k [] few low f = omega arith
  outs_room vals k (t ∷ ts) few low f =
      omega (
        arith,
        out_room input vals k t w few (omega arith) (f 0),
        outs_room vals (suc k) ts few (omega arith) (λ i. f (suc i)),
        length-append (line_of out_form (out_numbers (pos input) vals k t)) (lines_of out_form (outs_from (pos input) vals (suc k) ts)),
      )

report_room : (b : Bool) → length (report_text b) ≤ 13
report_room true = omega arith
report_room false = omega arith

head_room_lem : (b input : ℕ) (by_width : Bool) (xs : List Row) (ts : List ℤ) → b ≤ 16 → input ≤ 32 → length xs ≤ most_rows → csd_sum (wanted ts) ≤ most_rows
    → length (head_text (record { bits = pos b; input = pos input; by_width = by_width }) (length xs) (csd_sum (wanted ts))) ≤ head_room
unfolding head_text
head_room_lem b input by_width xs ts h1 h2 h4 h5 =
    let l1 = line_room bits_form (1 ∷ []) (pos b ∷ []) (short_number 1 b (omega arith), tt) in
    let l2 = line_room input_form (1 ∷ []) (pos input ∷ []) (short_number 1 input (omega arith), tt) in
    let l3 = report_room by_width in
    let l4 = line_room adders_form (2 ∷ []) (pos (length xs) ∷ []) (short_number 2 (length xs) (omega arith), tt) in
    let l5 = line_room csd_form (2 ∷ []) (pos (csd_sum (wanted ts)) ∷ []) (short_number 2 (csd_sum (wanted ts)) (omega arith), tt) in
    simp length-append (omega arith)

-- a graph that the check accepts, and an input of 2 to 32 bits
pub listing_room : (b : ℕ) (ts : List ℤ) (n : ℕ) (ws : List ℕ) (input : ℕ) (by_width : Bool) → GoodWidth b ts n ws input → ((i : ℕ) → SFits w32 (get_or ts i (pos 0)))
    → length (listing_of (graph_in (record { bits = pos b; input = pos input; by_width = by_width }) ts n ws)) ≤ text_room
unfolding listing_of
listing_room b ts n ws input by_width g f =
    let c = g.good in
    let a = c.admits in
    let xs : List Row = rows n ws in
    let count : length xs ≡ n = length_rows n ws in
    let vals : length (values xs) ≡ n = length_values xs ∙ count in
    let few : n ≤ most_rows = c.room.0 in
    let (b1, b2) = a.bits in
    let (t1, t2) = a.list in
    let (w1, w2) = g.width in
    let h = head_room_lem b input by_width xs ts b2 w2 (omega arith) (sum_most b ts a) in
    let r = rows_room input w2 (limit b) n ws (row_order by_width (values xs)) (omega arith) (omega arith) few c.sound
    (λ i m. let (low, high) = order_in by_width (values xs) i m in (low, omega arith)) (order_length by_width (values xs) ∙ vals) in
    let o = outs_room input w2 (values xs) 1 ts (omega arith) (omega arith) f in
    simp length-append (omega arith)
