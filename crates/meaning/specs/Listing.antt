-- The listing of a job, line by line, and the whole of what is printed for a job's text. Assumes nothing.
use Rattle.std.specs.Prelude.{Bool, cond, List, [], ◌∷◌, ◌++◌, map, ℕ, suc, ◌+◌, ◌-◌, ◌*◌, eqb, ℤ, pos, nat_abs, ◌+ℤ◌, length, get_or, Result, Ok, Err}
use Rattle.meaning.specs.declared.Head.{Head}
use Rattle.meaning.specs.declared.Refusal.{Refusal}
use Rattle.meaning.specs.declared.Refusal.TheVariants as no
use Rattle.meaning.specs.declared.Row.{Row}
use Rattle.meaning.specs.Basics.{up_from}
use Rattle.meaning.specs.Limits.{most_rows, most_targets}
use Rattle.meaning.specs.Constants.{sign_of, shift_of, odd_of, wanted}
use Rattle.meaning.specs.Digits.{csd_sum}
use Rattle.meaning.specs.Graph.{words, row_at, rows, values, output_index}
use Rattle.meaning.specs.Widths.{row_width, output_width, ranking}
use Rattle.meaning.specs.Refusals.{Answer, number, place_of, buffer, first_of, told, given}
use Rattle.meaning.specs.Forms.{line_of, lines_of, bits_form, input_form, report_text, adders_form, csd_form, row_form, out_form, refused_form}
use Rattle.meaning.specs.Job.{Asked, Job, asks, malformed, job_of, job_order, rows_of}

-- what a listing lists: any rows, and any targets
pub record Listed : Type 0 where
  pub head : Head
  pub rows : List Row
  pub targets : List ℤ

-- the five lines above the rows: `adders` is the row count, `csd` condition 3's sum
unfoldable pub head_text : Head → ℕ → ℕ → List ℕ
head_text h adders csd =
    line_of bits_form (h.bits ∷ []) ++ line_of input_form (h.input ∷ []) ++ report_text h.by_width ++ line_of adders_form (pos adders ∷ [])
    ++ line_of csd_form (pos csd ∷ [])

-- ---- the numbers of the row lines and of the out lines. The input width is any whole number w: widths are w bits more than for an input of none,
-- and the ranking is the same for all of them

-- the numbers of rows of these values, by the ranking or by row number
abbrev pub row_order : Bool → List ℕ → List ℕ
row_order by_width vals = cond by_width (ranking 0 vals) (up_from 1 (length vals))

-- row i, from 1
abbrev pub nth_row : List Row → ℕ → Row
nth_row xs i = get_or xs (i - 1) (row_at [] 0)

-- of a row as row i
unfoldable pub row_numbers : ℤ → ℕ → Row → List ℤ
row_numbers w i x = pos i ∷ (map pos (words x) ++ ((w +ℤ pos (row_width 0 x.value)) ∷ []))

-- of the rows in an order
abbrev pub rows_by : ℤ → List Row → List ℕ → List (List ℤ)
rows_by w xs order = map (λ i. row_numbers w i (nth_row xs i)) order

-- an output's width: for a zero target it is 1
abbrev pub out_width : ℤ → ℤ → ℤ
out_width w t = cond (eqb (nat_abs t) 0) (pos 1) (w +ℤ pos (output_width 0 t))

-- of target k, over the rows' values
unfoldable pub out_numbers : ℤ → List ℕ → ℕ → ℤ → List ℤ
out_numbers w vals k t = pos k ∷ pos (output_index vals (odd_of t)) ∷ pos (shift_of t) ∷ sign_of t ∷ out_width w t ∷ []

-- of the targets from number k on
unfoldable pub outs_from : ℤ → List ℕ → ℕ → List ℤ → List (List ℤ)
outs_from w vals k [] = []
outs_from w vals k (t ∷ ts) = out_numbers w vals k t ∷ outs_from w vals (suc k) ts

-- ---- the whole

unfoldable pub listing_of : Listed → List ℕ
listing_of l =
    let w : ℤ = l.head.input in
    let xs : List Row = l.rows in
    head_text l.head (length xs) (csd_sum (wanted l.targets))
    ++ lines_of row_form (rows_by w xs (row_order l.head.by_width (values xs)))
    ++ lines_of out_form (outs_from w (values xs) 1 l.targets)

-- of n rows in a slice
abbrev pub graph_in : Head → List ℤ → ℕ → List ℕ → Listed
graph_in h ts n w = record { head = h; rows = rows n w; targets = ts }

-- of a job: that of its generated rows
unfoldable pub listing : Asked → List ℕ
listing j = listing_of (record { head = j.head; rows = rows_of j; targets = j.targets })

unfoldable pub refused_line : Refusal → List ℕ
refused_line why = line_of refused_form (pos (number why) ∷ pos (place_of why) ∷ [])

-- ---- what is printed for a job's text: the listing, or the line of its refusal

abbrev pub or_refused : Answer → List ℕ → List ℕ
or_refused (Ok _) text = text
or_refused (Err why) text = refused_line why

unfoldable pub reply_to : Asked → List ℕ
reply_to j = or_refused (first_of (job_order j)) (listing j)

abbrev pub answer_of : Job → List ℕ
answer_of (malformed place) = refused_line (no.Job place)
answer_of (asks j) = reply_to j

unfoldable pub job_text : List ℕ → List ℕ
job_text s = answer_of (job_of s)

-- ---- how much room that takes: each form with as many digits as its numbers can have in a graph that the check accepts

-- 26 bytes, and 2 digits of b and of w, 3 of the row count and of the sum; and the report line's 13. The line of a refusal is shorter
abbrev pub head_room : ℕ
head_room = 49

-- 39 bytes; 3 digits of the index, of u and of v, 2 of l1 and of l2, 1 of s, 2 of r, 6 of a value below 2 ^ 19, and 2 of the width
abbrev pub row_line_room : ℕ
row_line_room = 63

-- 30 bytes; 2 digits of the number, 3 of the index, 2 of the shift, the sign with its minus, and 2 digits of the width
abbrev pub out_line_room : ℕ
out_line_room = 41

-- a lent buffer of this many bytes holds every text that can be printed
abbrev pub text_room : ℕ
text_room = head_room + most_rows * row_line_room + most_targets * out_line_room

-- the call: refusal 4 for a shorter buffer, before all others, and then nothing is written
unfoldable pub printed_told : List ℕ → ℕ → Result ℕ Refusal
printed_told s room = told (buffer text_room room) (length (job_text s))

unfoldable pub text_written : List ℕ → ℕ → List ℕ
text_written s room = given (buffer text_room room) (job_text s)
