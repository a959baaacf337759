-- The listing: what is printed for a job that is not refused, line by line, and what each of its numbers is. Assumes nothing.
use Rattle.std.specs.Prelude.{◌≡◌, Bool, true, false, ℕ, suc, ◌+◌, ◌-◌, ◌*◌, ◌^◌, ◌≤◌, ◌<◌, ℤ, pos, negsuc, ◌*ℤ◌, length, get_or, Ok}
use Rattle.meaning.specs.Refusals.{Accepted}
use mathlib.Core.List.{List, [], ◌∷◌, ◌++◌, map, Memᴰ, Permᴰ}
use Rattle.meaning.specs.declared.Head.{Head}
use Rattle.meaning.specs.declared.Row.{Row}
use Rattle.meaning.specs.Basics.{up_from}
use Rattle.meaning.specs.Constants.{sign_of, shift_of, odd_of, wanted}
use Rattle.meaning.specs.Graph.{rows, output_index}
use Rattle.meaning.specs.Generator.{generated}
use Rattle.meaning.specs.Widths.{row_width, output_width}
use Rattle.meaning.specs.Text.{bytes, text_of}
use Rattle.meaning.specs.Job.{Asked, natural}
use Rattle.meaning.specs.Listing.{row_order}
use Rattle.meaning.specs.Calls.{Checks, Measures, Prints}
use Rattle.tender.specs.Words.{row_in, values_of, value_at, WidestFirst, Written, digit_sum}
use Rattle.tender.specs.Grammar.{bits_line, input_line, report_line, AsksFor}
use Rattle.tender.specs.Table.{JobRefused}

-- ---- numbers in decimal

-- what digits are worth, after those before them
abbrev pub worth_of : ℕ → List ℕ → ℕ
worth_of v [] = v
worth_of v (c ∷ cs) = worth_of (10 * v + (c - 48)) cs

-- the digits of n, and no zero in front of others
pub record Decimal (n : ℕ) (text : List ℕ) : Type 0 where
  pub some : 1 ≤ length text
  pub digits : (c : ℕ) → Memᴰ c text → (48 ≤ c) × (c ≤ 57)
  pub worth : worth_of 0 text ≡ n
  pub plain : get_or text 0 0 ≡ 48 → length text ≡ 1

-- ---- the lines

abbrev pub head_lines : Head → (adders csd : ℕ) → List ℕ
head_lines h adders csd =
    bits_line h.bits ++ input_line h.input ++ report_line h.by_width ++ bytes "adders=" ++ text_of (pos adders) ++ bytes "\ncsd=" ++ text_of (pos csd)
    ++ bytes "\n"

-- a row's index, its seven words and its width
abbrev pub row_line : ℕ → Row → ℕ → List ℕ
row_line i x width =
    bytes "row=" ++ text_of (pos i)
    ++ bytes " u=" ++ text_of (pos x.u)
    ++ bytes " v=" ++ text_of (pos x.v)
    ++ bytes " l1=" ++ text_of (pos x.l1)
    ++ bytes " l2=" ++ text_of (pos x.l2)
    ++ bytes " s=" ++ text_of (pos x.s)
    ++ bytes " r=" ++ text_of (pos x.r)
    ++ bytes " value=" ++ text_of (pos x.value)
    ++ bytes " width=" ++ text_of (pos width) ++ bytes "\n"

-- a target's number, the index used, its shift, sign and width
abbrev pub out_line : (k index shift : ℕ) (sign : ℤ) (width : ℕ) → List ℕ
out_line k index shift sign width =
    bytes "out=" ++ text_of (pos k)
    ++ bytes " row=" ++ text_of (pos index)
    ++ bytes " shift=" ++ text_of (pos shift)
    ++ bytes " sign=" ++ text_of sign
    ++ bytes " width=" ++ text_of (pos width) ++ bytes "\n"

-- those of the rows of these numbers, for inputs of w bits
abbrev pub row_lines : ℕ → List Row → List ℕ → List ℕ
row_lines w xs [] = []
row_lines w xs (i ∷ order) = let x = get_or xs (i - 1) (row_in [] 0) in row_line i x (row_width w x.value) ++ row_lines w xs order

-- those of the targets from number k on
abbrev pub out_lines : ℕ → List Row → ℕ → List ℤ → List ℕ
out_lines w xs k [] = []
out_lines w xs k (t ∷ ts) =
    out_line k (output_index (values_of xs) (odd_of t)) (shift_of t) (sign_of t) (output_width w t) ++ out_lines w xs (suc k) ts

-- of a job: over the generated rows, with condition 3's two numbers
abbrev pub listing_for : Asked → List ℕ
listing_for j =
    let xs = generated (natural j.head.bits) j.targets in
    let w = natural j.head.input in
    head_lines j.head (length xs) (digit_sum (wanted j.targets))
    ++ row_lines w xs (row_order j.head.by_width (values_of xs))
    ++ out_lines w xs 1 j.targets

pub record Listing : Type 0 where
  -- this is printed for a text that asks for j and is not refused
  pub prints : (s : List ℕ) (j : Asked) (k : ℕ) (before after : List ℕ) → Prints s (Ok k) before after → AsksFor s j
      → ((N P : ℕ) → ¬ (JobRefused s N P)) → (k ≡ length (listing_for j)) × Written (listing_for j) before after
  -- each row has one line: widest first, equal widths by lower row; or by row number
  pub rows_once : (by_width : Bool) (xs : List Row) → Permᴰ (row_order by_width (values_of xs)) (up_from 1 (length xs))
  pub rows_by_width : (w : ℕ) (xs : List Row) → WidestFirst (λ k. row_width w (value_at xs k)) (row_order true (values_of xs))
  pub rows_by_number : (xs : List Row) → row_order false (values_of xs) ≡ up_from 1 (length xs)
  -- the widths are those that `measure` writes
  pub widths : (b : ℕ) (ts : List ℤ) (n : ℕ) (w : List ℕ) (input : ℕ) (before after : List ℕ) → Measures b ts n w input Accepted before after
      → Written (map (row_width input) (values_of (rows n w)) ++ map (output_width input) ts) before after
  -- an out line's sign, shift and index give back the target, by the lowest index that does; for a zero target it is 0
  pub gives_target : (b : ℕ) (ts : List ℤ) (n : ℕ) (w : List ℕ) → Checks b ts n w Accepted → (t : ℤ) → Memᴰ t ts
      → sign_of t *ℤ pos (2 ^ shift_of t * value_at (rows n w) (output_index (values_of (rows n w)) (odd_of t))) ≡ t
  pub lowest_index : (xs : List Row) (t : ℤ) (i : ℕ) → i < output_index (values_of xs) (odd_of t) → ¬ (value_at xs i ≡ odd_of t)
  pub zero_index : (xs : List Row) → output_index (values_of xs) (odd_of (pos 0)) ≡ 0
  -- texts are ASCII, and numbers are in decimal
  pub letters : bytes "abcdefghijklmnopqrstuvwxyz" ≡ up_from 97 26
  pub digits : bytes "0123456789" ≡ up_from 48 10
  pub signs : bytes "\n ,-=" ≡ 10 ∷ 32 ∷ 44 ∷ 45 ∷ 61 ∷ []
  pub numbers : (n : ℕ) → n < 2 ^ 64 → Decimal n (text_of (pos n))
  pub negative_numbers : (n : ℕ) → text_of (negsuc n) ≡ 45 ∷ text_of (pos (suc n))
