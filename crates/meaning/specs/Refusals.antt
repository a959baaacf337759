-- Numbers handed back on refusal: the table, the order in which each call looks, and what it writes. Assumes nothing.
use Rattle.std.specs.Prelude.{◌≡◌, Bool, ◌&&◌, cond, List, [], ◌∷◌, ◌++◌, ℕ, ◌+◌, ◌*◌, ◌%◌, ◌^◌, leb, ltb, eqb, ℤ, length, ⊤, Result, Ok, Err}
use Rattle.meaning.specs.declared.Far.{Far}
use Rattle.meaning.specs.declared.Row.{Row}
use Rattle.meaning.specs.declared.Refusal.{Refusal}
use Rattle.meaning.specs.declared.Refusal.TheVariants as no
use Rattle.meaning.specs.Basics.{all, over}
use Rattle.meaning.specs.Limits.{between, bit_tests, limit, most_targets, most_rows, most_ready, width_tests}
use Rattle.meaning.specs.Constants.{odd_of, apart, part_words}
use Rattle.meaning.specs.Graph.{row_length, row_tests, rows, flat, values, does_fit, is_served}
use Rattle.meaning.specs.Distance.{distance}
use Rattle.meaning.specs.Digits.{nonzeros, form_of, form_words}
use Rattle.meaning.specs.Generator.{generated}
use Rattle.meaning.specs.Products.{target_products}
use Rattle.meaning.specs.Widths.{widths, ranking}

-- ---- the numbers and places

abbrev pub number : Refusal → ℕ
number no.Bits = 1
number no.List = 2
number (no.OddPart p) = 3
number no.Buffer = 4
number no.RowCount = 5
number (no.Row p) = 6
number (no.Unserved p) = 7
number no.TooManyRows = 8
number no.Width = 9
number (no.Ready p) = 10
number no.Target = 11
number (no.Job p) = 12

-- places count from 1; 0 where there is none
abbrev pub place_of : Refusal → ℕ
place_of no.Bits = 0
place_of no.List = 0
place_of (no.OddPart p) = p
place_of no.Buffer = 0
place_of no.RowCount = 0
place_of (no.Row p) = p
place_of (no.Unserved p) = p
place_of no.TooManyRows = 0
place_of no.Width = 0
place_of (no.Ready p) = p
place_of no.Target = 0
place_of (no.Job p) = p

-- ---- the situations

-- what a call or one of its stages answers: accepted, or a refusal
abbrev pub Answer : Type 0
Answer = Result ⊤ Refusal

abbrev pub Accepted : Answer
Accepted = Ok tt

-- refused unless every test passes
abbrev pub need : Refusal → List Bool → Answer
need why tests = cond (all tests) Accepted (Err why)

-- refused at the first member that fails a test, which may look at the members before it; its place counts from 1
unfoldable pub need_each : {A : Type 0} → (ℕ → Refusal) → (List A → A → Bool) → List A → List A → Answer
need_each why test before [] = Accepted
need_each why test before (x ∷ xs) = cond (test before x) (need_each why test (before ++ (x ∷ [])) xs) (Err (why (length before + 1)))

-- 1: b not in 2..16
abbrev pub bit_limit : ℕ → Answer
bit_limit b = need no.Bits (bit_tests b)

-- 2: list empty or over 16
abbrev pub list_length : List ℤ → Answer
list_length ts = need no.List (between 1 most_targets (length ts))

-- 3: an odd part is 2^b or more
abbrev pub odd_parts : ℕ → List ℤ → Answer
odd_parts b ts = need_each no.OddPart (λ _ t. ltb (odd_of t) (2 ^ b)) [] ts

-- 4: lent output buffer too short
abbrev pub buffer : ℕ → ℕ → Answer
buffer needed room = need no.Buffer (leb needed room ∷ [])

-- 5: row count over 128, or rows exceed the slice
abbrev pub row_count : ℕ → List ℕ → Answer
row_count n w = need no.RowCount (row_tests n w)

-- 6: a row is not valid
abbrev pub valid_rows : ℕ → List Row → Answer
valid_rows b xs = need_each no.Row (does_fit (limit b)) [] xs

-- 7: a wanted odd part is no row's value
abbrev pub all_served : List Row → List ℤ → Answer
all_served xs ts = need_each no.Unserved (λ _ t. is_served (values xs) t) [] ts

-- 8: generator needs a 129th row
abbrev pub few_rows : List Row → Answer
few_rows xs = need no.TooManyRows (leb (length xs) most_rows ∷ [])

-- 9: w not in 2..32
abbrev pub input_width : ℕ → Answer
input_width w = need no.Width (width_tests w)

-- 10: ready list empty or over 129, or a value not odd in 1..G-1
abbrev pub ready_length : List ℕ → Answer
ready_length vals = need (no.Ready 0) (between 1 most_ready (length vals))

abbrev pub ready_values : ℕ → List ℕ → Answer
ready_values b vals = need_each no.Ready (λ _ v. eqb (v % 2) 1 && ltb v (2 ^ limit b)) [] vals

-- 11: distance target not odd in 1..2^b - 1
abbrev pub target : ℕ → ℕ → Answer
target b c = need no.Target (eqb (c % 2) 1 ∷ ltb c (2 ^ b) ∷ [])

-- ---- the order of each call: the first refusal counts

abbrev pub first_of : List Answer → Answer
first_of [] = Accepted
first_of (Ok _ ∷ rest) = first_of rest
first_of (Err why ∷ rest) = Err why

abbrev pub admit_order : ℕ → List ℤ → List Answer
admit_order b ts = bit_limit b ∷ list_length ts ∷ odd_parts b ts ∷ []

abbrev pub check_order : ℕ → List ℤ → ℕ → List ℕ → List Answer
check_order b ts n w = admit_order b ts ++ (row_count n w ∷ valid_rows b (rows n w) ∷ all_served (rows n w) ts ∷ [])

abbrev pub products_order : ℕ → List ℤ → ℕ → List ℕ → ℕ → List Answer
products_order b ts n w room = check_order b ts n w ++ (buffer (length ts) room ∷ [])

-- as check, then 9
abbrev pub sized_order : ℕ → List ℤ → ℕ → List ℕ → ℕ → List Answer
sized_order b ts n w input = check_order b ts n w ++ (input_width input ∷ [])

abbrev pub widths_order : ℕ → List ℤ → ℕ → List ℕ → ℕ → ℕ → List Answer
widths_order b ts n w input room = sized_order b ts n w input ++ (buffer (n + length ts) room ∷ [])

abbrev pub ranking_order : ℕ → List ℤ → ℕ → List ℕ → ℕ → ℕ → List Answer
ranking_order b ts n w input room = sized_order b ts n w input ++ (buffer n room ∷ [])

abbrev pub generate_order : ℕ → List ℤ → ℕ → List Answer
generate_order b ts room = admit_order b ts ++ (buffer (row_length * most_rows) room ∷ few_rows (generated b ts) ∷ [])

abbrev pub distance_order : ℕ → List ℕ → ℕ → List Answer
distance_order b vals c = bit_limit b ∷ ready_length vals ∷ ready_values b vals ∷ target b c ∷ []

-- ---- what each call answers, and what it writes from the front of a lent slice of some room: nothing on refusal

-- what a call that writes has done: its answer, and a lent slice's contents afterwards
pub record Done {R A : Type 0} (answer : R) (written : List A) (r : R) (before after : List A) : Type 0 where
  pub answers : r ≡ answer
  pub writes : after ≡ over written before

-- what a call tells that is not refused
abbrev pub told : {A : Type 0} → Answer → A → Result A Refusal
told (Ok _) a = Ok a
told (Err why) a = Err why

-- what it writes
abbrev pub given {ℓ} : {A : Type ℓ} → Answer → List A → List A
given (Ok _) xs = xs
given (Err why) xs = []

unfoldable pub admitted : ℕ → List ℤ → Answer
admitted b ts = first_of (admit_order b ts)

unfoldable pub checked : ℕ → List ℤ → ℕ → List ℕ → Answer
checked b ts n w = first_of (check_order b ts n w)

unfoldable pub multiplied : ℕ → List ℤ → ℕ → List ℕ → ℕ → Answer
multiplied b ts n w room = first_of (products_order b ts n w room)

unfoldable pub products_written : ℕ → List ℤ → ℕ → List ℕ → ℤ → ℕ → List ℤ
products_written b ts n w x room = given (multiplied b ts n w room) (target_products (rows n w) x ts)

unfoldable pub sized : ℕ → List ℤ → ℕ → List ℕ → ℕ → Answer
sized b ts n w input = first_of (sized_order b ts n w input)

unfoldable pub measured : ℕ → List ℤ → ℕ → List ℕ → ℕ → ℕ → Answer
measured b ts n w input room = first_of (widths_order b ts n w input room)

unfoldable pub widths_written : ℕ → List ℤ → ℕ → List ℕ → ℕ → ℕ → List ℕ
widths_written b ts n w input room = given (measured b ts n w input room) (widths input (values (rows n w)) ts)

unfoldable pub ranked : ℕ → List ℤ → ℕ → List ℕ → ℕ → ℕ → Answer
ranked b ts n w input room = first_of (ranking_order b ts n w input room)

unfoldable pub ranking_written : ℕ → List ℤ → ℕ → List ℕ → ℕ → ℕ → List ℕ
ranking_written b ts n w input room = given (ranked b ts n w input room) (ranking input (values (rows n w)))

unfoldable pub drawn : ℕ → List ℤ → ℕ → Answer
drawn b ts room = first_of (generate_order b ts room)

-- how many rows were drawn
unfoldable pub drawn_told : ℕ → List ℤ → ℕ → Result ℕ Refusal
drawn_told b ts room = told (drawn b ts room) (length (generated b ts))

unfoldable pub rows_written : ℕ → List ℤ → ℕ → List ℕ
rows_written b ts room = given (drawn b ts room) (flat (generated b ts))

unfoldable pub distance_told : ℕ → List ℕ → ℕ → Result Far Refusal
distance_told b vals c = told (first_of (distance_order b vals c)) (distance (limit b) vals c)

-- ---- a constant alone: its parts in three words, and its canonic form in two. Refused by 4 only

unfoldable pub apart_told : ℕ → Answer
apart_told room = buffer 3 room

unfoldable pub apart_written : ℤ → ℕ → List ℤ
apart_written t room = given (apart_told room) (part_words (apart t))

-- how many digits are nonzero
unfoldable pub canonic_told : ℤ → ℕ → Result ℕ Refusal
canonic_told t room = told (buffer 2 room) (nonzeros (form_of t))

unfoldable pub canonic_written : ℤ → ℕ → List ℕ
canonic_written t room = given (buffer 2 room) (form_words (form_of t))
