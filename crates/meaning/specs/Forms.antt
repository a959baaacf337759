-- Lines by their forms. A form is a text in which each # stands for a number, so that a line stands once for its writer and its reader.
-- Assumes nothing.
use Rattle.std.specs.Prelude.{Bool, cond, List, [], ◌∷◌, ◌++◌, ℕ, ◌+◌, eqb, ℤ, pos, get_or, drop, Option, Some, None}
use Rattle.meaning.specs.Text.{bytes, stands, number_at, text_of}

-- ---- a line written

-- what stands for a form's byte: a number for #, which is 35, or the byte itself
abbrev pub piece : ℕ → ℤ → List ℕ
piece c z = cond (eqb c 35) (text_of z) (c ∷ [])

-- how many numbers it takes
abbrev pub taken : ℕ → ℕ
taken c = cond (eqb c 35) 1 0

-- a form with these numbers, one after the other
unfoldable pub line_of : List ℕ → List ℤ → List ℕ
line_of [] zs = []
line_of (c ∷ cs) zs = piece c (get_or zs 0 (pos 0)) ++ line_of cs (drop (taken c) zs)

-- a line of a form for each list of numbers
unfoldable pub lines_of : List ℕ → List (List ℤ) → List ℕ
lines_of form [] = []
lines_of form (zs ∷ more) = line_of form zs ++ lines_of form more

-- ---- a line read

-- what a line holds: its content and the place behind its line feed; none if it is bad
abbrev pub Line : Type 0 → Type 0
Line A = Option (A × ℕ)

-- a number that is read, and then what the rest says of it
abbrev pub on_read : {A : Type 0} → Option (ℤ × ℕ) → (ℤ → ℕ → Line A) → Line A
on_read None rest = None
on_read (Some (z, p)) rest = rest z p

abbrev pub front : {A : Type 0} → A → Line (List A) → Line (List A)
front z None = None
front z (Some (zs, p)) = Some (z ∷ zs, p)

-- what stands for a form's byte, and then the rest
abbrev pub read_number : List ℕ → ℕ → (ℕ → Line (List ℤ)) → Line (List ℤ)
read_number s at rest = on_read (number_at s at) (λ z p. front z (rest p))

abbrev pub read_byte : ℕ → List ℕ → ℕ → (ℕ → Line (List ℤ)) → Line (List ℤ)
read_byte c s at rest = cond (stands (c ∷ []) s at) (rest (at + 1)) None

-- the numbers of a form's line at a place
unfoldable pub line_at : List ℕ → List ℕ → ℕ → Line (List ℤ)
line_at [] s at = Some ([], at)
line_at (c ∷ cs) s at = cond (eqb c 35) read_number (read_byte c) s at (line_at cs s)

-- ---- the forms

abbrev pub bits_form : List ℕ
bits_form = bytes "bits=#\n"

abbrev pub input_form : List ℕ
input_form = bytes "input=#\n"

-- the order of the row lines
abbrev pub report_text : Bool → List ℕ
report_text by_width = cond by_width (bytes "report=width\n") (bytes "report=row\n")

-- the row count
abbrev pub adders_form : List ℕ
adders_form = bytes "adders=#\n"

-- condition 3's sum
abbrev pub csd_form : List ℕ
csd_form = bytes "csd=#\n"

-- a row's index, its words and its width
abbrev pub row_form : List ℕ
row_form = bytes "row=# u=# v=# l1=# l2=# s=# r=# value=# width=#\n"

-- a target's number, the index used, its shift, sign and width
abbrev pub out_form : List ℕ
out_form = bytes "out=# row=# shift=# sign=# width=#\n"

-- a refusal's number and place
abbrev pub refused_form : List ℕ
refused_form = bytes "refused=# place=#\n"
