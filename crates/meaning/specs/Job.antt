-- The job: the grammar of its text, what it asks for, and the order in which it is refused. Assumes nothing.
use Rattle.std.specs.Prelude.{Bool, true, false, cond, List, [], ◌∷◌, ◌++◌, ℕ, zero, suc, ◌+◌, eqb, leb, ℤ, pos, negsuc, length, get_or, Some, None}
use Rattle.meaning.specs.declared.Head.{Head}
use Rattle.meaning.specs.declared.Row.{Row}
use Rattle.meaning.specs.Text.{bytes, stands, number_at}
use Rattle.meaning.specs.Forms.{Line, on_read, front, line_at, bits_form, input_form, report_text}
use Rattle.meaning.specs.Generator.{generated}
use Rattle.meaning.specs.Refusals.{Answer, admit_order, few_rows, input_width}

-- what a job asks for
pub record Asked : Type 0 where
  pub head : Head
  pub targets : List ℤ

-- a text asks for something, or is malformed at a line
pub data Job : Type 0 where
  asks : Asked → Job
  malformed : ℕ → Job

abbrev pub most_bytes : ℕ
most_bytes = 256

-- each target takes two of them
abbrev pub most_job_targets : ℕ
most_job_targets = 128

-- ---- the lines

-- the only number of a line
abbrev pub only : Line (List ℤ) → Line ℤ
only None = None
only (Some (zs, p)) = Some (get_or zs 0 (pos 0), p)

-- one of two whole lines
unfoldable pub report_at : List ℕ → ℕ → Line Bool
report_at s at =
    cond (stands (report_text true) s at) (Some (true, at + length (report_text true)))
    (cond (stands (report_text false) s at) (Some (false, at + length (report_text false))) None)

-- one or more numbers, joined by commas, and a line feed; no more of them than the first number says
unfoldable pub numbers : ℕ → List ℕ → ℕ → Line (List ℤ)
numbers zero s at = None
numbers (suc most) s at =
    on_read (number_at s at) λ z p.
    cond (stands (bytes ",") s p) (front z (numbers most s (p + 1)))
    (cond (stands (bytes "\n") s p) (Some (z ∷ [], p + 1)) None)

-- the list may be empty
unfoldable pub targets_at : List ℕ → ℕ → Line (List ℤ)
targets_at s at =
    cond (stands (bytes "targets=") s at)
    (cond (stands (bytes "\n") s (at + 8)) (Some ([], at + 9)) (numbers (length s) s (at + 8)))
    None

-- ---- the lines, one after the other: the first bad one is the place

abbrev pub next : {A : Type 0} → Line A → ℕ → (A → ℕ → ℕ → Job) → Job
next None line k = malformed line
next (Some (a, p)) line k = k a (line + 1) p

-- nothing may follow
abbrev pub ended : List ℕ → Job → ℕ → ℕ → Job
ended s j line at = cond (eqb at (length s)) j (malformed line)

unfoldable pub job_of : List ℕ → Job
job_of s =
    cond (leb (length s) most_bytes)
    (next (only (line_at bits_form s 0)) 1 λ b line at.
    next (only (line_at input_form s at)) line λ w line at.
    next (report_at s at) line λ r line at.
    next (targets_at s at) line λ ts line at.
    ended s (asks (record { head = record { bits = b; input = w; by_width = r }; targets = ts })) line at)
    (malformed 0)

-- ---- a job that is not malformed: 1, 2, 3, 8, 9

-- a negative number is out of range, as 0 is
abbrev pub natural : ℤ → ℕ
natural (pos n) = n
natural (negsuc n) = 0

-- the bit limit and the input width
abbrev pub bits_of : Head → ℕ
bits_of h = natural h.bits

abbrev pub input_of : Head → ℕ
input_of h = natural h.input

-- the rows of the generator's rule
abbrev pub rows_of : Asked → List Row
rows_of j = generated (bits_of j.head) j.targets

abbrev pub job_order : Asked → List Answer
job_order j = admit_order (bits_of j.head) j.targets ++ (few_rows (rows_of j) ∷ input_width (input_of j.head) ∷ [])
