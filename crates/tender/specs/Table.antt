-- Document 01's table of refusals, a name for each line: the number N, the place P, and when. And the order in which each call looks at them.
-- Assumes nothing.
use Rattle.std.specs.Prelude.{◌≡◌, ◌⊎◌, ◌↔◌, ℕ, ◌+◌, ◌*◌, ◌%◌, ◌^◌, ◌≤◌, ◌<◌, ℤ, pos, length, Result, Err}
use mathlib.Core.List.{List, [], ◌∷◌, ◌++◌, Memᴰ}
use Rattle.meaning.specs.declared.Row.{Row}
use Rattle.meaning.specs.Basics.{First}
use Rattle.meaning.specs.Constants.{odd_of}
use Rattle.meaning.specs.Graph.{rows}
use Rattle.meaning.specs.Generator.{generated}
use Rattle.meaning.specs.Job.{Asked, natural}
use Rattle.meaning.specs.declared.Refusal.{Refusal}
use Rattle.meaning.specs.Refusals.{number, place_of}
use Rattle.meaning.specs.Text.{bytes, text_of}
use Rattle.tender.specs.Words.{values_of, ValidRow}
use Rattle.tender.specs.Grammar.{AsksFor, MalformedAt}

abbrev pub Situation : Type 1
Situation = (N P : ℕ) → Type 0

-- b not in 2..16
abbrev pub line1 : ℕ → Situation
line1 b N P = (N ≡ 1) × (P ≡ 0) × (¬ ((2 ≤ b) × (b ≤ 16)))

-- list empty or over 16
abbrev pub line2 : List ℤ → Situation
line2 ts N P = (N ≡ 2) × (P ≡ 0) × (¬ ((1 ≤ length ts) × (length ts ≤ 16)))

-- an odd part is 2^b or more: the first such target
abbrev pub line3 : ℕ → List ℤ → Situation
line3 b ts N P = (N ≡ 3) × First (λ _ t. 2 ^ b ≤ odd_of t) ts P

-- lent output buffer too short
abbrev pub line4 : ℕ → ℕ → Situation
line4 needed room N P = (N ≡ 4) × (P ≡ 0) × (room < needed)

-- row count over 128, or rows exceed the slice
abbrev pub line5 : ℕ → List ℕ → Situation
line5 n w N P = (N ≡ 5) × (P ≡ 0) × (¬ ((n ≤ 128) × (7 * n ≤ length w)))

-- a row is not valid: the first such row
abbrev pub line6 : ℕ → List Row → Situation
line6 b xs N P = (N ≡ 6) × First (λ before x. ¬ (ValidRow b before x)) xs P

-- a wanted odd part is no row's value: the first such target
abbrev pub line7 : List Row → List ℤ → Situation
line7 xs ts N P = (N ≡ 7) × First (λ _ t. (1 < odd_of t) × (¬ Memᴰ (odd_of t) (values_of xs))) ts P

-- the generator needs a 129th row
abbrev pub line8 : List Row → Situation
line8 xs N P = (N ≡ 8) × (P ≡ 0) × (128 < length xs)

-- w not in 2..32
abbrev pub line9 : ℕ → Situation
line9 w N P = (N ≡ 9) × (P ≡ 0) × (¬ ((2 ≤ w) × (w ≤ 32)))

-- ready list empty or over 129; or a value not odd in 1..2^(b+1) - 1: the first bad value
abbrev pub line10 : List ℕ → Situation
line10 vals N P = (N ≡ 10) × (P ≡ 0) × (¬ ((1 ≤ length vals) × (length vals ≤ 129)))

abbrev pub line10values : ℕ → List ℕ → Situation
line10values b vals N P = (N ≡ 10) × First (λ _ v. ¬ ((v % 2 ≡ 1) × (v < 2 ^ (b + 1)))) vals P

-- distance target not odd in 1..2^b - 1
abbrev pub line11 : ℕ → ℕ → Situation
line11 b c N P = (N ≡ 11) × (P ≡ 0) × (¬ ((c % 2 ≡ 1) × (c < 2 ^ b)))

-- job text malformed: the line, or 0 if over 256 bytes
abbrev pub line12 : List ℕ → Situation
line12 s N P = (N ≡ 12) × MalformedAt s P

-- ---- the order of each call

-- N and P are those of the first line whose situation holds
abbrev pub FirstOf : List Situation → ℕ → ℕ → Type 0
FirstOf [] N P = ⊥
FirstOf (L ∷ more) N P = L N P ⊎ (((n p : ℕ) → ¬ (L n p)) × FirstOf more N P)

abbrev pub admit_table : ℕ → List ℤ → List Situation
admit_table b ts = line1 b ∷ line2 ts ∷ line3 b ts ∷ []

abbrev pub check_table : ℕ → List ℤ → ℕ → List ℕ → List Situation
check_table b ts n w = admit_table b ts ++ (line5 n w ∷ line6 b (rows n w) ∷ line7 (rows n w) ts ∷ [])

abbrev pub width_table : ℕ → List ℤ → ℕ → List ℕ → ℕ → List Situation
width_table b ts n w input = check_table b ts n w ++ (line9 input ∷ [])

abbrev pub generate_table : ℕ → List ℤ → ℕ → List Situation
generate_table b ts room = admit_table b ts ++ (line4 896 room ∷ line8 (generated b ts) ∷ [])

abbrev pub distance_table : ℕ → List ℕ → ℕ → List Situation
distance_table b vals c = line1 b ∷ line10 vals ∷ line10values b vals ∷ line11 b c ∷ []

abbrev pub job_lines : Asked → List Situation
job_lines j =
    let b = natural j.head.bits in
    admit_table b j.targets ++ (line8 (generated b j.targets) ∷ line9 (natural j.head.input) ∷ [])

-- of a job's text: 12, and then the lines for what it asks for
abbrev pub JobRefused : List ℕ → ℕ → ℕ → Type 0
JobRefused s N P = line12 s N P ⊎ ((j : Asked) × AsksFor s j × FirstOf (job_lines j) N P)

-- ---- a call and its table

-- r is a refusal with number N and place P
abbrev pub IsRefusal : {R : Type 0} → Result R Refusal → ℕ → ℕ → Type 0
IsRefusal r N P = (why : Refusal) × (r ≡ Err why) × (number why ≡ N) × (place_of why ≡ P)

-- a call has one answer. It is a refusal with number N and place P exactly if they are those of the first line of its table whose situation holds
pub record Refuses {R : Type 0} (Call : Result R Refusal → Type 0) (table : List Situation) : Type 0 where
  pub answers : (r : Result R Refusal) × Call r
  pub one_answer : (r q : Result R Refusal) → Call r → Call q → r ≡ q
  pub exactly : (r : Result R Refusal) → Call r → (N P : ℕ) → IsRefusal r N P ↔ FirstOf table N P

-- the same of a call with a lent slice, whose length is the room; and on refusal the slice is as it was
pub record RefusesLent {R A : Type 0} (Call : Result R Refusal → List A → List A → Type 0) (table : ℕ → List Situation) : Type 0 where
  pub answers : (before : List A) → (r : Result R Refusal) × (after : List A) × Call r before after
  pub one_answer : (r q : Result R Refusal) (before after later : List A) → Call r before after → Call q before later → (r ≡ q) × (after ≡ later)
  pub exactly : (r : Result R Refusal) (before after : List A) → Call r before after → (N P : ℕ) → IsRefusal r N P ↔ FirstOf (table (length before)) N P
  pub quiet : (why : Refusal) (before after : List A) → Call (Err why) before after → after ≡ before

-- the only line printed for a job that is refused
abbrev pub refused_line : ℕ → ℕ → List ℕ
refused_line N P = bytes "refused=" ++ text_of (pos N) ++ bytes " place=" ++ text_of (pos P) ++ bytes "\n"
