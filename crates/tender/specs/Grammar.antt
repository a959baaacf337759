-- A job's text as document 01 writes it: four lines in their order, each ended by a line feed, and nothing after. Assumes nothing.
use Rattle.std.specs.Prelude.{◌≡◌, Bool, true, false, List, [], ◌∷◌, ◌++◌, ◌⊎◌, ℕ, suc, ◌^◌, ◌≤◌, ◌<◌, ℤ, pos, negsuc, length}
use Rattle.meaning.specs.Text.{bytes, text_of}
use Rattle.meaning.specs.Job.{Asked}

-- z is a signed 32-bit number; negsuc n is -(n + 1)
abbrev pub Signed32 : ℤ → Type 0
Signed32 (pos n) = n < 2 ^ 31
Signed32 (negsuc n) = n < 2 ^ 31

abbrev pub AllSigned32 : List ℤ → Type 0
AllSigned32 [] = Unit {0}
AllSigned32 (z ∷ zs) = Signed32 z × AllSigned32 zs

-- ---- the four lines

abbrev pub bits_line : ℤ → List ℕ
bits_line z = bytes "bits=" ++ (text_of z ++ bytes "\n")

abbrev pub input_line : ℤ → List ℕ
input_line z = bytes "input=" ++ (text_of z ++ bytes "\n")

abbrev pub report_line : Bool → List ℕ
report_line true = bytes "report=width\n"
report_line false = bytes "report=row\n"

-- targets are joined by commas; the list may be empty
abbrev pub commas : List ℤ → List ℕ
commas [] = []
commas (z ∷ []) = text_of z
commas (z ∷ y ∷ zs) = text_of z ++ (bytes "," ++ commas (y ∷ zs))

abbrev pub targets_line : List ℤ → List ℕ
targets_line zs = bytes "targets=" ++ (commas zs ++ bytes "\n")

-- ---- a text that asks for j: at most 256 bytes, and j's four lines

pub record AsksFor (s : List ℕ) (j : Asked) : Type 0 where
  pub short : length s ≤ 256
  pub bits : Signed32 j.head.bits
  pub input : Signed32 j.head.input
  pub targets : AllSigned32 j.targets
  pub lines : s ≡ bits_line j.head.bits ++ (input_line j.head.input ++ (report_line j.head.by_width ++ targets_line j.targets))

-- ---- a text that is malformed, and at which line

-- what may stand as a line
abbrev pub Kind : Type 1
Kind = List ℕ → Type 0

abbrev pub kinds : List Kind
kinds =
    (λ line. (z : ℤ) × Signed32 z × (line ≡ bits_line z))
    ∷ (λ line. (z : ℤ) × Signed32 z × (line ≡ input_line z))
    ∷ (λ line. (by_width : Bool) × (line ≡ report_line by_width))
    ∷ (λ line. (zs : List ℤ) × AllSigned32 zs × (line ≡ targets_line zs))
    ∷ []

-- s, from line k on, begins with lines of the first so many kinds, and p is the number of the line after them: none of the next kind begins there, or
-- something follows the last
abbrev pub BadAt : ℕ → List Kind → List ℕ → ℕ → Type 0
BadAt k [] s p = (p ≡ k) × (¬ (s ≡ []))
BadAt k (Line ∷ more) s p =
    ((p ≡ k) × ((line rest : List ℕ) → Line line → ¬ (s ≡ line ++ rest)))
    ⊎ ((line : List ℕ) × (rest : List ℕ) × Line line × (s ≡ line ++ rest) × BadAt (suc k) more rest p)

-- the first bad line is the place; 5 if bytes follow line 4, and 0 if the text is over 256 bytes
abbrev pub MalformedAt : List ℕ → ℕ → Type 0
MalformedAt s p = ((p ≡ 0) × (256 < length s)) ⊎ ((length s ≤ 256) × BadAt 1 kinds s p)
