-- Condition 1: every list, bit limit, graph, ready list and job text is answered, or refused by a line of the table, exactly in its situation, and
-- nothing is written on refusal. Assumes nothing.
use Rattle.std.specs.Prelude.{◌≡◌, List, [], ◌∷◌, ◌++◌, ◌⊎◌, ℕ, ◌+◌, ◌≤◌, ℤ, pos, negsuc, length, Ok}
use Rattle.meaning.specs.Constants.{sign_of, shift_of, odd_of}
use Rattle.meaning.specs.Job.{Asked, natural}
use Rattle.meaning.specs.Calls.{Admits, Checks, ChecksWidth, Distances, TakesApart, WritesForm, Generates, Multiplies, Measures, Ranks, Prints}
use Rattle.tender.specs.Grammar.{AsksFor}
use Rattle.tender.specs.Words.{TakenApart, Written}
use Rattle.tender.specs.Table.{line4, admit_table, check_table, width_table, generate_table, distance_table, JobRefused, Refuses, RefusesLent, refused_line}

pub record Condition1 : Type 1 where
  pub admit : (b : ℕ) (ts : List ℤ) → Refuses (Admits b ts) (admit_table b ts)
  pub check : (b : ℕ) (ts : List ℤ) (n : ℕ) (w : List ℕ) → Refuses (Checks b ts n w) (check_table b ts n w)
  pub check_width : (b : ℕ) (ts : List ℤ) (n : ℕ) (w : List ℕ) (input : ℕ) → Refuses (ChecksWidth b ts n w input) (width_table b ts n w input)
  pub distance : (b : ℕ) (vals : List ℕ) (c : ℕ) → Refuses (Distances b vals c) (distance_table b vals c)
  pub generate : (b : ℕ) (ts : List ℤ) → RefusesLent (Generates b ts) (generate_table b ts)
  pub multiply : (b : ℕ) (ts : List ℤ) (n : ℕ) (w : List ℕ) (x : ℤ)
      → RefusesLent (Multiplies b ts n w x) (λ room. check_table b ts n w ++ (line4 (length ts) room ∷ []))
  pub measure : (b : ℕ) (ts : List ℤ) (n : ℕ) (w : List ℕ) (input : ℕ)
      → RefusesLent (Measures b ts n w input) (λ room. width_table b ts n w input ++ (line4 (n + length ts) room ∷ []))
  pub rank : (b : ℕ) (ts : List ℤ) (n : ℕ) (w : List ℕ) (input : ℕ)
      → RefusesLent (Ranks b ts n w input) (λ room. width_table b ts n w input ++ (line4 n room ∷ []))
  pub apart : (t : ℤ) → RefusesLent (TakesApart t) (λ room. line4 3 room ∷ [])
  pub canonic : (t : ℤ) → RefusesLent (WritesForm t) (λ room. line4 2 room ∷ [])
  -- a job's text is printed if there is room for every text, and none is longer
  pub print : (s : List ℕ) → RefusesLent (Prints s) (λ room. line4 8769 room ∷ [])
  pub text_fits : (s : List ℕ) (k : ℕ) (before after : List ℕ) → Prints s (Ok k) before after → k ≤ 8769
  -- every text is refused, or asks for a job that is not
  pub every_text : (s : List ℕ)
      → ((N : ℕ) × (P : ℕ) × JobRefused s N P) ⊎ ((j : Asked) × AsksFor s j × ((N P : ℕ) → ¬ (JobRefused s N P)))
  -- what is printed for one that is refused; for any other it is the listing
  pub job : (s : List ℕ) (k : ℕ) (before after : List ℕ) → Prints s (Ok k) before after → (N P : ℕ) → JobRefused s N P
      → (k ≡ length (refused_line N P)) × Written (refused_line N P) before after
  -- a negative bit limit or input width counts as 0, which is out of range
  pub negative_out : (n : ℕ) → (natural (pos n) ≡ n) × (natural (negsuc n) ≡ 0)
  -- the odd part that the table speaks of
  pub parts : (t : ℤ) → TakenApart t (sign_of t) (shift_of t) (odd_of t)
