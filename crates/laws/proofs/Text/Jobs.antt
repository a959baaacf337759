-- What a job that asks was made of; what is printed for a job, by what its text asks for; and the order of a job that is not malformed, as code meets
-- it: the generator's refusals, then the input width. Assumes nothing.
use mathlib.Core.Path.{◌≡◌, refl, sym, ap, ◌∙◌}
use Rattle.std.specs.Prelude.{Some, None, Err}
use mathlib.Core.Bool.{Bool, true, false, cond}
use mathlib.Core.List.{List, [], ◌∷◌}
use Prim.Native.Nat.{ℕ, ◌+◌, ◌≤◌}
use native.Mathlib.Omega.{arith}
use lib.Dec.{leb, le→leb}
use lib.IntN.{ℤ, pos, negsuc}
use lib.ListN.{length}
use Rattle.meaning.specs.declared.Refusal.{Refusal}
use Rattle.meaning.specs.declared.Refusal.TheVariants as no
use Rattle.meaning.specs.Forms.{Line}
use Rattle.meaning.specs.Limits.{most_rows}
use Rattle.meaning.specs.Job.{Asked, Job, asks, malformed, next, job_of, natural, bits_of, input_of, rows_of, job_order}
use Rattle.meaning.specs.Listing.{answer_of, or_refused, refused_line, reply_to, listing, job_text}
use Rattle.meaning.specs.Refusals.{Answer, Accepted, admit_order, admitted, few_rows, input_width, first_of}
use Rattle.laws.proofs.Generator.Generated.{few_rows_lem}
use Rattle.laws.proofs.Refusals.Stages.{stops_at, passes_on, of_need}

-- ---- what a job that asks was made of

pub no_job : {A : Type 0} {line : ℕ} {j : Asked} → malformed line ≡ asks j → A
no_job e = let x : ◌≡◌ {A = ℕ} 0 1 = cc in let y : ⊥ = omega arith in absurd y

pub cond_job : (b : Bool) (x : Job) (line : ℕ) {j : Asked} → cond b x (malformed line) ≡ asks j → (b ≡ true) × (x ≡ asks j)
cond_job true x line e = (refl, e)
cond_job false x line e = no_job e

pub next_job : {A : Type 0} (l : Line A) (line : ℕ) (k : A → ℕ → ℕ → Job) {j : Asked} → next l line k ≡ asks j
    → (a : A) × (p : ℕ) × (l ≡ Some (a, p)) × (k a (line + 1) p ≡ asks j)
next_job (Some (a, p)) line k e = (a, p, refl, e)
next_job None line k e = no_job e

-- ---- what is printed

module _ (s : List ℕ) where
  pub malformed_text : (line : ℕ) → job_of s ≡ malformed line → job_text s ≡ refused_line (no.Job line)
  unfolding job_text
  malformed_text line e = ap answer_of e

  pub asked_text : (j : Asked) → job_of s ≡ asks j → job_text s ≡ reply_to j
  unfolding job_text
  asked_text j e = ap answer_of e

-- by the answer of the order
pub reply_by : (j : Asked) (a : Answer) → first_of (job_order j) ≡ a → reply_to j ≡ or_refused a (listing j)
unfolding reply_to
reply_by j a e = ap (λ (x : Answer). or_refused x (listing j)) e

pub positive : (z : ℤ) → 1 ≤ natural z → pos (natural z) ≡ z
positive (pos n) h = refl
positive (negsuc n) h = absurd (omega arith)

-- ---- the order

module _ (j : Asked) where
  abbrev late : List Answer
  late = few_rows (rows_of j) ∷ input_width (input_of j.head) ∷ []

  pub job_stops : (why : Refusal) → admitted (bits_of j.head) j.targets ≡ Err why → first_of (job_order j) ≡ Err why
  unfolding admitted
  job_stops why e = sym (stops_at (admit_order (bits_of j.head) j.targets) late (Err why) why (sym e) refl)

  pub job_passes : admitted (bits_of j.head) j.targets ≡ Accepted → first_of (job_order j) ≡ first_of (input_width (input_of j.head) ∷ [])
  job_passes e =
      let few = of_need no.TooManyRows (leb (length (rows_of j)) most_rows ∷ []) (le→leb _ _ (few_rows_lem (bits_of j.head) j.targets e), tt) in
      let past : first_of (job_order j) ≡ first_of late = unfold admitted in (passes_on (admit_order (bits_of j.head) j.targets) late Accepted (sym e) refl) in
      past ∙ ap (λ (a : Answer). first_of (a ∷ input_width (input_of j.head) ∷ [])) few
