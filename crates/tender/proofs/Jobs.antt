-- What is printed for a job's text: the line of its refusal exactly if it is refused, and else its listing. Assumes nothing.
use mathlib.Core.Path.{◌≡◌, refl, sym, ap, ap₂, ◌∙◌}
use Rattle.std.specs.Prelude.{Ok, Err}
use mathlib.Core.List.{List, ◌++◌}
use mathlib.Core.Logic.{◌⊎◌, inl, inr}
use Prim.Native.Nat.{ℕ, ◌≤◌}
use native.Mathlib.Omega.{arith}
use lib.ListN.{length, drop}
use Rattle.meaning.specs.Basics.{over}
use Rattle.meaning.specs.Job.{Asked, Job, asks, malformed, job_of, job_order}
use Rattle.meaning.specs.Listing.{job_text, printed_told, text_written}
use Rattle.meaning.specs.Refusals.{Answer, Accepted, buffer, given, number, place_of, first_of}
use Rattle.meaning.specs.Calls.{Prints}
use Rattle.laws.proofs.Refusals.Stages.{never_both, told_accepts}
use Rattle.tender.specs.Words.{Written}
use Rattle.tender.specs.Grammar.{AsksFor}
use Rattle.tender.specs.Table.{job_lines, JobRefused, refused_line}
use Rattle.tender.specs.Listing.{listing_for}
use Rattle.tender.proofs.Grammar.{job_asks, job_malformed}
use Rattle.tender.proofs.Condition1.{exactly, job_told}
use Rattle.tender.proofs.Listing.{listed_text, refused_text, malformed_text, text_fits}

module _ (s : List ℕ) (k : ℕ) (before after : List ℕ) (d : Prints s (Ok k) before after) where
  -- a text that is printed is the whole of it
  pub whole : (k ≡ length (job_text s)) × Written (job_text s) before after
  unfolding printed_told text_written over
  whole =
      let (a, e) = told_accepts (buffer 8769 (length before)) (length (job_text s)) k d.answers in
      (e, d.writes ∙ ap (λ x. given x (job_text s) ++ drop (length (given x (job_text s))) before) a)

  -- in other words
  pub whole_as : (text : List ℕ) → job_text s ≡ text → (k ≡ length text) × Written text before after
  whole_as text e = (whole.0 ∙ ap length e, whole.1 ∙ ap (λ l. l ++ drop (length l) before) e)

  pub fits : k ≤ 8769
  fits = omega (arith, whole.0, text_fits s)

  pub refused : (N P : ℕ) → JobRefused s N P → (k ≡ length (refused_line N P)) × Written (refused_line N P) before after
  refused N P (inl h) = whole_as (refused_line N P) (malformed_text s P ((job_malformed s P).1 h.1) ∙ ap (λ n. refused_line n P) (sym h.0))
  refused N P (inr (j, a, f)) =
      let (why, e, n, p) = (exactly (job_order j) (job_lines j) (job_told j) N P).1 f in
      whole_as (refused_line N P) (refused_text s j why ((job_asks s j).1 a) e ∙ ap₂ refused_line n p)

  pub listed : (j : Asked) → AsksFor s j → ((N P : ℕ) → ¬ (JobRefused s N P)) → (k ≡ length (listing_for j)) × Written (listing_for j) before after
  listed j a n = whole_as (listing_for j) (listed_text s j ((job_asks s j).1 a) (accepts (first_of (job_order j)) refl))
    where
      accepts : (r : Answer) → first_of (job_order j) ≡ r → first_of (job_order j) ≡ Accepted
      accepts (Ok _) e = e
      accepts (Err why) e = absurd (n (number why) (place_of why) (inr (j, a, (exactly (job_order j) (job_lines j) (job_told j) (number why) (place_of why)).0 (why, e, refl, refl))))

-- every text is refused, or asks for a job that is not
pub every_text : (s : List ℕ) → ((N : ℕ) × (P : ℕ) × JobRefused s N P) ⊎ ((j : Asked) × AsksFor s j × ((N P : ℕ) → ¬ (JobRefused s N P)))
every_text s = by_job (job_of s) refl
  where
    -- two jobs of one text
    same : (j i : Asked) → job_of s ≡ asks j → job_of s ≡ asks i → i ≡ j
    same j i e f = let g : asks i ≡ asks j = sym f ∙ e in cc

    never : (j : Asked) (p : ℕ) → job_of s ≡ asks j → ¬ (job_of s ≡ malformed p)
    never j p e f = let z : ◌≡◌ {A = ℕ} 0 1 = cc in omega arith

    no_refusal : (j : Asked) → job_of s ≡ asks j → first_of (job_order j) ≡ Accepted → (N P : ℕ) → ¬ (JobRefused s N P)
    no_refusal j e a N P (inl h) = never j P e ((job_malformed s P).1 h.1)
    no_refusal j e a N P (inr (i, b, f)) =
        let (why, r, n, p) = (exactly (job_order i) (job_lines i) (job_told i) N P).1 f in
        never_both why (sym a ∙ ap (λ x. first_of (job_order x)) (sym (same j i e ((job_asks s i).1 b))) ∙ r)

    by_order : (j : Asked) → job_of s ≡ asks j → (r : Answer) → first_of (job_order j) ≡ r
        → ((N : ℕ) × (P : ℕ) × JobRefused s N P) ⊎ ((j : Asked) × AsksFor s j × ((N P : ℕ) → ¬ (JobRefused s N P)))
    by_order j e (Ok _) a = inr (j, (job_asks s j).0 e, no_refusal j e a)
    by_order j e (Err why) a =
        inl (number why, place_of why, inr (j, (job_asks s j).0 e, (exactly (job_order j) (job_lines j) (job_told j) (number why) (place_of why)).0 (why, a, refl, refl)))

    by_job : (x : Job) → job_of s ≡ x → ((N : ℕ) × (P : ℕ) × JobRefused s N P) ⊎ ((j : Asked) × AsksFor s j × ((N P : ℕ) → ¬ (JobRefused s N P)))
    by_job (asks j) e = by_order j e (first_of (job_order j)) refl
    by_job (malformed p) e = inl (12, p, inl (refl, (job_malformed s p).0 e))
