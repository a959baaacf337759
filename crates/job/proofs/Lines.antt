-- A job's lines, as a reader meets them: the numbers of the targets' line, one after the other, and what the lines that are read make of the job. Assumes nothing.
use Rattle.std.proofs.Common.{◌≡◌, refl, ap, ◌∙◌, sym, Bool, true, false, List, [], ◌∷◌, ℕ, zero, suc, ◌+◌, ◌-◌, ◌<◌, ◌≤◌, length, take, ℤ, pos, Some, None, Result, Ok, Err, IsErrAnd, arith}
use lib.Seq.{take_all}
use Rattle.std.proofs.lemmas.Option.{some_pair_parts}
use Rattle.arrayvec.specs.ArrayVec.{ArrayVec}
use Rattle.meaning.specs.declared.Refusal.{Refusal}
use Rattle.meaning.specs.declared.Refusal.TheVariants as no
use borrow.Author.Tests.{le-leb, lt-leb, eq-eqb, ne_eqb}
use Rattle.std.proofs.lemmas.Bool.Decides.{nat_tests}
use Rattle.meaning.specs.Text.{bytes, stands, number_at}
use Rattle.meaning.specs.Forms.{Line, front, line_at, bits_form, input_form}
use Rattle.meaning.specs.Job as meaning
use Rattle.meaning.specs.Job.{most_bytes, most_job_targets, Asked, asks, malformed, only, report_at, numbers, targets_at, job_of}
use Rattle.laws.proofs.Text.Asked.{most_targets_lem}
use Rattle.laws.proofs.Text.Numerals.{no_some}
use Rattle.text.specs.Held.{held}
use Rattle.few.specs.Places.{in_places}
use Rattle.job.specs.declared.Job.{Job}
use Rattle.job.specs.Parsed.{parsed}

-- ---- one number of the list, and what is behind it

-- where a line feed stands, no comma does
no_comma : (s : List ℕ) (p : ℕ) → stands (bytes "\n") s p ≡ true → stands (bytes ",") s p ≡ false
unfolding stands
no_comma s p e = grind (arith, nat_tests)

module _ (s : List ℕ) (at : ℕ) (z : ℤ) (p : ℕ) (e : number_at s at ≡ Some (z, p)) where
  pub numbers_open : (most : ℕ) → stands (bytes ",") s p ≡ false → stands (bytes "\n") s p ≡ false → numbers most s at ≡ None
  unfolding numbers
  numbers_open zero c f = refl
  numbers_open (suc most) c f = rw (e, c, f) refl

  pub numbers_last : (most : ℕ) → 0 < most → stands (bytes "\n") s p ≡ true → numbers most s at ≡ Some (z ∷ [], p + 1)
  unfolding numbers
  numbers_last zero n f = absurd (omega arith)
  numbers_last (suc most) n f = rw (e, no_comma s p f, f) refl

  pub numbers_more : (most : ℕ) → 0 < most → stands (bytes ",") s p ≡ true → numbers most s at ≡ front z (numbers (most - 1) s (p + 1))
  unfolding numbers
  numbers_more zero n c = absurd (omega arith)
  numbers_more (suc most) n c = let k : suc most - 1 ≡ most = omega arith in rw (k, e, c) refl

-- ---- the job, by the lines that are read

held_none : (room : ℕ) (l : Line (List ℤ)) → held room l ≡ None → l ≡ None
held_none room None e = refl
held_none room (Some x) e = no_some (sym e)

held_some : (room : ℕ) (l : Line (List ℤ)) {v : ArrayVec ℤ} {p : ℕ} → held room l ≡ Some (v, p) → (zs : List ℤ) × (l ≡ Some (zs, p)) × (v ≡ record { items = take room zs })
held_some room None e = no_some e
held_some room (Some (zs, q)) e = let (i, k) = some_pair_parts _ _ _ _ e in (zs, ap (λ n. Some (zs, n)) k, sym i)

-- a text that is too long
pub long_job : (s : List ℕ) → most_bytes < length s → Err (no.Job 0) ≡ parsed (job_of s)
unfolding job_of
long_job s h = rw (lt-leb (length s) most_bytes h) refl

-- the error of a line that is not read
pub refusal_is : {T U : Type 0} (r : Result T Refusal) {f why : Refusal} → IsErrAnd r (λ y. y ≡ f) → ◌≡◌ {A = Result U Refusal} (Err f) (Err why) → r ≡ Err why
refusal_is (Ok x) h e = absurd h
refusal_is (Err y) h e = ap Err h ∙ cc

module _ (s : List ℕ) (h : length s ≤ most_bytes) where
  pub bad_1 : only (line_at bits_form s 0) ≡ None → Err (no.Job 1) ≡ parsed (job_of s)
  unfolding job_of
  bad_1 e = rw (le-leb _ _ h, e) refl

  module _ {b : ℤ} {p1 : ℕ} (e1 : only (line_at bits_form s 0) ≡ Some (b, p1)) where
    pub bad_2 : only (line_at input_form s p1) ≡ None → Err (no.Job 2) ≡ parsed (job_of s)
    unfolding job_of
    bad_2 e = rw (le-leb _ _ h, e1, e) refl

    module _ {w : ℤ} {p2 : ℕ} (e2 : only (line_at input_form s p1) ≡ Some (w, p2)) where
      pub bad_3 : report_at s p2 ≡ None → Err (no.Job 3) ≡ parsed (job_of s)
      unfolding job_of
      bad_3 e = rw (le-leb _ _ h, e1, e2, e) refl

      module _ {r : Bool} {p3 : ℕ} (e3 : report_at s p2 ≡ Some (r, p3)) where
        pub bad_4 : held 128 (targets_at s p3) ≡ None → Err (no.Job 4) ≡ parsed (job_of s)
        unfolding job_of
        bad_4 e = rw (le-leb _ _ h, e1, e2, e3, held_none 128 _ e) refl

        module _ {v : ArrayVec ℤ} {p4 : ℕ} (e4 : held 128 (targets_at s p3) ≡ Some (v, p4)) where
          pub bad_5 : (p4 ≡ length s → ⊥) → Err (no.Job 5) ≡ parsed (job_of s)
          unfolding job_of
          bad_5 n = let (ts, e, i) = held_some 128 _ e4 in rw (le-leb _ _ h, e1, e2, e3, e, ne_eqb _ _ n) refl

          job_is : (ts : List ℤ) → targets_at s p3 ≡ Some (ts, p4) → p4 ≡ length s → job_of s ≡ asks (record { head = record { bits = b; input = w; by_width = r }; targets = ts })
          unfolding job_of
          job_is ts e n = rw (le-leb _ _ h, e1, e2, e3, e, eq-eqb _ _ n) refl

          pub job_read : p4 ≡ length s → Ok (record { head = record { bits = b; input = w; by_width = r }; targets = in_places (pos 0) 128 v.items }) ≡ parsed (job_of s)
          job_read n =
              let (ts, e, i) = held_some 128 _ e4 in
              let j = job_is ts e n in
              ap (λ xs. Ok (record { head = record { bits = b; input = w; by_width = r }; targets = in_places (pos 0) 128 xs })) (ap (λ x. x.items) i ∙ take_all 128 ts (most_targets_lem s _ j)) ∙ ap parsed (sym j)

-- ---- the job of an answer

pub job_asked : (x : meaning.Job) {v : Job} → Ok v ≡ parsed x → (j : Asked) × (x ≡ asks j) × (v ≡ record { head = j.head; targets = in_places (pos 0) most_job_targets j.targets })
job_asked (asks j) e = (j, refl, cc)
job_asked (malformed line) e = let k : ◌≡◌ {A = ℕ} 0 1 = cc in absurd (omega arith)

pub job_malformed : (x : meaning.Job) {why : Refusal} → Err why ≡ parsed x → (line : ℕ) × (x ≡ malformed line) × (why ≡ no.Job line)
job_malformed (asks j) e = let k : ◌≡◌ {A = ℕ} 0 1 = cc in absurd (omega arith)
job_malformed (malformed line) e = (line, refl, cc)
