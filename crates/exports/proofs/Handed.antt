-- What the calls for other languages share: an answer handed back as its code, and numbers that fit. Assumes nothing.
use mathlib.Core.Path.{◌≡◌, refl, sym, ap, ◌∙◌, subst}
use Rattle.std.specs.Prelude.{Result, Ok, Err, IsOkAnd, MatchResult}
use mathlib.Core.Bool.{Bool}
use mathlib.Core.List.{List, [], ◌∷◌}
use Prim.Native.Nat.{ℕ, ◌*◌, ◌≤◌}
use native.Mathlib.Omega.{arith}
use lib.Dec.{leb, leb→le}
use lib.IntN.{ℤ, pos}
use lib.ListN.{length, drop, length-append}
use mir.Syntax.{w64}
use mir.Val.{SFits, to_z, of_z}
use mir.ValLaws.{to_z-of_z}
use Rattle.meaning.specs.Limits.{most_rows}
use Rattle.meaning.specs.declared.Refusal.{Refusal}
use Rattle.meaning.specs.declared.Refusal.TheVariants as no
use Rattle.meaning.specs.Basics.{over}
use Rattle.meaning.specs.Graph.{row_length}
use Rattle.meaning.specs.Refusals.{Answer, Accepted, buffer, given, ranking_order, widths_order, ranked, measured}
use Rattle.meaning.specs.Listing.{text_room, job_text, printed_told, text_written}
use Rattle.meaning.specs.Calls.{Prints}
use Rattle.laws.proofs.Refusals.Stages.{first_accepts, need_accepts, told_accepts}
use Rattle.std.specs.Result.{result_and}
use Rattle.exports.specs.Codes.{code, Coded}

-- the code of a number that stands for what an answer tells is that answer's code
pub code_mapped : {A : Type 0} (told : A → ℕ) (a : Result A Refusal) (n : Result ℕ Refusal)
    → MatchResult a (λ x. IsOkAnd n (λ k. k ≡ told x)) (λ e. n ≡ Err e) → code (λ k. k) n ≡ code told a
unfolding code
code_mapped told (Ok x) (Ok k) h = ap pos h
code_mapped told (Ok x) (Err e) h = absurd h
code_mapped told (Err e) n h = ap (code (λ k. k)) h

-- which an answer that is a number tells as it is
pub number_mapped : (a n : Result ℕ Refusal) (k : ℕ) → MatchResult a (λ x. IsOkAnd n (λ k. k ≡ x)) (λ e. n ≡ Err e) → n ≡ Ok k → a ≡ Ok k
number_mapped (Ok x) (Ok y) k h e = ap Ok (let f : y ≡ k = cc in sym h ∙ f)
number_mapped (Ok x) (Err y) k h e = absurd h
number_mapped (Err y) n k h e = absurd (let z : ◌≡◌ {A = ℕ} 0 1 = let f = sym h ∙ e in cc in omega arith)

-- the same of a number that is told for every acceptance
pub code_and : (a : Answer) (n : ℕ) → code (λ k. k) (result_and a (Ok n)) ≡ code (λ _. n) a
unfolding code
code_and (Ok _) n = refl
code_and (Err e) n = refl

pub and_accepts : (a : Answer) (n k : ℕ) → result_and a (Ok n) ≡ Ok k → (a ≡ Accepted) × (k ≡ n)
and_accepts (Ok _) n k e = (refl, cc)
and_accepts (Err why) n k e = absurd (let z : ◌≡◌ {A = ℕ} 0 1 = cc in omega arith)

-- and of a refusal and an acceptance, each handed on by itself
pub code_done : {A : Type 0} (a : Result A Refusal) (x : A) (n : ℕ) → a ≡ Ok x → code (λ k. k) (Ok n) ≡ code (λ _. n) a
unfolding code
code_done a x n e = sym (ap (code (λ _. n)) e)

pub code_refused : {A : Type 0} (a : Result A Refusal) (why : Refusal) (n : ℕ) → a ≡ Err why → code (λ k. k) (Err why) ≡ code (λ _. n) a
unfolding code
code_refused a why n e = sym (ap (code (λ _. n)) e)

-- a call's answer, handed back as its code z
pub handed : {A : Type 0} (Call : Result A Refusal → Type 0) (told : A → ℕ) (a : Result A Refusal) (z : ℤ) → SFits w64 z → z ≡ code told a → Call a
    → Coded Call told (to_z w64 (of_z w64 z))
handed Call told a z h e d = record { answer = a; call = d; coded = to_z-of_z w64 z h ∙ e }

-- a constant handed on as z: the call is that of the constant
pub for_constant : {R A : Type 0} (Call : ℤ → R → List A → List A → Type 0) (t : ℤ) {z : ℤ} {r : R} {before after : List A} → Call z r before after → z ≡ t
    → Call t r before after
for_constant Call t {r = r} {before = before} {after = after} d e = subst (λ x. Call x r before after) e d

-- a graph that is ranked or measured has few rows
abbrev room_tests : ℕ → List ℕ → List Bool
room_tests n w = leb n most_rows ∷ leb (row_length * n) (length w) ∷ []

module _ (b : ℕ) (ts : List ℤ) (n : ℕ) (w : List ℕ) (input room : ℕ) where
  pub ranked_rows : ranked b ts n w input room ≡ Accepted → n ≤ most_rows
  unfolding ranked
  ranked_rows e =
      let (s1, (s2, (s3, (s5, _)))) = first_accepts (ranking_order b ts n w input room) e in
      leb→le n most_rows (need_accepts no.RowCount (room_tests n w) s5).0

  pub measured_rows : measured b ts n w input room ≡ Accepted → n ≤ most_rows
  unfolding measured
  measured_rows e =
      let (s1, (s2, (s3, (s5, _)))) = first_accepts (widths_order b ts n w input room) e in
      leb→le n most_rows (need_accepts no.RowCount (room_tests n w) s5).0

-- a text that was written is within its buffer
pub bytes_within : (s before after : List ℕ) (n : ℕ) → Prints s (Ok n) before after → length after ≡ length before → n ≤ length before
unfolding printed_told text_written over
bytes_within s before after n d same =
    let (a, e) = told_accepts (buffer text_room (length before)) (length (job_text s)) n d.answers in
    let l = ap length (d.writes ∙ ap (λ x. over (given x (job_text s)) before) a) ∙ length-append (job_text s) (drop (length (job_text s)) before) in
    omega (arith, e, l, same)
