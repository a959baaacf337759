-- What a job that is not malformed asks for: at most 128 targets, since each takes two bytes of the text's 256, and numbers that fit signed 32 bits;
-- and a job that is malformed is so at line 5 at most. Assumes nothing.
use mathlib.Core.Path.{◌≡◌, refl, subst, sym}
use mathlib.Core.Bool.{Bool, true, false, cond}
use mathlib.Core.List.{List, [], ◌∷◌}
use Prim.Native.Nat.{ℕ, zero, suc, ◌+◌, ◌*◌, ◌≤◌}
use native.Mathlib.Omega.{arith}
use lib.Dec.{eqb, leb}
use lib.IntN.{ℤ, pos}
use lib.ListN.{length, get_or}
use borrow.Author.Tests.{leb-true}
use mir.Syntax.{w32}
use mir.Val.{SFits}
use Rattle.std.specs.Prelude.{Some, None}
use Rattle.meaning.specs.declared.Head.{Head}
use Rattle.meaning.specs.Text.{bytes, stands, number_at}
use Rattle.meaning.specs.Forms.{Line, front, line_at, bits_form, input_form}
use Rattle.meaning.specs.Job.{most_bytes, most_job_targets, Asked, Job, asks, malformed, next, only, report_at, numbers, targets_at, job_of}
use Rattle.laws.proofs.Text.Numerals.{no_some, under_test, number_read}
use Rattle.laws.proofs.Text.Bytes.{stands_within}
use Rattle.laws.proofs.Text.Lines.{read_line, front_line, good_is}
use Rattle.laws.proofs.Text.Jobs.{cond_job, next_job}

-- ---- good lines

-- numbers that were read from a place of a text up to another: two bytes each, and in range
record Run (s : List ℕ) (at : ℕ) (zs : List ℤ) (q : ℕ) : Type 0 where
  taken : at + 2 * length zs ≤ q
  inside : q ≤ length s
  fit : (k : ℕ) → SFits w32 (get_or zs k (pos 0))

run_more : (s : List ℕ) (at : ℕ) (z : ℤ) (p : ℕ) (ys : List ℤ) (q : ℕ) → number_at s at ≡ Some (z, p) → Run s (p + 1) ys q → Run s at (z ∷ ys) q
run_more s at z p ys q e w =
    let (l, f) = number_read s at z p e in
    let h = w.taken in
    record { taken = omega arith; inside = w.inside; fit = cons }
  where
    cons : (k : ℕ) → SFits w32 (get_or (z ∷ ys) k (pos 0))
    cons zero = (number_read s at z p e).1
    cons (suc k) = w.fit k

run_none : (s : List ℕ) (p : ℕ) → stands (bytes "\n") s p ≡ true → Run s (p + 1) [] (p + 1)
run_none s p e =
    let h = stands_within (bytes "\n") s p e in
    record { taken = omega arith; inside = omega arith; fit = λ k. record { sfits = omega arith } }

-- behind a number: a comma and further numbers, or a line feed
run_by : (s : List ℕ) (at : ℕ) (z : ℤ) (p : ℕ) (l : Line (List ℤ)) (b : Bool) (zs : List ℤ) (q : ℕ) → number_at s at ≡ Some (z, p)
    → ((ys : List ℤ) → l ≡ Some (ys, q) → Run s (p + 1) ys q)
    → cond b (front z l) (cond (stands (bytes "\n") s p) (Some (z ∷ [], p + 1)) None) ≡ Some (zs, q)
    → Run s at zs q
run_by s at z p l true zs q r rest e =
    let (ys, i, g) = front_line z l e in
    subst (λ xs. Run s at xs q) (sym i) (run_more s at z p ys q r (rest ys g))
run_by s at z p l false zs q r rest e =
    let (t, g) = under_test (stands (bytes "\n") s p) (Some (z ∷ [], p + 1)) e in
    good_is (Run s at) g (run_more s at z p [] (p + 1) r (run_none s p t))

run_of : (most : ℕ) (s : List ℕ) (at : ℕ) (zs : List ℤ) (q : ℕ) → numbers most s at ≡ Some (zs, q) → Run s at zs q
unfolding numbers
run_of zero s at zs q e = no_some e
run_of (suc most) s at zs q e =
    let (z, p, r, g) = read_line (number_at s at) _ e in
    run_by s at z p (numbers most s (p + 1)) (stands (bytes ",") s p) zs q r (λ ys. run_of most s (p + 1) ys q) g

run_line : (s : List ℕ) (at : ℕ) (zs : List ℤ) (q : ℕ) → targets_at s at ≡ Some (zs, q) → Run s (at + 8) zs q
unfolding targets_at
run_line s at zs q e = let (t, f) = under_test (stands (bytes "targets=") s at) _ e in go (stands (bytes "\n") s (at + 8)) refl f
  where
    go : (b : Bool) → stands (bytes "\n") s (at + 8) ≡ b → cond b (Some ([], at + 9)) (numbers (length s) s (at + 8)) ≡ Some (zs, q) → Run s (at + 8) zs q
    go true h f =
        let l = stands_within (bytes "\n") s (at + 8) h in
        good_is (Run s (at + 8)) f (record { taken = omega arith; inside = omega arith; fit = λ k. record { sfits = omega arith } })
    go false h f = run_of (length s) s (at + 8) zs q f

-- ---- a job that asks

record Fits (j : Asked) : Type 0 where
  few : length j.targets ≤ most_job_targets
  targets : (k : ℕ) → SFits w32 (get_or j.targets k (pos 0))

fits_by : (s : List ℕ) (h : Head) (ts : List ℤ) (at to : ℕ) (j : Asked) → length s ≤ most_bytes → targets_at s at ≡ Some (ts, to)
    → asks (record { head = h; targets = ts }) ≡ asks j → Fits j
fits_by s h ts at to j l m e =
    let n = run_line s at ts to m in
    let low = n.taken in
    let high = n.inside in
    let i : ◌≡◌ {A = Asked} (record { head = h; targets = ts }) j = cc in
    subst Fits i (record { few = omega arith; targets = n.fit })

fits_of : (s : List ℕ) (j : Asked) → job_of s ≡ asks j → Fits j
unfolding job_of
fits_of s j e =
    let (h, e0) = cond_job (leb (length s) most_bytes) _ 0 e in
    let (b, p1, l1, e1) = next_job (only (line_at bits_form s 0)) 1 _ e0 in
    let (w, p2, l2, e2) = next_job (only (line_at input_form s p1)) 2 _ e1 in
    let (r, p3, l3, e3) = next_job (report_at s p2) 3 _ e2 in
    let (ts, p4, l4, e4) = next_job (targets_at s p3) 4 _ e3 in
    let (f, e5) = cond_job (eqb p4 (length s)) (asks (record { head = record { bits = b; input = w; by_width = r }; targets = ts })) 5 e4 in
    fits_by s (record { bits = b; input = w; by_width = r }) ts p3 p4 j (leb-true (length s) most_bytes h) l4 e5

module _ (s : List ℕ) (j : Asked) (e : job_of s ≡ asks j) where
  pub most_targets_lem : length j.targets ≤ most_job_targets
  most_targets_lem = (fits_of s j e).few

  pub targets_fit : (k : ℕ) → SFits w32 (get_or j.targets k (pos 0))
  targets_fit = (fits_of s j e).targets

-- ---- a job that is malformed

-- a job is malformed at no line above the one named
abbrev UpTo : ℕ → Job → Type 0
UpTo most (asks j) = Unit {0}
UpTo most (malformed line) = line ≤ most

up_cond : (b : Bool) (x : Job) (line most : ℕ) → UpTo most x → line ≤ most → UpTo most (cond b x (malformed line))
up_cond true x line most h k = h
up_cond false x line most h k = k

up_next : {A : Type 0} (l : Line A) (line : ℕ) (k : A → ℕ → ℕ → Job) (most : ℕ) → line ≤ most → ((a : A) (p : ℕ) → UpTo most (k a (line + 1) p)) → UpTo most (next l line k)
up_next (Some (a, p)) line k most h f = f a p
up_next None line k most h f = h

up_of : (s : List ℕ) → UpTo 5 (job_of s)
unfolding job_of
up_of s =
    up_cond (leb (length s) most_bytes) _ 0 5
    (up_next (only (line_at bits_form s 0)) 1 _ 5 (omega arith) λ b p1.
    up_next (only (line_at input_form s p1)) 2 _ 5 (omega arith) λ w p2.
    up_next (report_at s p2) 3 _ 5 (omega arith) λ r p3.
    up_next (targets_at s p3) 4 _ 5 (omega arith) λ ts p4.
    up_cond (eqb p4 (length s)) (asks (record { head = record { bits = b; input = w; by_width = r }; targets = ts })) 5 5 tt (omega arith))
    (omega arith)

pub malformed_most : (s : List ℕ) (line : ℕ) → job_of s ≡ malformed line → line ≤ 5
malformed_most s line e = subst (UpTo 5) e (up_of s)
