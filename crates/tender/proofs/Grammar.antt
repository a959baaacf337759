-- The parser of a job's text is the grammar: it takes the texts that ask for a job, and finds the line at which another is malformed. Assumes nothing.
use mathlib.Core.Path.{◌≡◌, refl, ap, ◌∙◌, sym, subst}
use mathlib.Core.Bool.{Bool, true, false, cond}
use mathlib.Core.List.{List, [], ◌∷◌, ◌++◌, append_assoc, append-nil}
use mathlib.Core.Logic.Iff
use mathlib.Core.Logic.{◌⊎◌, inl, inr, ◌↔◌, ⊎_elim}
use Prim.Native.Nat.{ℕ, zero, suc, ◌+◌, ◌≤◌, ◌<◌}
use native.Mathlib.Omega.{arith}
use lib.Dec.{eqb, leb}
use lib.IntN.{ℤ, pos, negsuc}
use lib.ListN.{length, get_or, length-append}
use mir.Syntax.{w32}
use mir.Val.{SFits}
use borrow.Author.Tests.{eq-eqb, ne_eqb, eqb-true, eqb-false, le-leb, lt-leb, leb-true, leb-false}
use Rattle.std.specs.Prelude.{Some, None}
use Rattle.meaning.specs.Text.{bytes, stands, number_at, text_of}
use Rattle.meaning.specs.Forms.{Line, front, line_at, bits_form, input_form, report_text}
use Rattle.meaning.specs.Job.{Asked, Job, asks, malformed, most_bytes, only, report_at, numbers, targets_at, next, ended, job_of}
use Rattle.laws.proofs.Text.Jobs.{no_job, cond_job, next_job}
use Rattle.laws.proofs.Text.Numerals.{no_some, under_test}
use Rattle.laws.proofs.Text.Lines.{Left, Taken, left_start, left_is, left_on, left_room, taken_on, read_line, front_line, stands_taken, stands_back, stands_not, number_taken, number_back, number_not, numbers_none, AllFit, Exact, good_is, exact_as, number_exact, report_exact}
use Rattle.tender.specs.Grammar.{Signed32, AllSigned32, bits_line, input_line, report_line, commas, targets_line, AsksFor, Kind, kinds, BadAt, MalformedAt}

-- ---- signed 32-bit numbers

signed : (z : ℤ) → SFits w32 z ↔ Signed32 z
signed (pos n) = (λ h. h.sfits, λ h. record { sfits = h })
signed (negsuc n) = (λ h. h.sfits, λ h. record { sfits = h })

all_signed : (zs : List ℤ) → AllFit zs ↔ AllSigned32 zs
all_signed [] = (λ h. h, λ h. h)
all_signed (z ∷ zs) = Iff.and (signed z) (all_signed zs)

-- ---- the targets

commas_more : (z : ℤ) (ys : List ℤ) → 0 < length ys → commas (z ∷ ys) ≡ text_of z ++ (bytes "," ++ commas ys)
commas_more z [] h = absurd (omega arith)
commas_more z (y ∷ ys) h = refl

-- one or more numbers and the line feed
abbrev list : List ℤ → List ℕ
list zs = commas zs ++ bytes "\n"

list_more : (z : ℤ) (ys : List ℤ) → 0 < length ys → list (z ∷ ys) ≡ text_of z ++ (bytes "," ++ list ys)
list_more z ys h = ap (λ (x : List ℕ). x ++ bytes "\n") (commas_more z ys h) ∙ append_assoc (text_of z) (44 ∷ commas ys) (bytes "\n")

abbrev ListTaken : List ℕ → List ℕ → List ℤ → ℕ → Type 0
ListTaken s rest zs p = AllFit zs × (0 < length zs) × Taken s rest (list zs) p

numbers_taken : (most : ℕ) (s : List ℕ) (at : ℕ) (rest : List ℕ) (zs : List ℤ) (p : ℕ) → Left s at rest → numbers most s at ≡ Some (zs, p) → ListTaken s rest zs p
unfolding numbers
numbers_taken zero s at rest zs p l e = no_some e
numbers_taken (suc most) s at rest zs p l e =
    let (z, q, r, g) = read_line (number_at s at) _ e in
    let (w, t) = number_taken l r in
    go z q w t (stands (bytes ",") s q) refl g (λ more ys m. numbers_taken most s (q + 1) more ys p m)
  where
    go : (z : ℤ) (q : ℕ) → SFits w32 z → (t : Taken s rest (text_of z) q) → (b : Bool) → stands (bytes ",") s q ≡ b
        → cond b (front z (numbers most s (q + 1))) (cond (stands (bytes "\n") s q) (Some (z ∷ [], q + 1)) None) ≡ Some (zs, p)
        → ((more : List ℕ) (ys : List ℤ) → Left s (q + 1) more → numbers most s (q + 1) ≡ Some (ys, p) → ListTaken s more ys p) → ListTaken s rest zs p
    go z q w t true h g rec =
        let (ys, i, f) = front_line z (numbers most s (q + 1)) g in
        let c = stands_taken (bytes ",") t.left h in
        let (ws, n, u) = rec c.more ys c.left f in
        subst (λ xs. ListTaken s rest xs p) (sym i) ((w, ws), omega arith, subst (λ x. Taken s rest x p) (sym (list_more z ys n)) (taken_on t (taken_on c u)))
    go z q w t false h g rec =
        let (i, f) = under_test (stands (bytes "\n") s q) _ g in
        good_is (ListTaken s rest) f ((w, tt), omega arith, taken_on t (stands_taken (bytes "\n") t.left i))

-- a list is no longer in numbers than in bytes, so that the parser's count never stops it
abbrev ListBack : ℕ → List ℕ → List ℕ → Type 0
ListBack most s rest = (at : ℕ) (zs : List ℤ) → 0 < length zs → length (list zs) ≤ most → AllFit zs → Left s at (list zs ++ rest)
    → numbers most s at ≡ Some (zs, at + length (list zs))

back_more : (most : ℕ) (s rest : List ℕ) → ListBack most s rest → ListBack (suc most) s rest
unfolding numbers
back_more most s rest rec at [] n m w l = absurd (omega arith)
back_more most s rest rec at (z ∷ []) n m w l =
    let here : Left s at (text_of z ++ (bytes "\n" ++ rest)) = left_is (append_assoc (text_of z) (bytes "\n") rest) l in
    let on = left_on (text_of z) (bytes "\n" ++ rest) here in
    let k = length-append (text_of z) (bytes "\n") in
    let j : at + length (text_of z) + 1 ≡ at + length (list (z ∷ [])) = omega arith in
    rw (number_back z (bytes "\n" ++ rest) w.0 refl here, stands_not (bytes ",") on (λ more e. let h : ◌≡◌ {A = ℕ} 10 44 = ap (λ (x : List ℕ). get_or x 0 0) e in omega arith), stands_back (bytes "\n") rest on, j) refl
back_more most s rest rec at (z ∷ y ∷ zs) n m w l =
    let ys : List ℤ = y ∷ zs in
    let i = list_more z ys (omega arith) in
    let here : Left s at (text_of z ++ (bytes "," ++ (list ys ++ rest))) = left_is (ap (λ (x : List ℕ). x ++ rest) i ∙ append_assoc (text_of z) (bytes "," ++ list ys) rest) l in
    let on = left_on (text_of z) (bytes "," ++ (list ys ++ rest)) here in
    let k : length (list (z ∷ ys)) ≡ length (text_of z) + suc (length (list ys)) = ap length i ∙ length-append (text_of z) (bytes "," ++ list ys) in
    let I = rec (at + length (text_of z) + 1) ys (omega arith) (omega arith) w.1 (left_on (bytes ",") (list ys ++ rest) on) in
    let j : at + length (text_of z) + 1 + length (list ys) ≡ at + length (list (z ∷ ys)) = omega arith in
    rw (number_back z (bytes "," ++ (list ys ++ rest)) w.0 refl here, stands_back (bytes ",") (list ys ++ rest) on, I, j) refl

numbers_back : (most : ℕ) (s rest : List ℕ) → ListBack most s rest
numbers_back zero s rest = λ at zs n m w l. let k = length-append (commas zs) (bytes "\n") in absurd (omega arith)
numbers_back (suc most) s rest = back_more most s rest (numbers_back most s rest)

targets_taken : (s : List ℕ) (at : ℕ) (rest : List ℕ) (zs : List ℤ) (p : ℕ) → Left s at rest → targets_at s at ≡ Some (zs, p)
    → AllFit zs × Taken s rest (targets_line zs) p
unfolding targets_at
targets_taken s at rest zs p l e =
    let (h, f) = under_test (stands (bytes "targets=") s at) _ e in
    go (stands_taken (bytes "targets=") l h) (stands (bytes "\n") s (at + 8)) refl f
  where
    go : (t : Taken s rest (bytes "targets=") (at + 8)) (b : Bool) → stands (bytes "\n") s (at + 8) ≡ b
        → cond b (Some ([], at + 9)) (numbers (length s) s (at + 8)) ≡ Some (zs, p) → AllFit zs × Taken s rest (targets_line zs) p
    go t true h f =
        let j : at + 8 + 1 ≡ at + 9 = omega arith in
        good_is (λ xs q. AllFit xs × Taken s rest (targets_line xs) q) f
        (tt, subst (Taken s rest (targets_line [])) j (taken_on t (stands_taken (bytes "\n") t.left h)))
    go t false h f =
        let (w, n, u) = numbers_taken (length s) s (at + 8) t.more zs p t.left f in
        (w, taken_on t u)

-- a number does not begin with the line feed
not_empty : (s : List ℕ) (at : ℕ) (rest : List ℕ) (zs : List ℤ) (p : ℕ) → Left s at rest → numbers (length s) s at ≡ Some (zs, p) → stands (bytes "\n") s at ≡ false
not_empty s at rest zs p l e =
    stands_not (bytes "\n") l (λ more i. no_some (sym (numbers_none s at (length s) (number_not refl (λ q. omega arith) (left_is i l))) ∙ e))

targets_back : (s : List ℕ) (at : ℕ) (rest : List ℕ) (zs : List ℤ) → AllFit zs → Left s at (targets_line zs ++ rest)
    → targets_at s at ≡ Some (zs, at + length (targets_line zs))
unfolding targets_at
targets_back s at rest [] w l =
    rw (stands_back (bytes "targets=") (bytes "\n" ++ rest) l, stands_back (bytes "\n") rest (left_on (bytes "targets=") (bytes "\n" ++ rest) l)) refl
targets_back s at rest (z ∷ zs) w l =
    let on : Left s (at + 8) (list (z ∷ zs) ++ rest) = left_on (bytes "targets=") (list (z ∷ zs) ++ rest) l in
    let room = left_room on in
    let k = length-append (list (z ∷ zs)) rest in
    let I = numbers_back (length s) s rest (at + 8) (z ∷ zs) (omega arith) (omega arith) w on in
    let j : at + 8 + length (list (z ∷ zs)) ≡ at + length (targets_line (z ∷ zs)) = omega arith in
    rw (stands_back (bytes "targets=") (list (z ∷ zs) ++ rest) l, not_empty s (at + 8) (list (z ∷ zs) ++ rest) (z ∷ zs) _ on I, I, j) refl

-- ---- the four lines

module _ (s : List ℕ) where
  bits_line_lem : Exact Signed32 bits_line s (λ at. only (line_at bits_form s at))
  bits_line_lem = exact_as signed (λ z. refl) (number_exact (bytes "bits=") tt refl tt s)

  input_line_lem : Exact Signed32 input_line s (λ at. only (line_at input_form s at))
  input_line_lem = exact_as signed (λ z. refl) (number_exact (bytes "input=") tt refl tt s)

  report_line_lem : Exact (λ b. Unit {0}) report_line s (report_at s)
  report_line_lem = exact_as (λ b. Iff.rfl) texts (report_exact s)
    where
      texts : (b : Bool) → report_text b ≡ report_line b
      texts true = refl
      texts false = refl

  targets_line_lem : Exact AllSigned32 targets_line s (targets_at s)
  targets_line_lem = exact_as all_signed (λ zs. refl) (record { taken = targets_taken s; back = targets_back s })

-- ---- a text that asks

-- nothing is left where the text ends
left_none : {s : List ℕ} {at : ℕ} (rest : List ℕ) → Left s at rest → at ≡ length s → rest ≡ []
left_none [] l e = refl
left_none (c ∷ cs) l e = let k = left_room l in absurd (omega arith)

-- four lines that are taken one behind the other up to the text's end are the text
four : {s B I R E : List ℕ} {p q r at : ℕ} (b : Taken s s B p) (i : Taken s b.more I q) (c : Taken s i.more R r) (t : Taken s c.more E at) → at ≡ length s
    → s ≡ B ++ (I ++ (R ++ E))
four {B = B} {I} {R} {E} b i c t e =
    let last : c.more ≡ E = t.begins ∙ ap (λ (x : List ℕ). E ++ x) (left_none t.more t.left e) ∙ append-nil E in
    b.begins ∙ ap (λ (x : List ℕ). B ++ x) (i.begins ∙ ap (λ (x : List ℕ). I ++ x) (c.begins ∙ ap (λ (x : List ℕ). R ++ x) last))

asks_forth : (s : List ℕ) (j : Asked) → job_of s ≡ asks j → AsksFor s j
unfolding job_of
asks_forth s j e =
    let (h, e0) = cond_job (leb (length s) most_bytes) _ 0 e in
    let (b, p1, l1, e1) = next_job (only (line_at bits_form s 0)) 1 _ e0 in
    let (w, p2, l2, e2) = next_job (only (line_at input_form s p1)) 2 _ e1 in
    let (r, p3, l3, e3) = next_job (report_at s p2) 3 _ e2 in
    let (ts, p4, l4, e4) = next_job (targets_at s p3) 4 _ e3 in
    let asked : Asked = record { head = record { bits = b; input = w; by_width = r }; targets = ts } in
    let (f, e5) = cond_job (eqb p4 (length s)) (asks asked) 5 e4 in
    let (o1, t1) = (bits_line_lem s).taken 0 s b p1 (left_start s) l1 in
    let (o2, t2) = (input_line_lem s).taken p1 t1.more w p2 t1.left l2 in
    let (o3, t3) = (report_line_lem s).taken p2 t2.more r p3 t2.left l3 in
    let (o4, t4) = (targets_line_lem s).taken p3 t3.more ts p4 t3.left l4 in
    let i : asked ≡ j = cc in
    subst (AsksFor s) {x = asked} i (record { short = leb-true _ _ h; bits = o1; input = o2; targets = o4; lines = four {E = targets_line ts} {at = p4} t1 t2 t3 t4 (eqb-true p4 (length s) f) })

asks_back : (s : List ℕ) (j : Asked) → AsksFor s j → job_of s ≡ asks j
unfolding job_of
asks_back s j a =
    let B : List ℕ = bits_line j.head.bits in
    let I : List ℕ = input_line j.head.input in
    let R : List ℕ = report_line j.head.by_width in
    let E : List ℕ = targets_line j.targets in
    let at1 : Left s 0 (B ++ (I ++ (R ++ E))) = left_is a.lines (left_start s) in
    let at2 = left_on B (I ++ (R ++ E)) at1 in
    let at3 = left_on I (R ++ E) at2 in
    let at4 = left_is (sym (append-nil E)) (left_on R E at3) in
    let at5 = left_room (left_on E [] at4) in
    rw (
      le-leb (length s) most_bytes a.short,
      (bits_line_lem s).back 0 (I ++ (R ++ E)) j.head.bits a.bits at1,
      (input_line_lem s).back (0 + length B) (R ++ E) j.head.input a.input at2,
      (report_line_lem s).back (0 + length B + length I) E j.head.by_width tt at3,
      (targets_line_lem s).back (0 + length B + length I + length R) [] j.targets a.targets at4,
      eq-eqb (0 + length B + length I + length R + length E) (length s) (omega arith),
    ) refl

pub job_asks : (s : List ℕ) (j : Asked) → (job_of s ≡ asks j) ↔ AsksFor s j
job_asks s j = (asks_forth s j, asks_back s j)

-- ---- a text that is malformed

malformed_is : {p q : ℕ} → malformed q ≡ malformed p → p ≡ q
malformed_is e = cc

-- a line that is read exactly, and the lines behind it
module _ {A : Type 0} {Ok : A → Type 0} {text : A → List ℕ} {s : List ℕ} {read : ℕ → Line A} (exact : Exact Ok text s read) (K : Kind)
    (kind : (a : A) → Ok a → K (text a)) (of-kind : (line : List ℕ) → K line → (a : A) × Ok a × (line ≡ text a)) where
  bad_next : (k p : ℕ) (cont : A → ℕ → ℕ → Job) (Behind : List ℕ → Type 0)
      → ((a : A) (at : ℕ) (rest : List ℕ) → Left s at rest → (cont a (k + 1) at ≡ malformed p) ↔ Behind rest)
      → (at : ℕ) (rest : List ℕ) → Left s at rest
      → (next (read at) k cont ≡ malformed p)
      ↔ (((p ≡ k) × ((line more : List ℕ) → K line → ¬ (rest ≡ line ++ more)))
      ⊎ ((line : List ℕ) × (more : List ℕ) × K line × (rest ≡ line ++ more) × Behind more))
  bad_next k p cont Behind after at rest l = (forth (read at) refl, ⊎_elim (λ (i, none). here i none (read at) refl) (λ (line, more, x, i, b). behind line more x i b))
    where
      reads : (line more : List ℕ) → K line → rest ≡ line ++ more → (a : A) × (q : ℕ) × (read at ≡ Some (a, q)) × Left s q more
      reads line more x i =
          let (a, w, j) = of-kind line x in
          let m = left_is (i ∙ ap (λ (y : List ℕ). y ++ more) j) l in
          (a, at + length (text a), exact.back at more a w m, left_on (text a) more m)

      forth : (r : Line A) → read at ≡ r → next r k cont ≡ malformed p
          → ((p ≡ k) × ((line more : List ℕ) → K line → ¬ (rest ≡ line ++ more)))
          ⊎ ((line : List ℕ) × (more : List ℕ) × K line × (rest ≡ line ++ more) × Behind more)
      forth (Some (a, q)) e h =
          let (w, t) = exact.taken at rest a q l e in
          inr (text a, t.more, kind a w, t.begins, (after a q t.more t.left).0 h)
      forth None e h = inl (malformed_is h, λ line more x i. let (a, q, g, m) = reads line more x i in no_some (sym e ∙ g))

      here : p ≡ k → ((line more : List ℕ) → K line → ¬ (rest ≡ line ++ more)) → (r : Line A) → read at ≡ r → next r k cont ≡ malformed p
      here i none (Some (a, q)) e = let (w, t) = exact.taken at rest a q l e in absurd (none (text a) t.more (kind a w) t.begins)
      here i none None e = ap malformed (sym i)

      behind : (line more : List ℕ) → K line → rest ≡ line ++ more → Behind more → next (read at) k cont ≡ malformed p
      behind line more x i b =
          let (a, q, g, m) = reads line more x i in
          ap (λ r. next r k cont) g ∙ (after a q more m).1 b

-- nothing may follow the last
bad_end : (s : List ℕ) (j : Asked) (k p at : ℕ) (rest : List ℕ) → Left s at rest → (ended s (asks j) k at ≡ malformed p) ↔ ((p ≡ k) × (¬ (rest ≡ [])))
bad_end s j k p at rest l = (forth (eqb at (length s)) refl, λ (i, n). rw (ne_eqb at (length s) (λ e. n (left_none rest l e))) (ap malformed (sym i)))
  where
    forth : (b : Bool) → eqb at (length s) ≡ b → cond b (asks j) (malformed k) ≡ malformed p → (p ≡ k) × (¬ (rest ≡ []))
    forth true e h = no_job (sym h)
    forth false e h = (malformed_is h, λ i. eqb-false at (length s) e (let room = left_room l in let none = ap length i in omega arith))

-- the parser's lines, if the text is not too long
abbrev parsed : List ℕ → Job
parsed s =
    next (only (line_at bits_form s 0)) 1 λ b line at.
    next (only (line_at input_form s at)) line λ w line at.
    next (report_at s at) line λ r line at.
    next (targets_at s at) line λ ts line at.
    ended s (asks (record { head = record { bits = b; input = w; by_width = r }; targets = ts })) line at

bad_lines : (s : List ℕ) (p : ℕ) → (parsed s ≡ malformed p) ↔ BadAt 1 kinds s p
bad_lines s p =
    bad_next (bits_line_lem s) _ (λ z w. (z, w, refl)) (λ line x. x) 1 p _ _
    (λ b. bad_next (input_line_lem s) _ (λ z w. (z, w, refl)) (λ line x. x) 2 p _ _
    (λ w. bad_next (report_line_lem s) _ (λ r u. (r, refl)) (λ line x. (x.0, tt, x.1)) 3 p _ _
    (λ r. bad_next (targets_line_lem s) _ (λ zs v. (zs, v, refl)) (λ line x. x) 4 p _ _
    (λ ts. bad_end s (record { head = record { bits = b; input = w; by_width = r }; targets = ts }) 5 p))))
    0 s (left_start s)

pub job_malformed : (s : List ℕ) (p : ℕ) → (job_of s ≡ malformed p) ↔ MalformedAt s p
unfolding job_of
job_malformed s p = (
  forth (leb (length s) most_bytes) refl,
  ⊎_elim (λ (i, h). rw (lt-leb (length s) most_bytes h) (ap malformed (sym i))) (λ (h, b). rw (le-leb (length s) most_bytes h) ((bad_lines s p).1 b)),
)
  where
    forth : (b : Bool) → leb (length s) most_bytes ≡ b → cond b (parsed s) (malformed 0) ≡ malformed p → MalformedAt s p
    forth true e h = inr (leb-true _ _ e, (bad_lines s p).0 h)
    forth false e h = inl (malformed_is h, leb-false _ _ e)
