-- Lines at a place of a text: bytes, a number and a line of any form are read there exactly if they are written there. Assumes nothing.
use mathlib.Core.Path.{◌≡◌, refl, ap, ◌∙◌, sym, subst}
use mathlib.Core.Bool.{Bool, true, false, cond, not, ◌&&◌}
use mathlib.Core.List.{List, [], ◌∷◌, ◌++◌, append_assoc}
use mathlib.Core.Logic.{◌↔◌}
use Prim.Native.Nat.{ℕ, zero, suc, ◌+◌}
use native.Mathlib.Nat.{add-zero}
use native.Mathlib.Omega.{arith}
use lib.Dec.{T, eqb, ltb}
use lib.IntN.{ℤ, pos}
use lib.ListN.{length, get_or, drop, length-append}
use lib.Seq.{drop-append_seam, get_or-append_seam}
use mir.Syntax.{w32}
use mir.Val.{SFits}
use borrow.Author.Tests.{lt-ltb, eq-eqb, ltb-true, eqb-true, not-true}
use Rattle.std.specs.Prelude.{Option, Some, None}
use Rattle.std.proofs.lemmas.Option.{same_Some, some_pair_parts}
use Rattle.meaning.specs.Basics.{every}
use Rattle.meaning.specs.Text.{bytes, is_digit, span, stands, number_at, text_of}
use Rattle.meaning.specs.Forms.{line_of, Line, on_read, front, read_number, read_byte, line_at, report_text}
use Rattle.meaning.specs.Job.{only, report_at, numbers}
use Rattle.laws.proofs.Lists.Tests.{both_of, true_of}
use Rattle.laws.proofs.Text.Numerals.{rest_cons, unsigned_none, number_plain, no_some, under_test, number_read}
use Rattle.laws.proofs.Text.ReadBack.{read_back, number_text}

-- ---- what is left of a text at a place

pub record Left (s : List ℕ) (at : ℕ) (rest : List ℕ) : Type 0 where
  pub passed : List ℕ
  pub whole : s ≡ passed ++ rest
  pub place : at ≡ length passed

-- what is left begins with these bytes, and p is the place behind them
pub record Taken (s rest t : List ℕ) (p : ℕ) : Type 0 where
  pub more : List ℕ
  pub begins : rest ≡ t ++ more
  pub left : Left s p more

pub left_start : (s : List ℕ) → Left s 0 s
left_start s = record { passed = []; whole = refl; place = refl }

module _ {s : List ℕ} {at : ℕ} where
  pub left_is : {rest more : List ℕ} → rest ≡ more → Left s at rest → Left s at more
  left_is e l = record { passed = l.passed; whole = l.whole ∙ ap (λ (q : List ℕ). l.passed ++ q) e; place = l.place }

  pub left_on : (t rest : List ℕ) → Left s at (t ++ rest) → Left s (at + length t) rest
  left_on t rest l = record {
    passed = l.passed ++ t;
    whole = l.whole ∙ sym (append_assoc l.passed t rest);
    place = let k = length-append l.passed t in let p = l.place in omega arith;
  }

  pub left_room : {rest : List ℕ} → Left s at rest → length s ≡ at + length rest
  left_room {rest} l = ap length l.whole ∙ length-append l.passed rest ∙ ap (λ (k : ℕ). k + length rest) (sym l.place)

  pub left_drop : {rest : List ℕ} → Left s at rest → drop at s ≡ rest
  left_drop {rest} l = ap (λ (q : ℕ). drop q s) l.place ∙ ap (drop (length l.passed)) l.whole ∙ drop-append_seam l.passed rest

  pub left_first : {c : ℕ} {rest : List ℕ} → Left s at (c ∷ rest) → get_or s at 0 ≡ c
  left_first {c} {rest} l = ap (λ (q : ℕ). get_or s q 0) l.place ∙ ap (λ (q : List ℕ). get_or q (length l.passed) 0) l.whole ∙ get_or-append_seam l.passed c rest 0

  pub take_on : (t more : List ℕ) {rest : List ℕ} {p : ℕ} → rest ≡ t ++ more → p ≡ at + length t → Left s at rest → Taken s rest t p
  take_on t more e q l = record { more = more; begins = e; left = subst (λ p. Left s p more) (sym q) (left_on t more (left_is e l)) }

-- one part behind the other
pub taken_on : {s rest t u : List ℕ} {p q : ℕ} (a : Taken s rest t p) → Taken s a.more u q → Taken s rest (t ++ u) q
taken_on {t = t} {u = u} a b = record { more = b.more; begins = a.begins ∙ ap (λ (l : List ℕ). t ++ l) b.begins ∙ sym (append_assoc t u b.more); left = b.left }

-- ---- what a good line was made of

pub read_line : {A : Type 0} (r : Option (ℤ × ℕ)) (k : ℤ → ℕ → Line A) {a : A} {q : ℕ} → on_read r k ≡ Some (a, q)
    → (z : ℤ) × (p : ℕ) × (r ≡ Some (z, p)) × (k z p ≡ Some (a, q))
read_line (Some (z, p)) k e = (z, p, refl, e)
read_line None k e = no_some e

pub front_line : (z : ℤ) (l : Line (List ℤ)) {zs : List ℤ} {q : ℕ} → front z l ≡ Some (zs, q) → (ys : List ℤ) × (zs ≡ z ∷ ys) × (l ≡ Some (ys, q))
front_line z (Some (ys, p)) e = let (i, q) = some_pair_parts _ _ _ _ e in (ys, sym i, ap (λ (n : ℕ). Some (ys, n)) q)
front_line z None e = no_some e

-- ---- bytes

stands_by : (a b r : Bool) → cond a (cond b r false) false ≡ true → (a ≡ true) × (b ≡ true) × (r ≡ true)
stands_by true true r e = (refl, refl, e)
stands_by true false r e = let x : ◌≡◌ {A = ℕ} 0 1 = cc in absurd (omega arith)
stands_by false b r e = let x : ◌≡◌ {A = ℕ} 0 1 = cc in absurd (omega arith)

pub stands_taken : (t : List ℕ) {s : List ℕ} {at : ℕ} {rest : List ℕ} → Left s at rest → stands t s at ≡ true → Taken s rest t (at + length t)
unfolding stands
stands_taken [] {rest = rest} l e = take_on [] rest refl refl l
stands_taken (c ∷ cs) {s} {at} {rest} l e =
    let (a, b, r) = stands_by (ltb at (length s)) (eqb (get_or s at 0) c) (stands cs s (at + 1)) e in
    let i : rest ≡ (c ∷ []) ++ drop (at + 1) s = sym (left_drop l) ∙ rest_cons s (ltb-true _ _ a) ∙ ap (λ (d : ℕ). d ∷ drop (at + 1) s) (eqb-true _ _ b) in
    let u : Taken s rest (c ∷ []) (at + 1) = take_on (c ∷ []) (drop (at + 1) s) i refl l in
    let k : at + 1 + length cs ≡ at + suc (length cs) = omega arith in
    subst (Taken s rest (c ∷ cs)) k (taken_on u (stands_taken cs u.left r))

pub stands_back : (t : List ℕ) {s : List ℕ} {at : ℕ} (rest : List ℕ) → Left s at (t ++ rest) → stands t s at ≡ true
unfolding stands
stands_back [] rest l = refl
stands_back (c ∷ cs) {s} {at} rest l =
    let h = left_room l in
    rw (lt-ltb at (length s) (omega arith), eq-eqb (get_or s at 0) c (left_first l)) (stands_back cs rest (left_on (c ∷ []) (cs ++ rest) l))

pub stands_not : (t : List ℕ) {s : List ℕ} {at : ℕ} {rest : List ℕ} → Left s at rest → ((more : List ℕ) → ¬ (rest ≡ t ++ more)) → stands t s at ≡ false
stands_not t {s} {at} l h = go (stands t s at) refl
  where
    go : (b : Bool) → stands t s at ≡ b → b ≡ false
    go true e = let u = stands_taken t l e in absurd (h u.more u.begins)
    go false e = refl

-- ---- a number

module _ {s : List ℕ} {at : ℕ} where
  pub number_taken : {rest : List ℕ} {z : ℤ} {p : ℕ} → Left s at rest → number_at s at ≡ Some (z, p) → SFits w32 z × Taken s rest (text_of z) p
  number_taken {z = z} {p = p} l e =
      let (q, w) = number_text s at z p e in
      ((number_read s at z p e).1, take_on (text_of z) (drop p s) (sym (left_drop l) ∙ w) q l)

  pub number_back : (z : ℤ) (rest : List ℕ) → SFits w32 z → span rest ≡ 0 → Left s at (text_of z ++ rest) → number_at s at ≡ Some (z, at + length (text_of z))
  number_back z rest h e l =
      ap (λ (x : List ℕ). number_at x at) l.whole ∙ ap (number_at (l.passed ++ (text_of z ++ rest))) l.place ∙ read_back z l.passed rest h e
      ∙ ap (λ (x : ℕ). Some (z, x + length (text_of z))) (sym l.place)

  -- a number begins with its sign or a digit
  pub number_not : {c : ℕ} {rest : List ℕ} → is_digit c ≡ false → ¬ (c ≡ 45) → Left s at (c ∷ rest) → number_at s at ≡ None
  number_not {c} {rest} d n l =
      number_plain s at (λ e. n (sym (left_first l) ∙ e))
      ∙ unsigned_none false s at (ap span (left_drop l) ∙ ap (λ (b : Bool). cond b (suc (span rest)) 0) d)

-- and without one there is no list of them
pub numbers_none : (s : List ℕ) (at most : ℕ) → number_at s at ≡ None → numbers most s at ≡ None
unfolding numbers
numbers_none s at zero e = refl
numbers_none s at (suc most) e = rw e refl

-- ---- forms and numbers

-- how many numbers a form has
abbrev pub blanks : List ℕ → ℕ
blanks [] = 0
blanks (c ∷ cs) = cond (eqb c 35) 1 0 + blanks cs

abbrev pub is_solid : ℕ → Bool
is_solid c = not (eqb c 35)

-- a byte that ends a number: no digit and no blank
abbrev pub does_end : List ℕ → Bool
does_end [] = false
does_end (c ∷ cs) = not (is_digit c) && is_solid c

-- after each number comes such a byte
abbrev pub is_spaced : List ℕ → Bool
is_spaced [] = true
is_spaced (c ∷ cs) = cond (eqb c 35) (does_end cs) true && is_spaced cs

abbrev pub AllFit : List ℤ → Type 0
AllFit [] = Unit {0}
AllFit (z ∷ zs) = SFits w32 z × AllFit zs

-- what a byte of a form makes of a line
line_number : (c : ℕ) (cs : List ℕ) (z : ℤ) (zs : List ℤ) → eqb c 35 ≡ true → line_of (c ∷ cs) (z ∷ zs) ≡ text_of z ++ line_of cs zs
unfolding line_of
line_number c cs z zs e = rw e refl

line_byte : (c : ℕ) (cs : List ℕ) (zs : List ℤ) → eqb c 35 ≡ false → line_of (c ∷ cs) zs ≡ c ∷ line_of cs zs
unfolding line_of
line_byte c cs zs e = rw e refl

-- bytes in front of a form
pub line_front : (t form : List ℕ) (zs : List ℤ) → T (every is_solid t) → line_of (t ++ form) zs ≡ t ++ line_of form zs
line_front [] form zs h = refl
line_front (c ∷ t) form zs h =
    let p = both_of (is_solid c) (every is_solid t) h in
    line_byte c (t ++ form) zs (not-true (eqb c 35) (true_of (is_solid c) p.0)) ∙ ap (λ (u : List ℕ). c ∷ u) (line_front t form zs p.1)

-- ---- a line of a form: what is read was written

abbrev LineTaken : List ℕ → List ℕ → List ℕ → List ℤ → ℕ → Type 0
LineTaken form s rest zs p = AllFit zs × (blanks form ≡ length zs) × Taken s rest (line_of form zs) p

module _ (c : ℕ) (cs s : List ℕ) (rec : (at : ℕ) (rest : List ℕ) (zs : List ℤ) (p : ℕ) → Left s at rest → line_at cs s at ≡ Some (zs, p) → LineTaken cs s rest zs p) where
  taken_by : (b : Bool) {at : ℕ} {rest : List ℕ} {zs : List ℤ} {p : ℕ} → eqb c 35 ≡ b → Left s at rest → cond b read_number (read_byte c) s at (line_at cs s) ≡ Some (zs, p)
      → AllFit zs × (cond b 1 0 + blanks cs ≡ length zs) × Taken s rest (line_of (c ∷ cs) zs) p
  taken_by true {at} {rest} {zs} {p} h l e =
      let (z, q, r, f) = read_line (number_at s at) _ e in
      let (ys, i, g) = front_line z (line_at cs s q) f in
      let (w, t) = number_taken l r in
      let (ws, n, u) = rec q t.more ys p t.left g in
      let whole : Taken s rest (line_of (c ∷ cs) (z ∷ ys)) p = subst (λ x. Taken s rest x p) (sym (line_number c cs z ys h)) (taken_on t u) in
      let k : 1 + blanks cs ≡ suc (length ys) = omega arith in
      subst (λ xs. AllFit xs × (1 + blanks cs ≡ length xs) × Taken s rest (line_of (c ∷ cs) xs) p) (sym i) ((w, ws), k, whole)
  taken_by false {at} {rest} {zs} {p} h l e =
      let (b, f) = under_test (stands (c ∷ []) s at) _ e in
      let t = stands_taken (c ∷ []) l b in
      let (ws, n, u) = rec (at + 1) t.more zs p t.left f in
      (ws, omega arith, subst (λ x. Taken s rest x p) (sym (line_byte c cs zs h)) (taken_on t u))

line_taken : (form : List ℕ) {s : List ℕ} {at : ℕ} {rest : List ℕ} {zs : List ℤ} {p : ℕ} → Left s at rest → line_at form s at ≡ Some (zs, p)
    → AllFit zs × (blanks form ≡ length zs) × Taken s rest (line_of form zs) p
unfolding line_at line_of
line_taken [] {s} {at} {rest} {zs} {p} l e =
    let (i, q) = some_pair_parts _ _ _ _ e in
    subst (λ xs. LineTaken [] s rest xs p) i (tt, refl, take_on [] rest refl (sym q ∙ sym (add-zero at)) l)
line_taken (c ∷ cs) {s} l e = taken_by c cs s (λ at rest zs p. line_taken cs) (eqb c 35) refl l e

-- ---- and what is written is read

stop_by : (b : Bool) (n : ℕ) → T (not b) → cond b (suc n) 0 ≡ 0
stop_by true n e = absurd e
stop_by false n e = refl

-- behind a number its line goes on with no digit
text_stop : (cs : List ℕ) (zs : List ℤ) (rest : List ℕ) → T (does_end cs) → span (line_of cs zs ++ rest) ≡ 0
text_stop [] zs rest h = absurd h
text_stop (c ∷ cs) zs rest h =
    let p = both_of (not (is_digit c)) (is_solid c) h in
    ap (λ (l : List ℕ). span (l ++ rest)) (line_byte c cs zs (not-true (eqb c 35) (true_of (is_solid c) p.1))) ∙ stop_by (is_digit c) (span (line_of cs zs ++ rest)) p.0

module _ (c : ℕ) (cs s rest : List ℕ) (h : T (cond (eqb c 35) (does_end cs) true))
    (rec : (at : ℕ) (zs : List ℤ) → blanks cs ≡ length zs → AllFit zs → Left s at (line_of cs zs ++ rest) → line_at cs s at ≡ Some (zs, at + length (line_of cs zs))) where
  back_by : (b : Bool) {at : ℕ} → eqb c 35 ≡ b → (zs : List ℤ) → cond b 1 0 + blanks cs ≡ length zs → AllFit zs → Left s at (line_of (c ∷ cs) zs ++ rest)
      → cond b read_number (read_byte c) s at (line_at cs s) ≡ Some (zs, at + length (line_of (c ∷ cs) zs))
  back_by true e [] n w l = absurd (omega arith)
  back_by true {at} e (z ∷ zs) n w l =
      let i = line_number c cs z zs e in
      let here : Left s at (text_of z ++ (line_of cs zs ++ rest)) = left_is (ap (λ (t : List ℕ). t ++ rest) i ∙ append_assoc (text_of z) (line_of cs zs) rest) l in
      let stop = text_stop cs zs rest (subst (λ (b : Bool). T (cond b (does_end cs) true)) e h) in
      let N = number_back z (line_of cs zs ++ rest) w.0 stop here in
      let I = rec (at + length (text_of z)) zs (omega arith) w.1 (left_on (text_of z) (line_of cs zs ++ rest) here) in
      let k = ap length i ∙ length-append (text_of z) (line_of cs zs) in
      let m : at + length (text_of z) + length (line_of cs zs) ≡ at + length (line_of (c ∷ cs) (z ∷ zs)) = omega arith in
      rw (N, I, m) refl
  back_by false {at} e zs n w l =
      let i = line_byte c cs zs e in
      let here : Left s at (c ∷ (line_of cs zs ++ rest)) = left_is (ap (λ (t : List ℕ). t ++ rest) i) l in
      let I = rec (at + 1) zs (omega arith) w (left_on (c ∷ []) (line_of cs zs ++ rest) here) in
      let m : at + 1 + length (line_of cs zs) ≡ at + length (line_of (c ∷ cs) zs) = let k = ap length i in omega arith in
      rw (stands_back (c ∷ []) (line_of cs zs ++ rest) here, I, m) refl

line_back : (form : List ℕ) {s : List ℕ} {at : ℕ} (rest : List ℕ) → T (is_spaced form) → (zs : List ℤ) → blanks form ≡ length zs → AllFit zs
    → Left s at (line_of form zs ++ rest) → line_at form s at ≡ Some (zs, at + length (line_of form zs))
unfolding line_at line_of
line_back [] {at = at} rest h [] n w l = ap (λ (p : ℕ). Some ([], p)) (sym (add-zero at))
line_back [] rest h (z ∷ zs) n w l = absurd (omega arith)
line_back (c ∷ cs) {s} rest h zs n w l =
    let p = both_of (cond (eqb c 35) (does_end cs) true) (is_spaced cs) h in
    back_by c cs s rest p.0 (λ at. line_back cs rest p.1) (eqb c 35) refl zs n w l

-- ---- a reader of lines of one kind is exact: it reads the texts of the things that are in range, and no others

pub record Exact {A : Type 0} (Ok : A → Type 0) (text : A → List ℕ) (s : List ℕ) (read : ℕ → Line A) : Type 0 where
  pub taken : (at : ℕ) (rest : List ℕ) (a : A) (p : ℕ) → Left s at rest → read at ≡ Some (a, p) → Ok a × Taken s rest (text a) p
  pub back : (at : ℕ) (rest : List ℕ) (a : A) → Ok a → Left s at (text a ++ rest) → read at ≡ Some (a, at + length (text a))

pub good_is : {A : Type 0} (P : A → ℕ → Type 0) {a b : A} {p q : ℕ} → ◌≡◌ {A = Line A} (Some (a, p)) (Some (b, q)) → P a p → P b q
good_is {A} P e h = subst (λ (r : A × ℕ). P r.0 r.1) (same_Some _ _ e) h

-- the range and the texts in other words
pub exact_as : {A : Type 0} {Ok In : A → Type 0} {text words : A → List ℕ} {s : List ℕ} {read : ℕ → Line A} → ((a : A) → Ok a ↔ In a) → ((a : A) → text a ≡ words a)
    → Exact Ok text s read → Exact In words s read
exact_as {s = s} {read} o e x = record {
  taken = λ at rest a p l g. let (w, t) = x.taken at rest a p l g in ((o a).0 w, subst (λ y. Taken s rest y p) (e a) t);
  back = λ at rest a w l.
      subst (λ y. read at ≡ Some (a, at + length y)) (e a) (x.back at rest a ((o a).1 w) (left_is (ap (λ (y : List ℕ). y ++ rest) (sym (e a))) l));
}

-- a form's line
pub form_exact : (form : List ℕ) → T (is_spaced form) → (s : List ℕ) → Exact (λ zs. AllFit zs × (blanks form ≡ length zs)) (line_of form) s (line_at form s)
form_exact form h s = record {
  taken = λ at rest zs p l e. let (w, n, t) = line_taken form l e in ((w, n), t);
  back = λ at rest zs w l. line_back form rest h zs w.1 w.0 l;
}

-- a line of one number
blank_text : (z : ℤ) → line_of (bytes "#\n") (z ∷ []) ≡ text_of z ++ bytes "\n"
unfolding line_of
blank_text z = refl

module _ (t : List ℕ) (solid : T (every is_solid t)) (one : blanks (t ++ bytes "#\n") ≡ 1) (spaced : T (is_spaced (t ++ bytes "#\n"))) (s : List ℕ) where
  abbrev form : List ℕ
  form = t ++ bytes "#\n"

  abbrev text : ℤ → List ℕ
  text z = t ++ (text_of z ++ bytes "\n")

  lines : Exact (λ zs. AllFit zs × (blanks form ≡ length zs)) (line_of form) s (line_at form s)
  lines = form_exact form spaced s

  form_text : (z : ℤ) → line_of form (z ∷ []) ≡ text z
  form_text z = line_front t (bytes "#\n") (z ∷ []) solid ∙ ap (λ (l : List ℕ). t ++ l) (blank_text z)

  pub number_exact : Exact (SFits w32) (λ z. t ++ (text_of z ++ bytes "\n")) s (λ at. only (line_at (t ++ bytes "#\n") s at))
  number_exact = record { taken = λ at rest z p l e. by at rest z p l (line_at form s at) refl e; back = again }
    where
      single : (rest : List ℕ) (p : ℕ) (zs : List ℤ) → AllFit zs → 1 ≡ length zs → Taken s rest (line_of form zs) p
          → SFits w32 (get_or zs 0 (pos 0)) × Taken s rest (text (get_or zs 0 (pos 0))) p
      single rest p [] w n u = absurd (omega arith)
      single rest p (z ∷ []) w n u = (w.0, subst (λ x. Taken s rest x p) (form_text z) u)
      single rest p (z ∷ y ∷ zs) w n u = absurd (omega arith)

      by : (at : ℕ) (rest : List ℕ) (z : ℤ) (p : ℕ) → Left s at rest → (line : Line (List ℤ)) → line_at form s at ≡ line → only line ≡ Some (z, p)
          → SFits w32 z × Taken s rest (text z) p
      by at rest z p l (Some (zs, q)) h e =
          let ((w, n), u) = lines.taken at rest zs q l h in
          good_is (λ x k. SFits w32 x × Taken s rest (text x) k) e (single rest q zs w (sym one ∙ n) u)
      by at rest z p l None h e = no_some e

      again : (at : ℕ) (rest : List ℕ) (z : ℤ) → SFits w32 z → Left s at (text z ++ rest) → only (line_at form s at) ≡ Some (z, at + length (text z))
      again at rest z w l =
          ap only (lines.back at rest (z ∷ []) ((w, tt), one) (left_is (ap (λ (x : List ℕ). x ++ rest) (sym (form_text z))) l))
          ∙ ap (λ (x : List ℕ). Some (z, at + length x)) (form_text z)

-- the report line
report_taken : (s : List ℕ) (at : ℕ) (rest : List ℕ) (b : Bool) (p : ℕ) → Left s at rest → report_at s at ≡ Some (b, p) → Unit {0} × Taken s rest (report_text b) p
unfolding report_at
report_taken s at rest b p l e = go (stands (report_text true) s at) refl e
  where
    go : (c : Bool) → stands (report_text true) s at ≡ c
        → cond {A = Line Bool} c (Some (true, at + 13)) (cond (stands (report_text false) s at) (Some (false, at + 11)) None) ≡ Some (b, p) → Unit {0} × Taken s rest (report_text b) p
    go true h f = good_is (λ x k. Unit {0} × Taken s rest (report_text x) k) f (tt, stands_taken (report_text true) l h)
    go false h f =
        let (i, g) = under_test (stands (report_text false) s at) _ f in
        good_is (λ x k. Unit {0} × Taken s rest (report_text x) k) g (tt, stands_taken (report_text false) l i)

report_back : (s : List ℕ) (at : ℕ) (rest : List ℕ) (b : Bool) → Unit {0} → Left s at (report_text b ++ rest) → report_at s at ≡ Some (b, at + length (report_text b))
unfolding report_at
report_back s at rest true w l = rw (stands_back (report_text true) rest l) refl
report_back s at rest false w l = rw (stands_not (report_text true) l other, stands_back (report_text false) rest l) refl
  where
    other : (more : List ℕ) → ¬ (report_text false ++ rest ≡ report_text true ++ more)
    other more e = let h : ◌≡◌ {A = ℕ} 114 119 = ap (λ (x : List ℕ). get_or x 7 0) e in omega arith

pub report_exact : (s : List ℕ) → Exact (λ b. Unit {0}) report_text s (report_at s)
report_exact s = record { taken = report_taken s; back = report_back s }
