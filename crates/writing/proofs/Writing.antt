-- What was written: one text after the other, and the room that is left. Assumes nothing.
use mathlib.Core.Path.{◌≡◌, refl, ap, ◌∙◌, sym}
use mathlib.Core.Bool.{Bool, true, false, cond}
use mathlib.Core.List.{List, [], ◌∷◌, ◌++◌, append_assoc, append-nil}
use Prim.Native.Nat.{ℕ, suc, ◌+◌, ◌-◌, ◌≤◌, ◌<◌}
use native.Mathlib.Numerals.{add-one}
use native.Mathlib.Omega.{arith}
use lib.IntN.{ℤ, pos, negsuc, nat_abs}
use lib.ListN.{length, take, drop, set, get_or, length-append, drop_of_length-le}
use lib.Seq.{sets, sets-eq, length-sets, drop-cons, drop-drop, take_all}
use lib.Signed.{lt_z}
use borrow.Author.Tests.{ltb-true, eq-eqb, ne_eqb}
use mir.Syntax.{w64}
use mir.Val.{SFits, to_z, of_z}
use mir.ValLaws.{to_z-of_z}
use Rattle.meaning.specs.Forms.{piece, taken, line_of, lines_of}
use Rattle.meaning.specs.Text.{unsigned_text, text_of}
use Rattle.laws.proofs.Text.Forms.{lines_more, lines_part}
use Rattle.writing.specs.Wrote.{Wrote}

-- two runs of stores are one, with no condition on the buffer's length
sets_append : (t u d : List ℕ) (a b : ℕ) → b ≡ a + length t → sets (sets d a t) b u ≡ sets d a (t ++ u)
sets_append [] u d a b e = let k : b ≡ a = omega arith in ap (λ (q : ℕ). sets d q u) k
sets_append (x ∷ t) u d a b e = sets_append t u (set d a x) (suc a) b (omega arith)

-- a text leaves the buffer's length
pub kept : {a b : ℕ} {d e t : List ℕ} → Wrote d a t e b → length e ≡ length d
kept {a} {b} {d} {e} {t} p = ap length p.stored ∙ length-sets d a t

infixl 5 ◌⨾◌
-- one text after the other
pub ◌⨾◌ : {a b c : ℕ} {d e f t u : List ℕ} → Wrote d a t e b → Wrote e b u f c → Wrote d a (t ++ u) f c
◌⨾◌ {a} {b} {c} {d} {e} {f} {t} {u} p q =
    let k : length (t ++ u) ≡ length t + length u = length-append t u in
    let i = p.place in
    let j = q.place in
    let g = q.fits in
    record {
      stored = q.stored ∙ ap (λ (x : List ℕ). sets x b u) p.stored ∙ sets_append t u d a b p.place;
      place = omega arith;
      fits = omega (arith, kept p);
    }

pub same_text : {a b : ℕ} {d e t u : List ℕ} → t ≡ u → Wrote d a t e b → Wrote d a u e b
same_text {a} {b} {d} {e} {t} {u} k p =
    record { stored = p.stored ∙ ap (sets d a) k; place = p.place ∙ ap (λ (x : List ℕ). a + length x) k; fits = rw k at p.fits }

-- what stands for a form's byte: the number for #, or the byte itself
pub piece_number : (b : ℕ) (z : ℤ) → b ≡ 35 → text_of z ≡ piece b z
piece_number b z h = sym (ap (λ (t : Bool). cond t (text_of z) (b ∷ [])) (eq-eqb b 35 h))

pub piece_byte : (b : ℕ) (z : ℤ) → (b ≡ 35 → ⊥) → b ∷ [] ≡ piece b z
piece_byte b z h = sym (ap (λ (t : Bool). cond t (text_of z) (b ∷ [])) (ne_eqb b 35 h))

-- the number that is written, which comes back through its bits, stands for #
pub wrote_number : (b at n : ℕ) (y z : ℤ) (d e : List ℕ) → SFits w64 y → y ≡ z → b ≡ 35 → Wrote d at (text_of (to_z w64 (of_z w64 y))) e n → Wrote d at (piece b z) e n
wrote_number b at n y z d e h i k w = same_text (ap text_of i ∙ piece_number b z k) (rw (to_z-of_z w64 y h) at w)

pub takes_one : (b : ℕ) (zs : List ℤ) → b ≡ 35 → drop (taken b) zs ≡ drop 1 zs
takes_one b zs h = rw (eq-eqb b 35 h) refl

pub takes_none : (b : ℕ) (zs : List ℤ) → (b ≡ 35 → ⊥) → drop (taken b) zs ≡ zs
takes_none b zs h = rw (ne_eqb b 35 h) refl

-- any two allowed results are equal
pub one_wrote : {a b b' : ℕ} {d e e' t : List ℕ} → Wrote d a t e b → Wrote d a t e' b' → (e ≡ e') × (b ≡ b')
one_wrote p q = (p.stored ∙ sym q.stored, p.place ∙ sym q.place)

pub nothing : (d : List ℕ) (a : ℕ) → a ≤ length d → Wrote d a [] d a
nothing d a h = record { stored = refl; place = omega arith; fits = omega arith }

-- and leaves the room for what follows it
pub room : {a b : ℕ} {d e t : List ℕ} (u : List ℕ) → Wrote d a t e b → a + length (t ++ u) ≤ length d → b + length u ≤ length e
room {t = t} u p h = let k = kept p in let i = p.place in let g = length-append t u in omega arith

-- ---- a text that is copied to its place

pub wrote_part : (d : List ℕ) (at : ℕ) (text now : List ℕ) → at + length text ≤ length d → now ≡ text
    → Wrote d at text (take at d ++ (now ++ drop (at + length text - at) (drop at d))) (at + length text)
wrote_part d at text now h e =
    let k : at + (at + length text - at) ≡ at + length text = omega arith in
    record {
      stored = rw (e, drop-drop, k) (sym (append_assoc (take at d) text (drop (at + length text) d)) ∙ sym (sets-eq text d at h));
      place = refl;
      fits = h;
    }

-- ---- a sign, and then the magnitude

-- one byte
pub byte : (d : List ℕ) (at c : ℕ) → at < length d → Wrote d at (c ∷ []) (set d at c) (at + 1)
byte d at c h = record { stored = refl; place = refl; fits = omega arith }

pub below_text : (z : ℤ) → lt_z z (pos 0) ≡ true → text_of z ≡ 45 ∷ unsigned_text (nat_abs z)
below_text (pos n) e = let h = ltb-true n 0 e in let y : ⊥ = omega arith in absurd y
below_text (negsuc n) e = refl

pub other_text : (z : ℤ) → lt_z z (pos 0) ≡ false → text_of z ≡ unsigned_text (nat_abs z)
other_text (pos n) e = refl
other_text (negsuc n) e = let y : ◌≡◌ {A = ℕ} 0 1 = cc in let z : ⊥ = omega arith in absurd z

-- ---- a line, byte by byte of its form

-- what is left of a form and of the numbers, one byte on
module _ (form : List ℕ) (i : ℕ) (left : List ℤ) where
  abbrev part : List ℕ
  part = piece (get_or form i 0) (get_or left 0 (pos 0))

  abbrev behind : List ℕ
  behind = line_of (drop (i + 1) form) (drop (taken (get_or form i 0)) left)

  line_next : i < length form → line_of (drop i form) left ≡ part ++ behind
  unfolding line_of
  line_next h = rw (drop-cons form i 0 h, add-one) refl

  line_none : length form ≤ i → line_of (drop i form) left ≡ []
  unfolding line_of
  line_none h = rw (drop_of_length-le form {i = i} h) refl

-- i bytes of the form are written, and `left` are the numbers that are not
pub record Begun (form : List ℕ) (zs : List ℤ) (d : List ℕ) (a : ℕ) (e : List ℕ) (b : ℕ) (left : List ℤ) (i : ℕ) : Type 0 where
  pub done : List ℕ
  pub whole : line_of form zs ≡ done ++ line_of (drop i form) left
  pub wrote : Wrote d a done e b

pub begin : (form : List ℕ) (zs : List ℤ) (d : List ℕ) (a : ℕ) → a ≤ length d → Begun form zs d a d a zs 0
begin form zs d a h = record { done = []; whole = refl; wrote = nothing d a h }

module _ {form : List ℕ} {zs : List ℤ} {d : List ℕ} {a : ℕ} {e : List ℕ} {b : ℕ} {left : List ℤ} {i : ℕ} (g : Begun form zs d a e b left i) where
  more : i < length form → line_of form zs ≡ (g.done ++ part form i left) ++ behind form i left
  more h = g.whole ∙ ap (λ (l : List ℕ). g.done ++ l) (line_next form i left h) ∙ sym (append_assoc g.done (part form i left) (behind form i left))

  pub part_room : i < length form → a + length (line_of form zs) ≤ length d → b + length (part form i left) ≤ length e
  part_room h k = room (part form i left) g.wrote (omega (arith, ap length (more h), length-append (g.done ++ part form i left) (behind form i left)))

  pub part_on : {f : List ℕ} {c : ℕ} → i < length form → Wrote e b (part form i left) f c → Begun form zs d a f c (drop (taken (get_or form i 0)) left) (i + 1)
  part_on h w = record { done = g.done ++ part form i left; whole = more h; wrote = g.wrote ⨾ w }

  pub line_done : length form ≤ i → Wrote d a (line_of form zs) e b
  line_done h = same_text (sym (g.whole ∙ ap (λ (l : List ℕ). g.done ++ l) (line_none form i left h) ∙ append-nil g.done)) g.wrote

-- ---- lines of one form, line by line: k of them are written

pub lines_start : (form : List ℕ) (zss : List (List ℤ)) (d : List ℕ) (a : ℕ) → a ≤ length d → Wrote d a (lines_of form (take 0 zss)) d a
unfolding lines_of
lines_start form zss d a h = nothing d a h

module _ (form : List ℕ) (zss : List (List ℤ)) {d : List ℕ} {a : ℕ} {e : List ℕ} {b : ℕ} (k : ℕ) (w : Wrote d a (lines_of form (take k zss)) e b) where
  pub line_fits : k < length zss → a + length (lines_of form zss) ≤ length d → b + length (line_of form (get_or zss k [])) ≤ length e
  line_fits h r = room (line_of form (get_or zss k [])) w (rw (← lines_more form zss k h) (omega (arith, lines_part form zss (k + 1))))

  pub line_on : {f : List ℕ} {c : ℕ} → k < length zss → Wrote e b (line_of form (get_or zss k [])) f c → Wrote d a (lines_of form (take (k + 1) zss)) f c
  line_on h v = same_text (sym (lines_more form zss k h)) (w ⨾ v)

  pub lines_end : length zss ≤ k → Wrote d a (lines_of form zss) e b
  lines_end h = same_text (ap (lines_of form) (take_all k zss h)) w

-- what has room in front of another text has room
pub front_fits : {n : ℕ} (a : ℕ) (t u : List ℕ) → a + length (t ++ u) ≤ n → a + length t ≤ n
front_fits a t u h = omega (arith, length-append t u)
