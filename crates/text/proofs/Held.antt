-- A form, byte by byte, as a reader meets it: what the rest of it says behind the numbers that are held. Assumes nothing.
use Rattle.std.proofs.Common.{◌≡◌, refl, ap, ◌∙◌, sym, Bool, true, false, cond, List, [], ◌∷◌, ◌++◌, append_assoc, ℕ, ◌+◌, ◌≤◌, ◌<◌, length, take, drop, get_or, eqb, ℤ, Some, None, Result, Ok, Err, IsOk, OnOk, OnErr, ◌↔◌, length-append, arith}
use mathlib.Core.List.{append-nil}
use lib.ListN.{drop_of_length-le}
use lib.Seq.{take_all}
use borrow.Author.Tests.{eq-eqb, ne_eqb}
use Rattle.std.proofs.lemmas.Bool.Decides.{nat_tests}
use Rattle.std.proofs.lemmas.List.{take-append-le}
use Rattle.arrayvec.specs.ArrayVec.{ArrayVec}
use Rattle.meaning.specs.Text.{stands, number_at}
use Rattle.meaning.specs.Forms.{Line, taken, front, read_number, read_byte, line_at}
use Rattle.laws.proofs.Text.Numerals.{rest_cons}
use Rattle.text.specs.Held.{behind}

-- one more number, where there is room for it, and where there is none
module _ (room : ℕ) where
  front_kept : (before : List ℤ) (z : ℤ) (l : Line (List ℤ)) → behind room before (front z l) ≡ behind room (before ++ z ∷ []) l
  front_kept before z None = refl
  front_kept before z (Some (zs, p)) = ap (λ xs. Some (record { items = take room xs }, p)) (sym (append_assoc before (z ∷ []) zs))

  front_full : (before : List ℤ) (z : ℤ) (l : Line (List ℤ)) → room ≤ length before → behind room before (front z l) ≡ behind room before l
  front_full before z None h = refl
  front_full before z (Some (zs, p)) h =
      ap (λ xs. Some (record { items = xs }, p)) (take-append-le room before (z ∷ zs) h ∙ sym (take-append-le room before zs h))

  pub push_on : {T E : Type 0} (r : Result T E) (before now : ArrayVec ℤ) (z : ℤ) (l : Line (List ℤ)) → IsOk r ↔ (length before.items < room)
      → OnOk r (now.items ≡ before.items ++ z ∷ []) → OnErr r (now ≡ before) → OnErr r (length before.items ≡ room)
      → (length now.items ≤ room) × (behind room before.items (front z l) ≡ behind room now.items l)
  push_on (Ok x) before now z l v p q f =
      let h : length before.items < room = v.0 refl in
      (rw p (omega (arith, length-append before.items (z ∷ []))), front_kept before.items z l ∙ ap (λ xs. behind room xs l) (sym p))
  push_on (Err e) before now z l v p q f =
      let i = ap (λ x. x.items) q in
      (rw i (omega (arith, f)), front_full before.items z l (omega (arith, f)) ∙ ap (λ xs. behind room xs l) (sym i))

  -- nothing more
  pub behind_all : (before : List ℤ) (p : ℕ) → length before ≤ room → behind room before (Some ([], p)) ≡ Some (record { items = before }, p)
  behind_all before p h = ap (λ xs. Some (record { items = xs }, p)) (ap (take room) (append-nil before) ∙ take_all room before h)

-- a form's byte that takes a number is #, and one that takes none is another
pub takes : {n : ℕ} (c : ℕ) → n ≡ taken c → 0 < n → c ≡ 35
takes c e h = grind (arith, nat_tests)

pub takes_none : {n : ℕ} (c : ℕ) → n ≡ taken c → n ≤ 0 → c ≡ 35 → ⊥
takes_none c e h k = grind (arith, nat_tests)

module _ (s form : List ℕ) (at i : ℕ) where
  abbrev rest : Line (List ℤ)
  rest = line_at (drop i form) s at

  abbrev byte : ℕ
  byte = get_or form i 0

  pub line_ends : length form ≤ i → rest ≡ Some ([], at)
  unfolding line_at
  line_ends h = rw (drop_of_length-le form {i = i} h) refl

  module _ (h : i < length form) where
    by_byte : (b : Bool) → eqb byte 35 ≡ b → rest ≡ cond b read_number (read_byte byte) s at (line_at (drop (i + 1) form) s)
    unfolding line_at
    by_byte b e = rw (rest_cons form h, e) refl

    pub number_bad : byte ≡ 35 → number_at s at ≡ None → rest ≡ None
    number_bad e r = by_byte true (eq-eqb _ _ e) ∙ rw r refl

    pub number_good : {z : ℤ} {p : ℕ} → byte ≡ 35 → number_at s at ≡ Some (z, p) → rest ≡ front z (line_at (drop (i + 1) form) s p)
    number_good e r = by_byte true (eq-eqb _ _ e) ∙ rw r refl

    pub byte_bad : (byte ≡ 35 → ⊥) → stands (byte ∷ []) s at ≡ false → rest ≡ None
    byte_bad e r = by_byte false (ne_eqb _ _ e) ∙ rw r refl

    pub byte_good : (byte ≡ 35 → ⊥) → stands (byte ∷ []) s at ≡ true → rest ≡ line_at (drop (i + 1) form) s (at + 1)
    byte_good e r = by_byte false (ne_eqb _ _ e) ∙ rw r refl
