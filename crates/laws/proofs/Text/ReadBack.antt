-- A number of 64 bits that is written: its digits; what was written anywhere in a text, with no digit behind it, is read back; and what is read is a
-- number's text. Assumes nothing.
use mathlib.Core.Path.{◌≡◌, refl, ap, ◌∙◌, sym}
use mathlib.Core.Bool.{Bool, true, false, cond}
use mathlib.Core.List.Memᴰ
use mathlib.Core.List.{List, [], ◌∷◌, ◌++◌, append-nil, Memᴰ}
use Prim.Native.Nat.{ℕ, zero, suc, ◌+◌, ◌-◌, ◌*◌, ◌/◌, ◌%◌, ◌^◌, ◌≤◌, ◌<◌}
use mathlib.Core.Logic.{◌⊎◌, inl, inr, ⊎_elim}
use native.Mathlib.Nat.{pow-suc, add-zero}
use native.Mathlib.Omega.{arith}
use lib.Dec.{eqb, ltb}
use lib.IntN.{ℤ, pos, negsuc}
use lib.ListN.{length, take, drop, get_or, length-append, take-append-drop, get_or-append, get_or-eq_default}
use lib.Seq.{append_snoc, take-append_seam, drop-append_seam, get_or-append-add, get_or-append_seam, get_or-drop, drop-drop, length-take-le}
use mir.Syntax.{w32}
use mir.Val.{SFits}
use borrow.Author.Tests.{lt-ltb, le-ltb, ltb-true, ltb-false, ne_eqb, eqb-true, eqb-false, le-leb}
use Rattle.std.specs.Prelude.{Some}
use Rattle.meaning.specs.Text.{is_digit, span, value_of, is_plain, ranged, unsigned_at, number_at, decimal_in, unsigned_text, signed_text, text_of}
use Rattle.laws.proofs.Text.Numerals.{rest_cons, digit_range, span_le, plain_long, unsigned_read, sign_read, dec_small, dec_large, unsigned_good, number_minus, number_plain}

digit_char : (d : ℕ) → d < 10 → is_digit (48 + d) ≡ true
digit_char d h = rw (le-ltb (48 + d) 48 (omega arith), lt-ltb (48 + d) 58 (omega arith)) refl

span_cons : (d : ℕ) (rest : List ℕ) → d < 10 → span ((48 + d) ∷ rest) ≡ suc (span rest)
span_cons d rest h = ap (λ (b : Bool). cond b (suc (span rest)) 0) (digit_char d h)

smaller : (f n : ℕ) → n < 10 ^ suc (suc f) → n / 10 < 10 ^ suc f
smaller f n h = let e : 10 ^ suc (suc f) ≡ 10 ^ suc f * 10 = pow-suc 10 (suc f) in omega arith

below : (n m : ℕ) → (n < m) ⊎ (m ≤ n)
below n m = go (ltb n m) refl
  where
    go : (b : Bool) → ltb n m ≡ b → (n < m) ⊎ (m ≤ n)
    go true e = inl (ltb-true n m e)
    go false e = inr (ltb-false n m e)

span_small : (f n : ℕ) (rest : List ℕ) → n < 10 → span (decimal_in (suc f) n ++ rest) ≡ length (decimal_in (suc f) n) + span rest
span_small f n rest l =
    let s : span ((48 + n) ∷ rest) ≡ suc (span rest) = span_cons n rest l in
    rw (dec_small f n l) (s ∙ omega arith)

span_text : (f n : ℕ) (rest : List ℕ) → n < 10 ^ suc f
    → span (decimal_in (suc f) n ++ rest) ≡ length (decimal_in (suc f) n) + span rest
span_text zero n rest h = span_small zero n rest (omega arith)
span_text (suc f) n rest h =
    let D : List ℕ = decimal_in (suc f) (n / 10) in
    let d : ℕ = n % 10 in
    let i : span (D ++ ((48 + d) ∷ rest)) ≡ length D + span ((48 + d) ∷ rest) =
    span_text f (n / 10) ((48 + d) ∷ rest) (smaller f n h) in
    let s : span ((48 + d) ∷ rest) ≡ suc (span rest) = span_cons d rest (omega arith) in
    let g : length (D ++ ((48 + d) ∷ [])) ≡ length D + 1 = length-append D ((48 + d) ∷ []) in
    ⊎_elim
    (λ l. span_small (suc f) n rest l)
    (λ l. rw (dec_large (suc f) n l) (ap span (append_snoc D (48 + d) rest) ∙ i ∙ omega arith))
    (below n 10)

value_append : (v : ℕ) (xs ys : List ℕ) → value_of v (xs ++ ys) ≡ value_of (value_of v xs) ys
value_append v [] ys = refl
value_append v (x ∷ xs) ys = value_append (v * 10 + (x - 48)) xs ys

value_small : (f n : ℕ) → n < 10 → value_of 0 (decimal_in (suc f) n) ≡ n
value_small f n l = rw (dec_small f n l) (omega arith)

value_text : (f n : ℕ) → n < 10 ^ suc f → value_of 0 (decimal_in (suc f) n) ≡ n
value_text zero n h = value_small zero n (omega arith)
value_text (suc f) n h =
    let D : List ℕ = decimal_in (suc f) (n / 10) in
    let i : value_of 0 D ≡ n / 10 = value_text f (n / 10) (smaller f n h) in
    ⊎_elim
    (λ l. value_small (suc f) n l)
    (λ l. rw (dec_large (suc f) n l) (value_append 0 D ((48 + n % 10) ∷ []) ∙ rw i (omega arith)))
    (below n 10)

-- the first digit, and how many
pub record Leading (n : ℕ) (ds : List ℕ) : Type 0 where
  pub low : 48 ≤ get_or ds 0 0
  pub high : get_or ds 0 0 < 58
  pub lead : 0 < n → 48 < get_or ds 0 0
  pub some : 0 < length ds
  pub short : n < 10 → length ds ≡ 1
  pub long : 10 ≤ n → 1 < length ds

leading_small : (f n : ℕ) → n < 10 → Leading n (decimal_in (suc f) n)
leading_small f n l =
    rw (dec_small f n l)
    (record { low = omega arith; high = omega arith; lead = λ p. omega arith; some = omega arith; short = λ p. refl; long = λ p. omega arith })

leading_text : (f n : ℕ) → n < 10 ^ suc f → Leading n (decimal_in (suc f) n)
leading_text zero n h = leading_small zero n (omega arith)
leading_text (suc f) n h =
    let D : List ℕ = decimal_in (suc f) (n / 10) in
    let i : Leading (n / 10) D = leading_text f (n / 10) (smaller f n h) in
    let g : length (D ++ ((48 + n % 10) ∷ [])) ≡ length D + 1 = length-append D ((48 + n % 10) ∷ []) in
    let q : get_or (D ++ ((48 + n % 10) ∷ [])) 0 0 ≡ get_or D 0 0 = get_or-append D ((48 + n % 10) ∷ []) 0 0 i.some in
    let u : get_or D 0 0 < 58 = i.high in
    let o : 0 < length D = i.some in
    ⊎_elim
    (λ l. leading_small (suc f) n l)
    (λ (l : 10 ≤ n).
    let v : 0 < n / 10 = omega arith in
    let p : 48 < get_or D 0 0 = i.lead v in
    rw (dec_large (suc f) n l)
    (record { low = omega arith; high = omega arith; lead = λ z. omega arith; some = omega arith; short = λ z. omega arith; long = λ z. omega arith }))
    (below n 10)

-- a number of 64 bits: how it leads, what it is worth, and that it has digits alone
module _ (n : ℕ) (h : n < 2 ^ 64) where
  pub leading_is : Leading n (unsigned_text n)
  unfolding unsigned_text
  leading_is = leading_text 19 n (omega arith)

  pub value_is : value_of 0 (unsigned_text n) ≡ n
  unfolding unsigned_text
  value_is = value_text 19 n (omega arith)

digits_in_lem : (k n c : ℕ) → Memᴰ c (decimal_in k n) → (48 ≤ c) × (c < 58)
digits_in_lem zero n c i = absurd (Memᴰ.not-nil i)
digits_in_lem (suc k) n c i = go (ltb n 10) refl i (λ j. digits_in_lem k (n / 10) c j)
  where
    one : (d : ℕ) → d < 10 → c ≡ 48 + d → (48 ≤ c) × (c < 58)
    one d h e = (omega arith, omega arith)

    go : (b : Bool) → ltb n 10 ≡ b → Memᴰ c (cond b ((48 + n) ∷ []) (decimal_in k (n / 10) ++ ((48 + n % 10) ∷ [])))
        → (Memᴰ c (decimal_in k (n / 10)) → (48 ≤ c) × (c < 58)) → (48 ≤ c) × (c < 58)
    go true e i rest = one n (ltb-true n 10 e) (Memᴰ.eq_of_singleton i)
    go false e i rest =
        ⊎_elim rest (λ j. one (n % 10) (omega arith) (Memᴰ.eq_of_singleton j)) (Memᴰ.append_cases (decimal_in k (n / 10)) i)

pub digits_only : (n c : ℕ) → Memᴰ c (unsigned_text n) → (48 ≤ c) × (c < 58)
unfolding unsigned_text
digits_only n c i = digits_in_lem 20 n c i

plain_text : (n : ℕ) (ds : List ℕ) → Leading n ds → (b : Bool) → ltb n 10 ≡ b → is_plain (length ds) (get_or ds 0 0) ≡ true
plain_text n ds w true e =
    let k : length ds ≡ 1 = w.short (ltb-true n 10 e) in
    rw k refl
plain_text n ds w false e =
    let l : 10 ≤ n = ltb-false n 10 e in
    let k : 1 < length ds = w.long l in
    let p : 48 < get_or ds 0 0 = w.lead (omega arith) in
    rw (ne_eqb (length ds) 0 (λ q. omega arith), ne_eqb (length ds) 1 (λ q. omega arith), ne_eqb (get_or ds 0 0) 48 (λ q. omega arith)) refl

-- digits after xs, and no digit after them
unsigned_text_lem : (negative : Bool) (xs rest : List ℕ) (n : ℕ) → n < 2 ^ 64 → span rest ≡ 0
    → unsigned_at negative (xs ++ (unsigned_text n ++ rest)) (length xs) ≡ ranged negative n (length xs + length (unsigned_text n))
unfolding unsigned_text
unsigned_text_lem negative xs rest n h z =
    let D : List ℕ = decimal_in 20 n in
    let t : List ℕ = xs ++ (D ++ rest) in
    let b : n < 10 ^ 20 = omega arith in
    let w : Leading n D = leading_text 19 n b in
    let d : drop (length xs) t ≡ D ++ rest = drop-append_seam xs (D ++ rest) in
    let k : span (drop (length xs) t) ≡ length D = ap span d ∙ span_text 19 n rest b ∙ ap (λ (q : ℕ). length D + q) z ∙ add-zero (length D) in
    let g : get_or t (length xs) 0 ≡ get_or D 0 0 =
    ap (λ (q : ℕ). get_or t q 0) (sym (add-zero (length xs))) ∙ get_or-append-add xs (D ++ rest) 0 0 ∙ get_or-append D rest 0 0 w.some in
    let c : is_plain (span (drop (length xs) t)) (get_or t (length xs) 0) ≡ true =
    ap (λ (q : ℕ). is_plain q (get_or t (length xs) 0)) k ∙ ap (λ (q : ℕ). is_plain (length D) q) g ∙ plain_text n D w (ltb n 10) refl in
    let v : value_of 0 (take (span (drop (length xs) t)) (drop (length xs) t)) ≡ n =
    ap (λ (q : ℕ). value_of 0 (take q (drop (length xs) t))) k
    ∙ ap (λ (l : List ℕ). value_of 0 (take (length D) l)) d
    ∙ ap (value_of 0) (take-append_seam D rest)
    ∙ value_text 19 n b in
    unsigned_good negative t (length xs) c
    ∙ ap (λ (q : ℕ). ranged negative q (length xs + span (drop (length xs) t))) v
    ∙ ap (λ (q : ℕ). ranged negative n (length xs + q)) k

not_minus : (xs rest : List ℕ) (n : ℕ) → n < 2 ^ 64 → get_or (xs ++ (unsigned_text n ++ rest)) (length xs) 0 ≡ 45 → ⊥
unfolding unsigned_text
not_minus xs rest n h e =
    let D : List ℕ = decimal_in 20 n in
    let w : Leading n D = leading_text 19 n (omega arith) in
    let g : get_or (xs ++ (D ++ rest)) (length xs) 0 ≡ get_or D 0 0 =
    ap (λ (q : ℕ). get_or (xs ++ (D ++ rest)) q 0) (sym (add-zero (length xs))) ∙ get_or-append-add xs (D ++ rest) 0 0 ∙ get_or-append D rest 0 0 w.some in
    let l : 48 ≤ get_or D 0 0 = w.low in
    omega arith

-- what was written anywhere in a text, with no digit after it, is read back
pub read_back : (z : ℤ) (xs rest : List ℕ) → SFits w32 z → span rest ≡ 0
    → number_at (xs ++ (text_of z ++ rest)) (length xs) ≡ Some (z, length xs + length (text_of z))
read_back (pos n) xs rest h e =
    let s : n < 2147483648 = h.sfits in
    number_plain (xs ++ (unsigned_text n ++ rest)) (length xs) (not_minus xs rest n (omega arith))
    ∙ unsigned_text_lem false xs rest n (omega arith) e
    ∙ rw (lt-ltb n 2147483648 s) refl
read_back (negsuc n) xs rest h e =
    let s : n < 2147483648 = h.sfits in
    let T : List ℕ = unsigned_text (suc n) in
    let ys : List ℕ = xs ++ (45 ∷ []) in
    let t : List ℕ = xs ++ (45 ∷ (T ++ rest)) in
    let a : ys ++ (T ++ rest) ≡ t = append_snoc xs 45 (T ++ rest) in
    let k : length ys ≡ length xs + 1 = length-append xs (45 ∷ []) in
    let q : suc n - 1 ≡ n = omega arith in
    number_minus t (length xs) (get_or-append_seam xs 45 (T ++ rest) 0)
    ∙ ap (λ (j : ℕ). unsigned_at true t j) (sym k)
    ∙ ap (λ (l : List ℕ). unsigned_at true l (length ys)) (sym a)
    ∙ unsigned_text_lem true ys rest (suc n) (omega arith) e
    ∙ rw (ne_eqb (suc n) 0 (λ x. omega arith), le-leb (suc n) 2147483648 (omega arith), q) (ap (λ (j : ℕ). Some (negsuc n, j)) (omega arith))

-- ---- what is read is a number's text

-- digits behind a value that is not 0
grow : (f v : ℕ) (xs : List ℕ) → 0 < v → decimal_in (suc f) v ++ take (span xs) xs ≡ decimal_in (suc (f + span xs)) (value_of v (take (span xs) xs))
grow f v [] h = append-nil (decimal_in (suc f) v) ∙ rw (add-zero f) refl
grow f v (c ∷ cs) h = go (is_digit c) refl (grow (suc f) (v * 10 + (c - 48)) cs (omega arith))
  where
    go : (b : Bool) → is_digit c ≡ b
        → decimal_in (suc (suc f)) (v * 10 + (c - 48)) ++ take (span cs) cs
        ≡ decimal_in (suc (suc f + span cs)) (value_of (v * 10 + (c - 48)) (take (span cs) cs))
        → decimal_in (suc f) v ++ take (cond b (suc (span cs)) 0) (c ∷ cs)
        ≡ decimal_in (suc (f + cond b (suc (span cs)) 0)) (value_of v (take (cond b (suc (span cs)) 0) (c ∷ cs)))
    go true e rec =
        let (low, high) = digit_range c e in
        let n : ℕ = v * 10 + (c - 48) in
        let q : n / 10 ≡ v = omega arith in
        let r : 48 + n % 10 ≡ c = omega arith in
        let k : suc f + span cs ≡ f + suc (span cs) = omega arith in
        let d : decimal_in (suc (suc f)) n ≡ decimal_in (suc f) v ++ (c ∷ []) =
        dec_large (suc f) n (omega arith) ∙ ap (λ (m : ℕ). decimal_in (suc f) m ++ ((48 + n % 10) ∷ [])) q ∙ ap (λ (m : ℕ). decimal_in (suc f) v ++ (m ∷ [])) r in
        sym (append_snoc (decimal_in (suc f) v) c (take (span cs) cs)) ∙ ap (λ (l : List ℕ). l ++ take (span cs) cs) (sym d) ∙ rec
        ∙ ap (λ (m : ℕ). decimal_in (suc m) (value_of n (take (span cs) cs))) k
    go false e rec = append-nil (decimal_in (suc f) v) ∙ rw (add-zero f) refl

-- a number that is short enough has the same digits in more places
roomy : (f g n : ℕ) → f ≤ g → n < 10 ^ suc f → decimal_in (suc g) n ≡ decimal_in (suc f) n
roomy zero g n l h = dec_small g n (omega arith) ∙ sym (dec_small zero n (omega arith))
roomy (suc f) zero n l h = absurd (omega arith)
roomy (suc f) (suc g) n l h =
    let i = roomy f g (n / 10) (omega arith) (smaller f n h) in
    ⊎_elim
    (λ k. dec_small (suc g) n k ∙ sym (dec_small (suc f) n k))
    (λ k. dec_large (suc g) n k ∙ ap (λ (ds : List ℕ). ds ++ ((48 + n % 10) ∷ [])) i ∙ sym (dec_large (suc f) n k))
    (below n 10)

-- plain digits are the text of what they say
digits_text : (xs : List ℕ) → is_plain (span xs) (get_or xs 0 0) ≡ true → value_of 0 (take (span xs) xs) < 2 ^ 64
    → take (span xs) xs ≡ unsigned_text (value_of 0 (take (span xs) xs))
unfolding unsigned_text
digits_text [] e h = let z : ◌≡◌ {A = ℕ} 0 1 = cc in absurd (omega arith)
digits_text (c ∷ cs) e h = go (is_digit c) refl e h
  where
    one : (k : ℕ) → c ≡ 48 → is_plain (suc k) c ≡ true → c ∷ take k cs ≡ decimal_in 20 (value_of (0 * 10 + (c - 48)) (take k cs))
    one zero i p = rw i refl
    one (suc k) i p = absurd (plain_long (suc (suc k)) c (omega arith) p i)

    some : 48 < c → c < 58 → value_of (0 * 10 + (c - 48)) (take (span cs) cs) < 2 ^ 64
        → c ∷ take (span cs) cs ≡ decimal_in 20 (value_of (0 * 10 + (c - 48)) (take (span cs) cs))
    some low high m =
        let v : ℕ = 0 * 10 + (c - 48) in
        let i : 48 + v ≡ c = omega arith in
        ap (λ (d : ℕ). d ∷ take (span cs) cs) (sym i) ∙ ap (λ (l : List ℕ). l ++ take (span cs) cs) (sym (dec_small 19 v (omega arith)))
        ∙ grow 19 v cs (omega arith) ∙ roomy 19 (19 + span cs) (value_of v (take (span cs) cs)) (omega arith) (omega arith)

    go : (b : Bool) → is_digit c ≡ b → is_plain (cond b (suc (span cs)) 0) c ≡ true → value_of 0 (take (cond b (suc (span cs)) 0) (c ∷ cs)) < 2 ^ 64
        → take (cond b (suc (span cs)) 0) (c ∷ cs) ≡ decimal_in 20 (value_of 0 (take (cond b (suc (span cs)) 0) (c ∷ cs)))
    go true d p m = let (low, high) = digit_range c d in zero_by (eqb c 48) refl low high p m
      where
        zero_by : (b : Bool) → eqb c 48 ≡ b → 48 ≤ c → c < 58 → is_plain (suc (span cs)) c ≡ true → value_of (0 * 10 + (c - 48)) (take (span cs) cs) < 2 ^ 64
            → c ∷ take (span cs) cs ≡ decimal_in 20 (value_of (0 * 10 + (c - 48)) (take (span cs) cs))
        zero_by true z low high p m = one (span cs) (eqb-true c 48 z) p
        zero_by false z low high p m = let n = eqb-false c 48 z in some (omega arith) high m
    go false d p m = let z : ◌≡◌ {A = ℕ} 0 1 = cc in absurd (omega arith)

unsigned_is : (n : Bool) (s : List ℕ) (at : ℕ) (z : ℤ) (p : ℕ) → unsigned_at n s at ≡ Some (z, p)
    → (ds : List ℕ) × (text_of z ≡ signed_text n (value_of 0 ds)) × (ds ≡ unsigned_text (value_of 0 ds)) × (p ≡ at + length ds) × (drop at s ≡ ds ++ drop p s)
unsigned_is n s at z p e =
    let xs : List ℕ = drop at s in
    let k : ℕ = span xs in
    let (h, r) = unsigned_read n s at z p e in
    let g : get_or xs 0 0 ≡ get_or s at 0 = get_or-drop at s 0 0 ∙ ap (λ (i : ℕ). get_or s i 0) (add-zero at) in
    let m = r.small in
    let l : length (take k xs) ≡ k = length-take-le k xs (span_le xs) in
    let q : p ≡ at + k = r.place in (
      take k xs,
      r.text,
      digits_text xs (ap (is_plain k) g ∙ h) (omega arith),
      omega arith,
      sym (take-append-drop k xs) ∙ ap (λ (t : List ℕ). take k xs ++ t) (drop-drop k at s ∙ ap (λ (i : ℕ). drop i s) (sym q)),
    )

pub number_text : (s : List ℕ) (at : ℕ) (z : ℤ) (p : ℕ) → number_at s at ≡ Some (z, p) → (p ≡ at + length (text_of z)) × (drop at s ≡ text_of z ++ drop p s)
number_text s at z p e =
    ⊎_elim
    (λ (m, g).
    let (ds, t, d, q, w) = unsigned_is true s (at + 1) z p g in
    let u : text_of z ≡ 45 ∷ ds = t ∙ ap (λ (l : List ℕ). 45 ∷ l) (sym d) in
    let k = ap length u in
    let inside : at < length s = minus_inside m in
    (omega arith, rest_cons s inside ∙ ap (λ (c : ℕ). c ∷ drop (at + 1) s) m ∙ ap (λ (l : List ℕ). 45 ∷ l) w ∙ ap (λ (l : List ℕ). l ++ drop p s) (sym u)))
    (λ g.
    let (ds, t, d, q, w) = unsigned_is false s at z p g in
    let u : text_of z ≡ ds = t ∙ sym d in
    let k = ap length u in
    (omega arith, w ∙ ap (λ (l : List ℕ). l ++ drop p s) (sym u)))
    (sign_read s at z p e)
  where
    minus_inside : get_or s at 0 ≡ 45 → at < length s
    minus_inside m = ⊎_elim (λ h. h) (λ (h : length s ≤ at). let d = get_or-eq_default s 0 h in absurd (omega arith)) (below at (length s))
