-- The canonic form: it denotes its number, no two adjacent digits are nonzero, the highest is not zero, and no other form says that. Assumes nothing.
use mathlib.Core.Path.{◌≡◌, refl, sym, ap, ◌∙◌, subst, subst⁻¹}
use mathlib.Core.List.{List, [], ◌∷◌}
use Prim.Native.Nat.{ℕ, zero, suc, ◌+◌, ◌-◌, ◌*◌, ◌/◌, ◌%◌, ◌≤◌, ◌<◌}
use native.Mathlib.Nat.{mod-lt}
use native.Mathlib.Omega.{arith}
use borrow.Author.Tests.{eq-eqb, ne_eqb, le-ltb, lt-ltb}
use lib.Dec.{lit<}
use lib.IntN.{ℤ, pos, negsuc, ◌+ℤ◌, ◌*ℤ◌, +ℤ_idl, neg_ℤ}
use Rattle.meaning.specs.Digits.{Digit, minus, none, plus, worth, denoted, is_nonzero, Sparse, Ended, Canonic, lowest, above, digits_in, canonic}

-- n is a digit and twice a, where a is even unless the digit is 0
pub data Split (n a : ℕ) : Digit → Type 0 where
  split_none : n ≡ 2 * a → Split n a none
  split_plus : n ≡ 2 * a + 1 → a % 2 ≡ 0 → Split n a plus
  split_minus : n + 1 ≡ 2 * a → a % 2 ≡ 0 → Split n a minus

pub split_of : (n : ℕ) → Split n (above n) (lowest n)
split_of n = go (n % 4) refl
  where
    low : n % 4 < 3 → above n ≡ n / 2
    low h = simp (ne_eqb (n % 4) 3 (omega arith))

    high : n % 4 ≡ 3 → above n ≡ n / 2 + 1
    high h = simp (eq-eqb (n % 4) 3 h)

    even : n % 2 ≡ 0 → lowest n ≡ none
    even h = simp (eq-eqb (n % 2) 0 h)

    one : n % 4 ≡ 1 → lowest n ≡ plus
    one h = simp (ne_eqb (n % 2) 0 (omega arith), eq-eqb (n % 4) 1 h)

    three : n % 4 ≡ 3 → lowest n ≡ minus
    three h = simp (ne_eqb (n % 2) 0 (omega arith), ne_eqb (n % 4) 1 (omega arith))

    go : (d : ℕ) → n % 4 ≡ d → Split n (above n) (lowest n)
    go zero e = rw (even (omega arith), low (omega arith)) (split_none (omega arith))
    go (suc zero) e = rw (one e, low (omega arith)) (split_plus (omega arith) (omega arith))
    go (suc (suc zero)) e = rw (even (omega arith), low (omega arith)) (split_none (omega arith))
    go (suc (suc (suc zero))) e = rw (three e, high e) (split_minus (omega arith) (omega arith))
    go (suc (suc (suc (suc d)))) e = absurd (omega (arith, mod-lt n {m = 4} (lit< tt)))

odd_even : (a b : ℕ) → b ≡ a + 1 → a % 2 ≡ 0 → b % 2 ≡ 0 → ⊥
odd_even a b e w x = omega arith

split_same : {n a b : ℕ} {d e : Digit} → Split n a d → Split n b e → (d ≡ e) × (a ≡ b)
split_same (split_none p) (split_none q) = (refl, omega arith)
split_same (split_none p) (split_plus q x) = absurd (omega arith)
split_same (split_none p) (split_minus q x) = absurd (omega arith)
split_same (split_plus p w) (split_none q) = absurd (omega arith)
split_same (split_plus p w) (split_plus q x) = (refl, omega arith)
split_same (split_plus p w) (split_minus q x) = absurd (odd_even _ _ (omega arith) w x)
split_same (split_minus p w) (split_none q) = absurd (omega arith)
split_same (split_minus p w) (split_plus q x) = absurd (odd_even _ _ (omega arith) x w)
split_same (split_minus p w) (split_minus q x) = (refl, omega arith)

-- what is above the lowest digit is about a half
pub split_half : {n a : ℕ} {d : Digit} (B : ℕ) → Split n a d → n ≤ 2 * B → a ≤ B
split_half B (split_none p) h = omega arith
split_half B (split_plus p w) h = omega arith
split_half B (split_minus p w) h = omega arith

pub split_positive : {n a : ℕ} {d : Digit} → Split n a d → 2 ≤ n → 1 ≤ a
split_positive (split_none p) h = omega arith
split_positive (split_plus p w) h = omega arith
split_positive (split_minus p w) h = omega arith

pub split_less : {n a : ℕ} {d : Digit} → Split (suc n) a d → a ≤ n
split_less (split_none p) = omega arith
split_less (split_plus p w) = omega arith
split_less (split_minus p w) = omega arith

pub above_less : (n : ℕ) → 0 < n → above n < n
above_less zero h = absurd (omega arith)
above_less (suc n) h = let b = split_less (split_of (suc n)) in omega arith

-- the digit is nonzero where n is odd
pub split_parity : {n a : ℕ} {d : Digit} → Split n a d → is_nonzero d ≡ n % 2
split_parity (split_none p) = omega arith
split_parity (split_plus p w) = omega arith
split_parity (split_minus p w) = omega arith

-- ---- digit by digit, without the fuel

digits_zero : (k : ℕ) → digits_in k 0 ≡ []
unfolding digits_in
digits_zero zero = refl
digits_zero (suc k) = refl

digits_same : (k j n : ℕ) → n ≤ k → n ≤ j → digits_in k n ≡ digits_in j n
unfolding digits_in
digits_same zero j n h l = let e : n ≡ 0 = omega arith in rw e (digits_zero 0 ∙ sym (digits_zero j))
digits_same (suc k) j n h l = go j n h l (λ i m p q. digits_same k i m p q)
  where
    go : (j n : ℕ) → n ≤ suc k → n ≤ j → ((i m : ℕ) → m ≤ k → m ≤ i → digits_in k m ≡ digits_in i m) → digits_in (suc k) n ≡ digits_in j n
    go j zero h l ih = sym (digits_zero j)
    go zero (suc n) h l ih = absurd (omega arith)
    go (suc j) (suc n) h l ih =
        let b : above (suc n) ≤ n = split_less (split_of (suc n)) in
        ap (λ ds. lowest (suc n) ∷ ds) (ih j (above (suc n)) (omega arith) (omega arith))

pub canonic_zero : canonic 0 ≡ []
unfolding canonic digits_in
canonic_zero = refl

pub canonic_step : (n : ℕ) → 0 < n → canonic n ≡ lowest n ∷ canonic (above n)
unfolding canonic digits_in
canonic_step zero h = absurd (omega arith)
canonic_step (suc n) h =
    ap (λ ds. lowest (suc n) ∷ ds) (digits_same n (above (suc n)) (above (suc n)) (split_less (split_of (suc n))) (omega arith))

-- the same in one form: the digits of a positive n whose lowest is d, under those of a
pub canonic_split : {n a : ℕ} {d : Digit} → Split n a d → 0 < n → canonic n ≡ d ∷ canonic a
canonic_split {n} {a} {d} s h =
    let e = split_same (split_of n) s in
    canonic_step n h ∙ ap (λ x. x ∷ canonic (above n)) e.0 ∙ ap (λ x. d ∷ canonic x) e.1

-- what holds of 0, and of each positive number where it holds of what is above its lowest digit, holds of all
module _ (P : ℕ → Type 0) (start : P 0) (step : (n : ℕ) → 0 < n → P (above n) → P n) where
  by_fuel : (k n : ℕ) → n ≤ k → P n
  by_fuel zero n h = subst P (omega arith) start
  by_fuel (suc k) n h = go n h (λ m l. by_fuel k m l)
    where
      go : (n : ℕ) → n ≤ suc k → ((m : ℕ) → m ≤ k → P m) → P n
      go zero h ih = start
      go (suc n) h ih =
          let b : above (suc n) ≤ n = split_less (split_of (suc n)) in
          step (suc n) (omega arith) (ih (above (suc n)) (omega arith))

  pub by_digits : (n : ℕ) → P n
  by_digits n = by_fuel n n (omega arith)

-- ---- the form is canonic

-- 1 where the lowest digit is nonzero
abbrev pub first : List Digit → ℕ
first [] = 0
first (d ∷ ds) = is_nonzero d

pub canonic_first : (n : ℕ) → first (canonic n) ≡ n % 2
canonic_first zero = rw canonic_zero
canonic_first (suc n) = rw (canonic_step (suc n) (omega arith)) (split_parity (split_of (suc n)))

pub sparse_cons : (d : Digit) (ds : List Digit) → is_nonzero d + first ds ≤ 1 → Sparse ds → Sparse (d ∷ ds)
unfolding Sparse
sparse_cons d [] h s = tt
sparse_cons d (e ∷ ds) h s = (h, s)

pub sparse_first : (d : Digit) (ds : List Digit) → Sparse (d ∷ ds) → (is_nonzero d + first ds ≤ 1) × Sparse ds
unfolding Sparse
sparse_first minus [] s = (omega arith, tt)
sparse_first none [] s = (omega arith, tt)
sparse_first plus [] s = (omega arith, tt)
sparse_first d (e ∷ ds) s = s

split_sparse : {n a : ℕ} {d : Digit} → Split n a d → is_nonzero d + a % 2 ≤ 1
split_sparse (split_none p) = omega arith
split_sparse (split_plus p w) = omega arith
split_sparse (split_minus p w) = omega arith

split_worth : {n a : ℕ} {d : Digit} → Split n a d → worth d +ℤ pos (2 * a) ≡ pos n
split_worth (split_none p) = ap pos (omega arith)
split_worth (split_plus p w) = ap pos (omega arith)
split_worth {a} (split_minus p w) = simp (le-ltb (2 * a) 1 (omega arith)) (ap pos (omega arith))

pub canonic_empty : (n : ℕ) → canonic n ≡ [] → n ≡ 0
canonic_empty zero e = refl
canonic_empty (suc n) e = let f = canonic_step (suc n) (omega arith) in cc

ended_cons : (d : Digit) (ds : List Digit) → (ds ≡ [] → is_nonzero d ≡ 1) → Ended ds → Ended (d ∷ ds)
unfolding Ended
ended_cons d [] h s = h refl
ended_cons d (e ∷ ds) h s = s

ended_rest : (d : Digit) (ds : List Digit) → Ended (d ∷ ds) → (ds ≡ [] → is_nonzero d ≡ 1) × Ended ds
unfolding Ended
ended_rest d [] s = (λ e. s, tt)
ended_rest d (e ∷ ds) s = (λ e. let z : ◌≡◌ {A = ℕ} 0 1 = cc in absurd (omega arith), s)

split_top : {n a : ℕ} {d : Digit} → Split n a d → 0 < n → a ≡ 0 → is_nonzero d ≡ 1
split_top (split_none p) h e = omega arith
split_top (split_plus p w) h e = omega arith
split_top (split_minus p w) h e = omega arith

pub canonic_is : (n : ℕ) → Canonic n (canonic n)
canonic_is = by_digits (λ n. Canonic n (canonic n)) start step
  where
    start : Canonic 0 (canonic 0)
    start = subst⁻¹ (Canonic 0) canonic_zero (record { denotes = unfold denoted in refl; sparse = unfold Sparse in tt; ended = unfold Ended in tt })

    step : (n : ℕ) → 0 < n → Canonic (above n) (canonic (above n)) → Canonic n (canonic n)
    step n h c =
        let s = split_of n in
        subst⁻¹ (Canonic n) (canonic_step n h)
        (record {
          denotes = unfold denoted in rw c.denotes (split_worth s);
          sparse = sparse_cons _ _ (omega (arith, canonic_first (above n), split_sparse s)) c.sparse;
          ended = ended_cons _ _ (λ e. split_top s h (canonic_empty (above n) e)) c.ended;
        })

-- ---- and no other is

-- less than -1 and a digit make no positive number
worth_low : (d : Digit) (k n : ℕ) → worth d +ℤ negsuc (suc k) ≡ pos n → ⊥
worth_low minus k n e = let z : ◌≡◌ {A = ℕ} 0 1 = cc in omega arith
worth_low none k n e = let z : ◌≡◌ {A = ℕ} 0 1 = cc (+ℤ_idl (negsuc (suc k))) in omega arith
worth_low plus k n e =
    let f : negsuc (suc (suc k) - 2) ≡ pos n = simp (lt-ltb 1 (suc (suc k)) (omega arith)) at e in
    let z : ◌≡◌ {A = ℕ} 0 1 = cc in
    omega arith

-- what stands above the lowest digit of a form denotes a natural number too, and splits off where it is even or the digit is 0
split_from : (d : Digit) (z : ℤ) (n : ℕ) → worth d +ℤ pos 2 *ℤ z ≡ pos n → (t : ℕ) × (z ≡ pos t) × (is_nonzero d + t % 2 ≤ 1 → Split n t d)
split_from d (negsuc t) n e =
    let two : 2 * suc t ≡ suc (suc (2 * t)) = omega arith in
    absurd (worth_low d (2 * t) n (subst (λ k. worth d +ℤ neg_ℤ (pos k) ≡ pos n) two e))
split_from none (pos t) n e = let f : 0 + 2 * t ≡ n = cc in (t, refl, λ h. split_none (omega arith))
split_from plus (pos t) n e = let f : 1 + 2 * t ≡ n = cc in (t, refl, λ h. split_plus (omega arith) (omega arith))
split_from minus (pos zero) n e = absurd (let z : ◌≡◌ {A = ℕ} 0 1 = cc in omega arith)
split_from minus (pos (suc t)) n e =
    let g : pos (2 * suc t - 1) ≡ pos n = simp (le-ltb (2 * suc t) 1 (omega arith)) at e in
    let f : 2 * suc t - 1 ≡ n = cc in
    (suc t, refl, λ h. split_minus (omega arith) (omega arith))

split_zero : {n : ℕ} {d : Digit} → Split n 0 d → is_nonzero d ≡ 1 → 0 < n
split_zero (split_none p) h = omega arith
split_zero (split_plus p w) h = omega arith
split_zero (split_minus p w) h = omega arith

pub split_more : {n a : ℕ} {d : Digit} → Split n a d → 0 < a → 0 < n
split_more (split_none p) h = omega arith
split_more (split_plus p w) h = omega arith
split_more (split_minus p w) h = omega arith

pub canonic_only : (n : ℕ) (ds : List Digit) → Canonic n ds → ds ≡ canonic n
unfolding denoted
canonic_only n [] c = let e : 0 ≡ n = cc c.denotes in subst (λ k. [] ≡ canonic k) e (sym canonic_zero)
canonic_only n (d ∷ ds) c = go (split_from d (denoted ds) n c.denotes) (λ t k. canonic_only t ds k)
  where
    go : (t : ℕ) × (denoted ds ≡ pos t) × (is_nonzero d + t % 2 ≤ 1 → Split n t d) → ((t : ℕ) → Canonic t ds → ds ≡ canonic t) → d ∷ ds ≡ canonic n
    go (t, e, f) ih =
        let p = sparse_first d ds c.sparse in
        let q = ended_rest d ds c.ended in
        let same : ds ≡ canonic t = ih t (record { denotes = e; sparse = p.1; ended = q.1 }) in
        let s : Split n t d = f (omega (arith, ap first same, canonic_first t)) in
        ap (λ x. d ∷ x) same ∙ sym (canonic_split s (positive t s (λ z. q.0 (same ∙ ap canonic z ∙ canonic_zero))))
      where
        positive : (t : ℕ) → Split n t d → (t ≡ 0 → is_nonzero d ≡ 1) → 0 < n
        positive zero s top = split_zero s (top refl)
        positive (suc t) s top = split_more s (omega arith)
