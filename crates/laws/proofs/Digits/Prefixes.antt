-- The prefixes of a canonic form: each is the one before it, shifted left by the gap, plus or minus 1; and how the last of them splits off. Assumes nothing.
use mathlib.Core.Path.{◌≡◌, refl, sym, ap, ◌∙◌, subst⁻¹}
use mathlib.Core.List.{List, [], ◌∷◌, ◌++◌, append-nil, reverse, reverse-cons}
use Prim.Native.Nat.{ℕ, zero, suc, ◌+◌, ◌-◌, ◌*◌, ◌/◌, ◌%◌, ◌^◌, ◌≤◌, ◌<◌}
use native.Mathlib.Nat.{pow-succ', mul_comm, mul-pos, zero-div}
use native.Mathlib.Numerals.{add-one}
use native.Mathlib.Omega.{arith}
use lib.Pow.{pow_pos}
use lib.ListN.{length, drop, length-reverse}
use lib.Seq.{drop-append-le}
use Rattle.meaning.specs.declared.Prefix.{Prefix}
use Rattle.meaning.specs.Basics.{zeros}
use Rattle.meaning.specs.Digits.{Digit, minus, none, plus, is_nonzero, nonzeros, above, canonic, prefixes_from, prefixes}
use Rattle.laws.proofs.Whole.Zeros.{zeros_unique, zeros_whole, zeros_left}
use Rattle.laws.proofs.Digits.Count.{nonzeros_split, nonzeros_odd}
use Rattle.laws.proofs.Digits.Canonic.{Split, split_none, split_plus, split_minus, split_of, split_positive, canonic_zero, canonic_step, canonic_split, by_digits, split_more}

-- ---- the value of the last prefix, and the gap below it, after some digits from the top

unfoldable pub last_from : ℕ → ℕ → List Digit → ℕ
last_from p g [] = p
last_from p g (none ∷ ds) = last_from p (g + 1) ds
last_from p g (plus ∷ ds) = last_from (2 ^ g * p + 1) 1 ds
last_from p g (minus ∷ ds) = last_from (2 ^ g * p - 1) 1 ds

unfoldable pub gap_from : ℕ → List Digit → ℕ
gap_from g [] = g
gap_from g (none ∷ ds) = gap_from (g + 1) ds
gap_from g (plus ∷ ds) = gap_from 1 ds
gap_from g (minus ∷ ds) = gap_from 1 ds

-- what one digit more adds: the prefix that it ends, the value of the last one, the gap
abbrev new_of : Digit → ℕ → ℕ → List Prefix
new_of none p g = []
new_of plus p g = record { before = p; gap = g; s = 0; value = 2 ^ g * p + 1 } ∷ []
new_of minus p g = record { before = p; gap = g; s = 1; value = 2 ^ g * p - 1 } ∷ []

abbrev last_of : Digit → ℕ → ℕ → ℕ
last_of none p g = p
last_of plus p g = 2 ^ g * p + 1
last_of minus p g = 2 ^ g * p - 1

abbrev gap_of : Digit → ℕ → ℕ
gap_of none g = g + 1
gap_of plus g = 1
gap_of minus g = 1

from_snoc : (p g : ℕ) (ds : List Digit) (d : Digit) → prefixes_from p g (ds ++ (d ∷ [])) ≡ prefixes_from p g ds ++ new_of d (last_from p g ds) (gap_from g ds)
unfolding prefixes_from last_from gap_from
from_snoc p g [] none = refl
from_snoc p g [] plus = refl
from_snoc p g [] minus = refl
from_snoc p g (none ∷ ds) d = from_snoc p (g + 1) ds d
from_snoc p g (plus ∷ ds) d = ap (λ ps. record { before = p; gap = g; s = 0; value = 2 ^ g * p + 1 } ∷ ps) (from_snoc (2 ^ g * p + 1) 1 ds d)
from_snoc p g (minus ∷ ds) d = ap (λ ps. record { before = p; gap = g; s = 1; value = 2 ^ g * p - 1 } ∷ ps) (from_snoc (2 ^ g * p - 1) 1 ds d)

last_snoc : (p g : ℕ) (ds : List Digit) (d : Digit) → last_from p g (ds ++ (d ∷ [])) ≡ last_of d (last_from p g ds) (gap_from g ds)
unfolding last_from gap_from
last_snoc p g [] none = refl
last_snoc p g [] plus = refl
last_snoc p g [] minus = refl
last_snoc p g (none ∷ ds) d = last_snoc p (g + 1) ds d
last_snoc p g (plus ∷ ds) d = last_snoc (2 ^ g * p + 1) 1 ds d
last_snoc p g (minus ∷ ds) d = last_snoc (2 ^ g * p - 1) 1 ds d

gap_snoc : (g : ℕ) (ds : List Digit) (d : Digit) → gap_from g (ds ++ (d ∷ [])) ≡ gap_of d (gap_from g ds)
unfolding gap_from
gap_snoc g [] none = refl
gap_snoc g [] plus = refl
gap_snoc g [] minus = refl
gap_snoc g (none ∷ ds) d = gap_snoc (g + 1) ds d
gap_snoc g (plus ∷ ds) d = gap_snoc 1 ds d
gap_snoc g (minus ∷ ds) d = gap_snoc 1 ds d

-- ---- all digits but the highest, from the top

abbrev pub tops : ℕ → List Digit
tops n = drop 1 (reverse (canonic n))

pub tops_step : {n a : ℕ} {d : Digit} → Split n a d → 0 < a → tops n ≡ tops a ++ (d ∷ [])
tops_step {n} {a} {d} s h =
    let l : 1 ≤ length (reverse (canonic a)) = omega (arith, length-reverse (canonic a), ap length (canonic_step a h)) in
    ap (λ ds. drop 1 (reverse ds)) (canonic_split s (split_more s h)) ∙ ap (drop 1) (reverse-cons d (canonic a)) ∙ drop-append-le 1 (reverse (canonic a)) (d ∷ []) l

pub tops_one : tops 1 ≡ []
tops_one = rw (canonic_step 1 (omega arith), canonic_zero)

-- after the digits of n: the last prefix, shifted left by the gap, is twice n
record Ends (n L G : ℕ) : Type 0 where
  odd : L % 2 ≡ 1
  positive : 1 ≤ G
  whole : 2 * n ≡ L * 2 ^ G

ends_step : {n a : ℕ} {d : Digit} (L G : ℕ) → Split n a d → 0 < a → Ends a L G → Ends n (last_of d L G) (gap_of d G)
ends_step L G (split_none p) h t = record { odd = t.odd; positive = omega arith; whole = rw (add-one G, pow-succ' 2 G) (omega arith) }
ends_step {a} L G (split_plus p w) h t =
    let q : 2 ^ G * L ≡ 2 * a = mul_comm (2 ^ G) L ∙ sym t.whole in
    record { odd = rw q (omega arith); positive = omega arith; whole = rw q (omega arith) }
ends_step {a} L G (split_minus p w) h t =
    let q : 2 ^ G * L ≡ 2 * a = mul_comm (2 ^ G) L ∙ sym t.whole in
    record { odd = rw q (omega arith); positive = omega arith; whole = rw q (omega arith) }

abbrev pub last : ℕ → ℕ
last n = last_from 1 1 (tops n)

abbrev pub gap_at : ℕ → ℕ
gap_at n = gap_from 1 (tops n)

last_step : {n a : ℕ} {d : Digit} → Split n a d → 0 < a → last n ≡ last_of d (last a) (gap_at a)
last_step {a} {d} s h = ap (last_from 1 1) (tops_step s h) ∙ last_snoc 1 1 (tops a) d

gap_step : {n a : ℕ} {d : Digit} → Split n a d → 0 < a → gap_at n ≡ gap_of d (gap_at a)
gap_step {a} {d} s h = ap (gap_from 1) (tops_step s h) ∙ gap_snoc 1 (tops a) d

list_step : {n a : ℕ} {d : Digit} → Split n a d → 0 < a → prefixes n ≡ prefixes a ++ new_of d (last a) (gap_at a)
unfolding prefixes
list_step {a} {d} s h = ap (prefixes_from 1 1) (tops_step s h) ∙ from_snoc 1 1 (tops a) d

ends_same : {n L G L' G' : ℕ} → L ≡ L' → G ≡ G' → Ends n L' G' → Ends n L G
ends_same {n} {G} {L'} e f t = subst⁻¹ (λ x. Ends n x G) e (subst⁻¹ (λ y. Ends n L' y) f t)

ends : (n : ℕ) → 0 < n → Ends n (last n) (gap_at n)
unfolding last_from gap_from
ends = by_digits (λ n. 0 < n → Ends n (last n) (gap_at n)) (λ h. absurd (omega arith)) (λ n h ih k. go n h ih)
  where
    go : (n : ℕ) → 0 < n → (0 < above n → Ends (above n) (last (above n)) (gap_at (above n))) → Ends n (last n) (gap_at n)
    go zero h ih = absurd (omega arith)
    go (suc zero) h ih =
        ends_same (ap (last_from 1 1) tops_one) (ap (gap_from 1) tops_one) (record { odd = omega arith; positive = omega arith; whole = omega arith })
    go (suc (suc n)) h ih =
        let s = split_of (suc (suc n)) in
        let k : 0 < above (suc (suc n)) = split_positive s (omega arith) in
        ends_same (last_step s k) (gap_step s k) (ends_step (last (above (suc (suc n)))) (gap_at (above (suc (suc n)))) s k (ih k))

-- so that it is n without its trailing zeros, and the gap is one more than they are
pub ends_are : (n : ℕ) → 0 < n → (last n ≡ n / 2 ^ zeros n) × (gap_at n ≡ suc (zeros n))
ends_are n h = go (last n) (gap_at n) (ends n h)
  where
    go : (L G : ℕ) → Ends n L G → (L ≡ n / 2 ^ zeros n) × (G ≡ suc (zeros n))
    go L zero t = absurd (let q = t.positive in omega arith)
    go L (suc r) t =
        let q : L * 2 ^ suc r ≡ 2 * (L * 2 ^ r) = rw (pow-succ' 2 r) (omega arith) in
        let u = zeros_unique n r L t.odd (let w = t.whole in omega arith) in
        (sym u.1, ap suc (sym u.0))

-- ---- how the last prefix splits off

-- at 0 and 1 there are none
pub prefixes_zero : prefixes 0 ≡ []
unfolding prefixes prefixes_from
prefixes_zero = rw canonic_zero

pub prefixes_one : prefixes 1 ≡ []
unfolding prefixes prefixes_from
prefixes_one = rw tops_one

-- a shift changes none
pub prefixes_shifted : (r m : ℕ) → 0 < m → prefixes (m * 2 ^ r) ≡ prefixes m
prefixes_shifted zero m h = ap prefixes (omega arith)
prefixes_shifted (suc r) m h =
    let e : m * 2 ^ suc r ≡ 2 * (m * 2 ^ r) = rw (pow-succ' 2 r) (omega arith) in
    list_step (split_none e) (mul-pos h (pow_pos r)) ∙ append-nil (prefixes (m * 2 ^ r)) ∙ prefixes_shifted r m h

pub prefixes_odd : (n : ℕ) → prefixes n ≡ prefixes (n / 2 ^ zeros n)
prefixes_odd zero = ap prefixes (sym (zero-div (2 ^ zeros 0)))
prefixes_odd (suc n) =
    let o = zeros_left (suc n) (omega arith) in
    ap prefixes (sym (zeros_whole (suc n))) ∙ prefixes_shifted (zeros (suc n)) (suc n / 2 ^ zeros (suc n)) (omega arith)

-- the prefix of value n that stands on m: n is m + 1 for s = 0, m - 1 for s = 1
abbrev pub ended_by : (n m s : ℕ) → Prefix
ended_by n m s = record { before = m / 2 ^ zeros m; gap = zeros m; s = s; value = n }

-- an odd number above 1: the last of its prefixes is itself, and the others are those of the multiple of 4 next to it
pub record Peeled (n m s : ℕ) : Type 0 where
  pub list : prefixes n ≡ prefixes (m / 2 ^ zeros m) ++ (ended_by n m s ∷ [])
  pub count : nonzeros (canonic n) ≡ suc (nonzeros (canonic (m / 2 ^ zeros m)))

-- of twice a
twice : (a m : ℕ) → 0 < a → m ≡ 2 * a → (last a ≡ m / 2 ^ zeros m) × (gap_at a ≡ zeros m)
twice a m h e =
    let t = ends_are a h in
    let q : a / 2 ^ zeros a * 2 ^ suc (zeros a) ≡ 2 * (a / 2 ^ zeros a * 2 ^ zeros a) = rw (pow-succ' 2 (zeros a)) (omega arith) in
    let u = zeros_unique m (suc (zeros a)) (a / 2 ^ zeros a) (zeros_left a h) (omega (arith, zeros_whole a)) in
    (t.0 ∙ sym u.1, t.1 ∙ sym u.0)

new_plus : (L G n m : ℕ) → L ≡ m / 2 ^ zeros m → G ≡ zeros m → n ≡ m + 1 → new_of plus L G ≡ ended_by n m 0 ∷ []
new_plus L G n m e f g =
    let v : 2 ^ zeros m * (m / 2 ^ zeros m) + 1 ≡ n = omega (arith, mul_comm (2 ^ zeros m) (m / 2 ^ zeros m), zeros_whole m) in
    rw (e, f, v)

new_minus : (L G n m : ℕ) → L ≡ m / 2 ^ zeros m → G ≡ zeros m → n + 1 ≡ m → new_of minus L G ≡ ended_by n m 1 ∷ []
new_minus L G n m e f g =
    let v : 2 ^ zeros m * (m / 2 ^ zeros m) - 1 ≡ n = omega (arith, mul_comm (2 ^ zeros m) (m / 2 ^ zeros m), zeros_whole m) in
    rw (e, f, v)

peel_list : {n a : ℕ} {d : Digit} (m s : ℕ) → Split n a d → 0 < a → m ≡ 2 * a → new_of d (last a) (gap_at a) ≡ ended_by n m s ∷ []
    → prefixes n ≡ prefixes (m / 2 ^ zeros m) ++ (ended_by n m s ∷ [])
peel_list {n} {a} m s k h e q =
    list_step k h ∙ ap (λ x. prefixes a ++ x) q ∙ ap (λ x. x ++ (ended_by n m s ∷ [])) (same ∙ prefixes_odd m)
  where
    same : prefixes a ≡ prefixes m
    same = sym (list_step (split_none e) h ∙ append-nil (prefixes a))

peel_count : {n a : ℕ} {d : Digit} (m : ℕ) → Split n a d → is_nonzero d ≡ 1 → m ≡ 2 * a → nonzeros (canonic n) ≡ suc (nonzeros (canonic (m / 2 ^ zeros m)))
peel_count m k o e = omega (arith, nonzeros_split k, nonzeros_split (split_none e), nonzeros_odd m)

pub peel_plus : (n : ℕ) → 1 < n → n % 4 ≡ 1 → Peeled n (n - 1) 0
peel_plus n h o =
    let k : Split n (n / 2) plus = split_plus (omega arith) (omega arith) in
    let t = twice (n / 2) (n - 1) (omega arith) (omega arith) in
    record {
      list = peel_list (n - 1) 0 k (omega arith) (omega arith) (new_plus _ _ n (n - 1) t.0 t.1 (omega arith));
      count = peel_count (n - 1) k refl (omega arith);
    }

pub peel_minus : (n : ℕ) → n % 4 ≡ 3 → Peeled n (n + 1) 1
peel_minus n o =
    let k : Split n (n / 2 + 1) minus = split_minus (omega arith) (omega arith) in
    let t = twice (n / 2 + 1) (n + 1) (omega arith) (omega arith) in
    record {
      list = peel_list (n + 1) 1 k (omega arith) (omega arith) (new_minus _ _ n (n + 1) t.0 t.1 refl);
      count = peel_count (n + 1) k refl (omega arith);
    }
