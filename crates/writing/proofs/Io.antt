-- The digits that `io::decimal` writes are those of the definition. Assumes nothing.
use mathlib.Core.Path.{◌≡◌, refl, ap, ◌∙◌, sym}
use mathlib.Core.Bool.{Bool, true, false, cond}
use mathlib.Core.List.{List, [], ◌∷◌, ◌++◌}
use Prim.Native.Nat.{ℕ, zero, suc, ◌+◌, ◌-◌, ◌*◌, ◌/◌, ◌%◌, ◌^◌, ◌≤◌, ◌<◌}
use native.Mathlib.Nat.{pow-suc, one-le-pow, pow-le-pow_right}
use native.Mathlib.Omega.{arith}
use lib.Dec.{ltb}
use borrow.Author.Tests.{lt-ltb, ltb-true, ltb-false}
use Rattle.meaning.specs.Text.{decimal_in, unsigned_text}
use Rattle.laws.proofs.Text.Numerals.{dec_large}
use Rattle.io.specs.Digits.{last_digits, IsDigitCount, hex_digit_ascii}

io_digits : (k f n : ℕ) → IsDigitCount 10 1 n (suc k) → k ≤ f → last_digits 10 (suc k) n ≡ decimal_in (suc f) n
io_digits zero f n (a, b, c) h =
    let l : n < 10 = omega arith in
    let e : n % 10 ≡ n = omega arith in
    rw (e, lt-ltb n 10 l) refl
io_digits (suc k) zero n w h = let y : ⊥ = omega arith in absurd y
io_digits (suc k) (suc f) n (a, b, c) h =
    let q2 : suc (suc k) - 1 ≡ suc k = omega arith in
    let q1 : suc k - 1 ≡ k = omega arith in
    let low : 10 ^ suc k ≤ n = rw q2 at (c (omega arith)) in
    let e1 : 10 ^ suc (suc k) ≡ 10 ^ suc k * 10 = pow-suc 10 (suc k) in
    let e0 : 10 ^ suc k ≡ 10 ^ k * 10 = pow-suc 10 k in
    let one : 1 ≤ 10 ^ k = one-le-pow k 10 (omega arith) in
    let up : n / 10 < 10 ^ suc k = omega arith in
    let lo : 10 ^ k ≤ n / 10 = omega arith in
    let i : last_digits 10 (suc k) (n / 10) ≡ decimal_in (suc f) (n / 10) = io_digits k f (n / 10) (omega arith, up, λ q. rw q1 lo) (omega arith) in
    let g : ltb (n % 10) 10 ≡ true = lt-ltb (n % 10) 10 (omega arith) in
    ap (λ (l : List ℕ). l ++ (hex_digit_ascii (n % 10) ∷ [])) i
    ∙ ap (λ (t : Bool). decimal_in (suc f) (n / 10) ++ (cond t (48 + n % 10) (87 + n % 10) ∷ [])) g
    ∙ sym (dec_large (suc f) n (omega arith))

few : (k n : ℕ) (b : Bool) → ltb k 20 ≡ b → 10 ^ k ≤ n → n < 2 ^ 64 → k < 20
few k n true e h l = ltb-true k 20 e
few k n false e h l =
    let p : 10 ^ 20 ≤ 10 ^ k = pow-le-pow_right {n = 10} (omega arith) {i = 20} {j = k} (ltb-false k 20 e) in
    omega arith

fewest_20 : (k n : ℕ) → IsDigitCount 10 1 n (suc k) → n < 2 ^ 64 → k < 20
fewest_20 zero n w l = omega arith
fewest_20 (suc k) n (a, b, c) l =
    let q2 : suc (suc k) - 1 ≡ suc k = omega arith in
    few (suc k) n (ltb (suc k) 20) refl (rw q2 at (c (omega arith))) l

pub unsigned_io : (k n : ℕ) → IsDigitCount 10 1 n k → n < 2 ^ 64 → last_digits 10 k n ≡ unsigned_text n
unfolding unsigned_text
unsigned_io zero n (a, b, c) l = let y : ⊥ = omega arith in absurd y
unsigned_io (suc k) n w l =
    let h : k < 20 = fewest_20 k n w l in
    io_digits k 19 n w (omega arith)
