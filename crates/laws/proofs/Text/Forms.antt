-- Lines by their forms: number by number, line by line, and how long they are. Assumes nothing.
use mathlib.Core.Path.{◌≡◌, refl, ap, ◌∙◌, sym}
use mathlib.Core.Bool.{Bool, true, false, not, cond}
use mathlib.Core.List.{List, [], ◌∷◌, ◌++◌, append_assoc, append-nil, Memᴰ}
use Prim.Native.Nat.{ℕ, zero, suc, ◌+◌, ◌*◌, ◌/◌, ◌%◌, ◌^◌, ◌≤◌, ◌<◌}
use native.Mathlib.Nat.{pow-suc, mul-suc}
use native.Mathlib.Numerals.{add-one}
use native.Mathlib.Omega.{arith}
use lib.Dec.{T, eqb, ltb}
use lib.IntN.{ℤ, pos}
use lib.ListN.{length, get_or, take, drop, length-append}
use borrow.Author.Tests.{lt-ltb}
use Rattle.meaning.specs.Basics.{every}
use Rattle.meaning.specs.Text.{bytes, decimal_in, unsigned_text, text_of}
use Rattle.meaning.specs.Forms.{line_of, lines_of}
use Rattle.laws.proofs.Lists.Tests.{both_of}

-- ---- a line number by number: a form whose numbers have these texts before them, and its line behind what was written before

abbrev pub form_with : List (List ℕ) → List ℕ
form_with [] = bytes "\n"
form_with (text ∷ texts) = text ++ (35 ∷ form_with texts)

abbrev pub line_with : List ℕ → List (List ℕ) → List ℤ → List ℕ
line_with done [] zs = done ++ bytes "\n"
line_with done (text ∷ texts) zs = line_with (done ++ text ++ text_of (get_or zs 0 (pos 0))) texts (drop 1 zs)

-- no # stands in a text
abbrev pub is_unmarked : List ℕ → Bool
is_unmarked text = every (λ c. not (eqb c 35)) text

text_line : (text form : List ℕ) (zs : List ℤ) → T (is_unmarked text) → line_of (text ++ form) zs ≡ text ++ line_of form zs
unfolding line_of
text_line [] form zs t = refl
text_line (c ∷ text) form zs t = let (h, k) = both_of (not (eqb c 35)) (is_unmarked text) t in go (eqb c 35) h (text_line text form zs k)
  where
    go : (b : Bool) → T (not b) → line_of (text ++ form) zs ≡ text ++ line_of form zs
        → cond b (text_of (get_or zs 0 (pos 0))) (c ∷ []) ++ line_of (text ++ form) (drop (cond b 1 0) zs) ≡ c ∷ (text ++ line_of form zs)
    go true h e = absurd h
    go false h e = ap (λ (l : List ℕ). c ∷ l) e

pub line_with_lem : (done : List ℕ) (texts : List (List ℕ)) (zs : List ℤ) → T (every is_unmarked texts) → done ++ line_of (form_with texts) zs ≡ line_with done texts zs
unfolding line_of
line_with_lem done [] zs t = refl
line_with_lem done (text ∷ texts) zs t =
    let (h, k) = both_of (is_unmarked text) (every is_unmarked texts) t in
    let z : List ℕ = text_of (get_or zs 0 (pos 0)) in
    let rest : List ℕ = line_of (form_with texts) (drop 1 zs) in
    ap (λ (l : List ℕ). done ++ l) (text_line text (35 ∷ form_with texts) zs h)
    ∙ sym (append_assoc (done ++ text) z rest ∙ append_assoc done text (z ++ rest))
    ∙ line_with_lem (done ++ text ++ z) texts (drop 1 zs) k

-- ---- lines of one form, one after the other

module _ (form : List ℕ) where
  lines_suc : (zss : List (List ℤ)) (k : ℕ) → k < length zss → lines_of form (take (suc k) zss) ≡ lines_of form (take k zss) ++ line_of form (get_or zss k [])
  unfolding lines_of
  lines_suc [] k h = absurd (omega arith)
  lines_suc (zs ∷ zss) zero h = append-nil (line_of form zs)
  lines_suc (zs ∷ zss) (suc k) h = ap (λ (l : List ℕ). line_of form zs ++ l) (lines_suc zss k (omega arith)) ∙ sym (append_assoc (line_of form zs) _ _)

  pub lines_more : (zss : List (List ℤ)) (k : ℕ) → k < length zss → lines_of form (take (k + 1) zss) ≡ lines_of form (take k zss) ++ line_of form (get_or zss k [])
  lines_more zss k h = rw (add-one k) (lines_suc zss k h)

  -- the first of them are no longer than all
  pub lines_part : (zss : List (List ℤ)) (k : ℕ) → length (lines_of form (take k zss)) ≤ length (lines_of form zss)
  unfolding lines_of
  lines_part zss zero = omega arith
  lines_part [] (suc k) = omega arith
  lines_part (zs ∷ zss) (suc k) =
      omega (arith, lines_part zss k, length-append (line_of form zs) (lines_of form (take k zss)), length-append (line_of form zs) (lines_of form zss))

-- ---- how long a number is

digits_most : (k d n : ℕ) → n < 10 ^ suc d → length (decimal_in k n) ≤ suc d
digits_most zero d n h = omega arith
digits_most (suc k) zero n h = rw (lt-ltb n 10 (omega arith)) (omega arith)
digits_most (suc k) (suc d) n h =
    let e : 10 ^ suc (suc d) ≡ 10 ^ suc d * 10 = pow-suc 10 (suc d) in
    go (ltb n 10) (digits_most k d (n / 10) (omega arith))
  where
    go : (b : Bool) → length (decimal_in k (n / 10)) ≤ suc d → length (cond b ((48 + n) ∷ []) (decimal_in k (n / 10) ++ ((48 + n % 10) ∷ []))) ≤ suc (suc d)
    go true q = omega arith
    go false q = let e = length-append (decimal_in k (n / 10)) ((48 + n % 10) ∷ []) in omega arith

-- a number takes at most d digits beyond the first, its minus among them
pub record Short (d : ℕ) (z : ℤ) : Type 0 where
  pub short : length (text_of z) ≤ suc d

pub short_number : (d n : ℕ) → n < 10 ^ suc d → Short d (pos n)
unfolding unsigned_text
short_number d n h = record { short = digits_most 20 d n h }

-- ---- how long a line is: its form, and what its numbers take beyond one digit each

abbrev pub AllShort : List ℕ → List ℤ → Type 0
AllShort ds [] = Unit {0}
AllShort [] (z ∷ zs) = ⊥
AllShort (d ∷ ds) (z ∷ zs) = Short d z × AllShort ds zs

abbrev pub total : List ℕ → ℕ
total [] = 0
total (d ∷ ds) = d + total ds

abbrev Roomy : List ℕ → Type 0
Roomy form = (ds : List ℕ) (zs : List ℤ) → AllShort ds zs → length (line_of form zs) ≤ length form + total ds

step_room : (c : ℕ) (cs : List ℕ) → Roomy cs → (b : Bool) (ds : List ℕ) (zs : List ℤ) → AllShort ds zs
    → length (cond b (text_of (get_or zs 0 (pos 0))) (c ∷ []) ++ line_of cs (drop (cond b 1 0) zs)) ≤ suc (length cs) + total ds
step_room c cs rec true ds [] w =
    let zero = (short_number 0 0 (omega arith)).short in
    omega (arith, rec ds [] tt, length-append (text_of (pos 0)) (line_of cs []))
step_room c cs rec true [] (z ∷ zs) w = absurd w
step_room c cs rec true (d ∷ ds) (z ∷ zs) w = omega (arith, w.0.short, rec ds zs w.1, length-append (text_of z) (line_of cs zs))
step_room c cs rec false ds zs w = omega (arith, rec ds zs w)

pub line_room : (form : List ℕ) → Roomy form
unfolding line_of
line_room [] ds zs w = omega arith
line_room (c ∷ cs) ds zs w = step_room c cs (line_room cs) (eqb c 35) ds zs w

-- and lines, of which none is longer than m
pub lines_room : (form : List ℕ) (m : ℕ) (zss : List (List ℤ)) → ((zs : List ℤ) → Memᴰ zs zss → length (line_of form zs) ≤ m) → length (lines_of form zss) ≤ m * length zss
unfolding lines_of
lines_room form m [] h = omega arith
lines_room form m (zs ∷ zss) h =
    let k : m * suc (length zss) ≡ m * length zss + m = mul-suc m (length zss) in
    omega (arith, h zs (Memᴰ.head refl), lines_room form m zss (λ ys i. h ys (Memᴰ.tail i)), length-append (line_of form zs) (lines_of form zss))
