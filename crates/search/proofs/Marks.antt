-- Marks in a map: how additions compose, and what each step of the code adds. Assumes nothing.
use mathlib.Core.Path.{◌≡◌, refl, sym, ap, ◌∙◌, subst}
use mathlib.Core.Bool.{Bool, true, false, ◌||◌}
use mathlib.Core.List.{List, [], ◌∷◌, ◌++◌}
use Prim.Native.Nat.{ℕ, ◌+◌, ◌*◌, ◌/◌, ◌%◌, ◌^◌, ◌≤◌, ◌<◌}
use native.Mathlib.Decide.{ℕ_discrete}
use native.Mathlib.Omega.{arith}
use native.Mathlib.Numerals.{add-one}
use lib.Dec.{T, eqb}
use lib.ListN.{length, get_or, set, take, replicate, length-set, length-replicate, get_or-replicate}
use lib.Pow.{pow_mono}
use lib.Seq.{get_or-set_same, get_or-set_other, take-suc-set, ext_get_or}
use Rattle.meaning.specs.Basics.{zeros}
use Rattle.meaning.specs.Operation.{Odd}
use Rattle.meaning.specs.Distance.{is_one_op, does_reach}
use Rattle.laws.proofs.Lists.Tests.{true_of, false_of}
use Rattle.laws.proofs.Whole.Zeros.{zeros_left}
use Rattle.search.specs.Sides.{does_hit, is_side_to, is_with}
use Rattle.search.specs.Marks.{bit, mark_of, Holds, Adds, marked, Wide, State}
use Rattle.search.specs.Walk.{pairs_from, is_among}
use Rattle.search.proofs.Sides.{hit_outcome, outcome_hit, with_suc, one_self, reach_add}
use Rattle.search.proofs.Walk.{among_suc, side_is}

-- ---- additions

-- nothing is added
pub adds_none : {ms new : List ℕ} {Q : ℕ → Bool} → new ≡ ms → ((k : ℕ) → k < length ms → T (Q (2 * k + 1)) → ⊥) → Adds ms new Q
adds_none {ms} {new} {Q} e h =
    record {
      long = ap length e;
      marks = λ k l. ap (λ (x : List ℕ). get_or x k 0) e ∙ ap (λ (b : Bool). mark_of b (get_or ms k 0)) (sym (false_of (Q (2 * k + 1)) (h k l)));
    }

-- one mark is added
pub adds_one : {ms new : List ℕ} {Q : ℕ → Bool} (at : ℕ) → new ≡ set ms at 1 → at < length ms → T (Q (2 * at + 1)) → ((k : ℕ) → T (Q (2 * k + 1)) → k ≡ at) → Adds ms new Q
adds_one {ms} {new} {Q} at e h t f =
    record {
      long = ap length e ∙ simp length-set;
      marks = λ k l. ap (λ (x : List ℕ). get_or x k 0) e ∙ go k (ℕ_discrete k at);
    }
  where
    go : (k : ℕ) → Dec (k ≡ at) → get_or (set ms at 1) k 0 ≡ mark_of (Q (2 * k + 1)) (get_or ms k 0)
    go k (yes q) = rw (q, true_of (Q (2 * at + 1)) t) (get_or-set_same ms at 1 0 h)
    go k (no q) = rw (false_of (Q (2 * k + 1)) (λ w. q (f k w))) (get_or-set_other ms at k 1 0 q)

mark_or : (a b : Bool) (m : ℕ) → mark_of b (mark_of a m) ≡ mark_of (a || b) m
mark_or true true m = refl
mark_or true false m = refl
mark_or false b m = refl

-- one after the other
pub adds_then : {a b c : List ℕ} {P Q R : ℕ → Bool} → Adds a b P → Adds b c Q → ((k : ℕ) → (P k || Q k) ≡ R k) → Adds a c R
adds_then {a} {b} {c} {P} {Q} {R} x y e =
    record {
      long = y.long ∙ x.long;
      marks = λ k l.
          y.marks k (rw x.long l)
          ∙ ap (mark_of (Q (2 * k + 1))) (x.marks k l)
          ∙ mark_or (P (2 * k + 1)) (Q (2 * k + 1)) (get_or a k 0)
          ∙ ap (λ (t : Bool). mark_of t (get_or a k 0)) (e (2 * k + 1));
    }

bit_or : (a b : Bool) → mark_of b (bit a) ≡ bit (a || b)
bit_or true true = refl
bit_or true false = refl
bit_or false true = refl
bit_or false false = refl

pub holds_then : {a b : List ℕ} {P Q R : ℕ → Bool} → Holds a P → Adds a b Q → ((k : ℕ) → (P k || Q k) ≡ R k) → Holds b R
holds_then {a} {b} {P} {Q} {R} h x e =
    record {
      bits = λ k l.
          let m : k < length a = rw (sym x.long) l in
          x.marks k m ∙ ap (mark_of (Q (2 * k + 1))) (h.bits k m) ∙ bit_or (P (2 * k + 1)) (Q (2 * k + 1)) ∙ ap bit (e (2 * k + 1));
    }

-- ---- bytes

pub eqb_bit : (b : Bool) → eqb (bit b) 1 ≡ b
eqb_bit true = refl
eqb_bit false = refl

-- what a byte of a map says
pub marked_is : (ms : List ℕ) (P : ℕ → Bool) (c : ℕ) → Holds ms P → c % 2 ≡ 1 → c / 2 < length ms → marked ms c ≡ P c
unfolding marked
marked_is ms P c h o l =
    let e : 2 * (c / 2) + 1 ≡ c = omega arith in
    ap (λ (x : ℕ). eqb x 1) (h.bits (c / 2) l) ∙ eqb_bit (P (2 * (c / 2) + 1)) ∙ ap P e

-- in the same words as the contracts: the map of a state says what one operation reaches
pub reached_is : (L : ℕ) (map vals : List ℕ) (n c : ℕ) → State L map vals n → c % 2 ≡ 1 → c < 2 ^ L → marked map c ≡ does_reach L (take n vals) c
reached_is L map vals n c s o l =
    marked_is map (λ c. does_reach L (take n vals) c) c s.reach o (omega (arith, s.wide.1))

pub zero_holds : (n : ℕ) → Holds (replicate n 0) (λ s. false)
zero_holds n = record { bits = λ k l. get_or-replicate n k 0 0 (rw (sym (length-replicate {A = ℕ} n 0)) l) }

-- with nothing ready nothing is reached, so that a map of zeros is where `add` starts
pub start : (L n : ℕ) (vals : List ℕ) → Wide L (replicate n 0) → State L (replicate n 0) vals 0
unfolding does_reach
start L n vals w =
    record {
      wide = w;
      values = (omega arith, λ i j. absurd (let z : i < 0 = j in omega arith));
      reach = zero_holds n;
    }

-- a map of m zeros is enough for k bits, and so for fewer
pub start_of : (L k m : ℕ) (vals : List ℕ) → L ≤ k → k ≤ 19 → 2 ^ k ≤ 2 * m → State L (replicate m 0) vals 0
start_of L k m vals h l w =
    let p : 2 ^ L ≤ 2 ^ k = pow_mono h in
    start L m vals (omega arith, omega (arith, length-replicate {A = ℕ} m 0))

-- with nothing ready the list of values is of no account
pub none_ready : (L : ℕ) (map xs ys : List ℕ) → State L map xs 0 → State L map ys 0
none_ready L map xs ys s =
    record { wide = s.wide; values = (omega arith, λ i j. absurd (let z : i < 0 = j in omega arith)); reach = s.reach }

-- ---- n without its trailing zeros

module _ (L : ℕ) (ms new : List ℕ) (n : ℕ) where
  pub mark_none : new ≡ ms → n ≡ 0 → Adds ms new (λ c. does_hit L n c)
  mark_none e z = adds_none e (λ k l t. let h = hit_outcome L n (2 * k + 1) t in omega arith)

  pub mark_past : (m : ℕ) → new ≡ ms → m ≡ n / 2 ^ zeros n → 2 ^ L ≤ m → Adds ms new (λ c. does_hit L n c)
  mark_past m e q z = adds_none e (λ k l t. let h = hit_outcome L n (2 * k + 1) t in omega arith)

  pub mark_one : (m : ℕ) → new ≡ set ms (m / 2) 1 → m ≡ n / 2 ^ zeros n → 0 < n → m < 2 ^ L → 2 ^ L ≤ 2 * length ms → Adds ms new (λ c. does_hit L n c)
  mark_one m e q p l w =
      let o : n / 2 ^ zeros n % 2 ≡ 1 = zeros_left n p in
      let h : 2 * (m / 2) + 1 ≡ n / 2 ^ zeros n = omega arith in
      adds_one (m / 2) e (omega arith)
      (outcome_hit L n (zeros n) (2 * (m / 2) + 1) (record { nonzero = p; shift = refl; value = h; below = omega arith }))
      (λ k t. let h = (hit_outcome L n (2 * k + 1) t).value in omega arith)

-- ---- the sides

pub among_start : (L : ℕ) (ms : List ℕ) → Adds ms ms (λ c. is_among L [] c)
unfolding is_among
among_start L ms = adds_none refl (λ k l t. t)

pub among_more : (L : ℕ) (ps : List (ℕ × ℕ)) (x y : ℕ) {a b c d : List ℕ}
    → Adds a b (λ c. is_among L ps c) → Adds b c (λ c. does_hit L x c) → Adds c d (λ c. does_hit L y c) → Adds a d (λ c. is_among L (ps ++ ((x, y) ∷ [])) c)
among_more L ps x y p q r = adds_then (adds_then p q (λ k. refl)) r (λ k. among_suc L ps x y k)

pub among_all : (L u v : ℕ) (ps : List (ℕ × ℕ)) {a b : List ℕ} → Odd L u → Odd L v → ps ≡ pairs_from u v (u + 2 ^ L) 0 (L + 1)
    → Adds a b (λ c. is_among L ps c) → Adds a b (λ c. is_side_to L u v (L + 1) c)
among_all L u v ps {a} {b} o p e x =
    record {
      long = x.long;
      marks = λ k i. x.marks k i ∙ ap (λ (t : Bool). mark_of t (get_or a k 0)) (ap (λ qs. is_among L qs (2 * k + 1)) e ∙ side_is L u v (2 * k + 1) o p);
    }

-- ---- each value of a list

pub with_start : (L v : ℕ) (xs ms : List ℕ) → Adds ms ms (λ c. is_with L v (take 0 xs) c)
unfolding is_with
with_start L v xs ms = adds_none refl (λ k l t. t)

pub with_more : (L v : ℕ) (xs : List ℕ) (i : ℕ) {a b c : List ℕ} → i < length xs
    → Adds a b (λ c. is_with L v (take i xs) c) → Adds b c (λ c. is_one_op L v (get_or xs i 0) c) → Adds a c (λ c. is_with L v (take (i + 1) xs) c)
with_more L v xs i h p q = adds_then p q (λ k. with_suc L v xs i k h)

-- ---- one ready value more

pub reach_more : (L : ℕ) (vals : List ℕ) (v : ℕ) {a b c : List ℕ} → Holds a (λ c. does_reach L vals c)
    → Adds a b (λ c. is_with L v vals c) → Adds b c (λ c. is_side_to L v v (L + 1) c) → Holds c (λ c. does_reach L (vals ++ (v ∷ [])) c)
reach_more L vals v h p q =
    holds_then h (adds_then p q (λ k. refl))
    (λ k. ap (λ (t : Bool). does_reach L vals k || (is_with L v vals k || t)) (sym (one_self L v k)) ∙ sym (reach_add L vals v k))

pub taken : (xs : List ℕ) (n v : ℕ) → n < length xs → take (n + 1) (set xs n v) ≡ take n xs ++ (v ∷ [])
taken xs n v h = ap (λ (j : ℕ). take j (set xs n v)) (add-one n) ∙ take-suc-set xs n v h

-- the value stored in its place, after `add`
pub include_is : (L : ℕ) (map new vals : List ℕ) (n v : ℕ) → State L map vals n → n < length vals → v % 2 ≡ 1 → v < 2 ^ L
    → length new ≡ length map → Holds new (λ c. does_reach L (take n vals ++ (v ∷ [])) c) → State L new (set vals n v) (n + 1)
include_is L map new vals n v s h o l e r =
    record {
      wide = (s.wide.0, omega (arith, s.wide.1));
      values = (rw length-set (omega arith), λ i j. at i j (ℕ_discrete i n));
      reach = subst (λ (xs : List ℕ). Holds new (λ c. does_reach L xs c)) (sym (taken vals n v h)) r;
    }
  where
    at : (i : ℕ) → i < n + 1 → Dec (i ≡ n) → (get_or (set vals n v) i 0 % 2 ≡ 1) × (get_or (set vals n v) i 0 < 2 ^ L)
    at i j (yes q) = rw (q, get_or-set_same vals n v 0 h) (o, l)
    at i j (no q) = rw (get_or-set_other vals n i v 0 q) (s.values.1 i (omega arith))

-- any two maps of one length that hold the same numbers are equal
pub one_map : (a b : List ℕ) (P : ℕ → Bool) → length a ≡ length b → Holds a P → Holds b P → a ≡ b
one_map a b P e h k = ext_get_or 0 a b e (λ i l. h.bits i l ∙ sym (k.bits i (omega arith)))
