-- The operation: its test and its statement agree; |n| is the magnitude of n; r is all the trailing zeros, the value is odd, and both are the
-- only ones. Assumes nothing.
use mathlib.Core.Path.{◌≡◌, refl, sym, ap, ap₂, ◌∙◌, subst₂}
use mathlib.Core.Bool.{Bool, true, false, cond}
use Prim.Native.Nat.{ℕ, zero, suc, ◌-◌, ◌*◌, ◌/◌, ◌%◌, ◌^◌, ◌<◌}
use native.Mathlib.Omega.{arith}
use native.Mathlib.Nat.{mul-pos}
use borrow.Author.Tests.{ltb-true, ltb-false}
use lib.Dec.{T, ltb, leb→le, le→leb, eqb→eq}
use lib.IntN.{ℤ, pos, negsuc, nat_abs, ◌-ℤ◌}
use lib.Pow.{pow_pos}
use Rattle.std.specs.Prelude.{Option, Some, None}
use Rattle.meaning.specs.declared.Made.{Made}
use Rattle.meaning.specs.Basics.{difference, zeros}
use Rattle.meaning.specs.Operation.{whole, size, Outcome, Valid, outcome_tests, is_outcome, valid_tests, is_valid, operated}
use Rattle.laws.proofs.Lists.Tests.{all_of, of_all, eqb_of_eq, true_of, T_of}
use Rattle.laws.proofs.Whole.Zeros.{zeros_whole, zeros_left, zeros_unique}

-- ---- the test and the statement

module _ (L m r c : ℕ) where
  pub outcome_of_test : T (is_outcome L m r c) → Outcome L m r c
  unfolding is_outcome
  outcome_of_test t = let p = all_of (outcome_tests L m r c) t in omega (arith, leb→le, eqb→eq)

  pub test_of_outcome : Outcome L m r c → T (is_outcome L m r c)
  unfolding is_outcome
  test_of_outcome k = of_all (outcome_tests L m r c) (omega (arith, le→leb, eqb_of_eq))

module _ (L u v l1 l2 s r c : ℕ) where
  pub valid_of_test : T (is_valid L u v l1 l2 s r c) → Valid L u v l1 l2 s r c
  unfolding is_valid
  valid_of_test t =
      let p = all_of (valid_tests L u v l1 l2 s r c) t in
      record {
        left = leb→le _ _ p.0;
        right = leb→le _ _ p.1.0;
        unshifted = eqb→eq _ _ p.1.1.1.0;
        sign = leb→le _ _ p.1.1.0;
        outcome = outcome_of_test L (size u v l1 l2 s) r c p.1.1.1.1.0;
      }

  pub test_of_valid : Valid L u v l1 l2 s r c → T (is_valid L u v l1 l2 s r c)
  unfolding is_valid
  test_of_valid k =
      of_all (valid_tests L u v l1 l2 s r c) (
        le→leb _ _ k.left,
        (le→leb _ _ k.right, (le→leb _ _ k.sign, (eqb_of_eq _ _ k.unshifted, (test_of_outcome L (size u v l1 l2 s) r c k.outcome, tt)))),
      )

-- ---- |n|

pub abs_minus : (a b : ℕ) → nat_abs (pos a -ℤ pos b) ≡ difference a b
abs_minus a zero = omega arith
abs_minus a (suc b) = go (ltb a (suc b)) refl
  where
    go : (t : Bool) → ltb a (suc b) ≡ t → nat_abs (cond t (negsuc (suc b - suc a)) (pos (a - suc b))) ≡ difference a (suc b)
    go true e = omega (arith, ltb-true a (suc b) e)
    go false e = omega (arith, ltb-false a (suc b) e)

pub size_is : (u v l1 l2 s : ℕ) → nat_abs (whole u v l1 l2 s) ≡ size u v l1 l2 s
size_is u v l1 l2 zero = refl
size_is u v l1 l2 (suc s) = abs_minus (2 ^ l1 * u) (2 ^ l2 * v)

-- ---- r and the value

-- the value is odd and positive, and |n| is the value times 2 ^ r
pub record Exact (m r c : ℕ) : Type 0 where
  pub odd : c % 2 ≡ 1
  pub whole : m ≡ c * 2 ^ r

pub exact_of : (L m r c : ℕ) → Outcome L m r c → Exact m r c
exact_of L m r c k =
    let e : c ≡ m / 2 ^ zeros m = k.value ∙ ap (λ z. m / 2 ^ z) k.shift in
    record {
      odd = rw e (zeros_left m k.nonzero);
      whole = rw (e, k.shift) (sym (zeros_whole m));
    }

-- and only the r and the value of the outcome are so
pub outcome_of_lem : (L m r c : ℕ) → Exact m r c → c < 2 ^ L → Outcome L m r c
outcome_of_lem L m r c x l =
    let (z, q) = zeros_unique m r c x.odd x.whole in
    record {
      nonzero = rw x.whole (mul-pos {m = c} {n = 2 ^ r} (let o = x.odd in omega arith) (pow_pos r));
      shift = sym z;
      value = sym q ∙ ap (λ k. m / 2 ^ k) z;
      below = l;
    }

-- any two valid readings of one operation agree
pub one_outcome : (L m r c r' c' : ℕ) → Outcome L m r c → Outcome L m r' c' → (r ≡ r') × (c ≡ c')
one_outcome L m r c r' c' a b =
    let e : r ≡ r' = a.shift ∙ sym b.shift in
    (e, a.value ∙ ap (λ k. m / 2 ^ k) e ∙ sym b.value)

-- ---- what an operation makes

module _ (L u v l1 l2 s : ℕ) where
  abbrev m : ℕ
  m = size u v l1 l2 s

  abbrev is : Bool
  is = is_valid L u v l1 l2 s (zeros m) (m / 2 ^ zeros m)

  abbrev by : ℕ → ℕ → Made
  by r c = record { n = whole u v l1 l2 s; r = r; value = c }

  abbrev made : Bool → Option Made
  made t = cond t (Some (by (zeros m) (m / 2 ^ zeros m))) None

  pub operated_made : (r c : ℕ) → Valid L u v l1 l2 s r c → operated L u v l1 l2 s ≡ Some (by r c)
  unfolding operated
  operated_made r c k =
      let f : r ≡ zeros m = k.outcome.shift in
      let e : c ≡ m / 2 ^ zeros m = k.outcome.value ∙ ap (λ z. m / 2 ^ z) f in
      let t = test_of_valid L u v l1 l2 s _ _ (subst₂ (Valid L u v l1 l2 s) f e k) in
      ap made (true_of is t) ∙ ap₂ (λ r c. Some (by r c)) (sym f) (sym e)

  pub operated_valid : (n : ℤ) (r c : ℕ) → operated L u v l1 l2 s ≡ Some (record { n = n; r = r; value = c }) → Valid L u v l1 l2 s r c
  unfolding operated
  operated_valid n r c e = go is refl e
    where
      go : (t : Bool) → is ≡ t → made t ≡ Some (record { n = n; r = r; value = c }) → Valid L u v l1 l2 s r c
      go true q f =
          let g : by (zeros m) (m / 2 ^ zeros m) ≡ record { n = n; r = r; value = c } = cc in
          let a = ap (λ (x : Made). x.r) g in
          let b = ap (λ (x : Made). x.value) g in
          subst₂ (Valid L u v l1 l2 s) a b (valid_of_test L u v l1 l2 s (zeros m) (m / 2 ^ zeros m) (T_of q))
      go false q f = absurd (let z : ◌≡◌ {A = ℕ} 0 1 = cc in omega arith)
