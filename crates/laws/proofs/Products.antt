-- The products of valid rows, worked by their words, are their values times x; a served target's product is the target times x; an output's index is
-- the lowest that has its odd part; and rows one by one. Assumes nothing.
use mathlib.Core.Path.{◌≡◌, refl, sym, ap, ap₂, ◌∙◌, subst}
use mathlib.Core.Bool.{Bool, true, false, not, cond}
use mathlib.Core.List.{List, [], ◌∷◌, ◌++◌, map, append_assoc, append-nil, map-append}
use mathlib.Core.Logic.{⊎_elim}
use Prim.Native.Nat.{ℕ, zero, suc, ◌-◌, ◌*◌, ◌%◌, ◌^◌, ◌≤◌, ◌<◌}
use native.Mathlib.Decide.{dec_le}
use native.Mathlib.Omega.{arith}
use borrow.Author.Tests.{ltb-true, ne_eqb, le-leb, lt-leb}
use lib.Dec.{T, ltb, leb, leb→le}
use lib.IntN.{ℤ, pos, negsuc, neg_ℤ, nat_abs, ◌-ℤ◌, ◌*ℤ◌, zero-*ℤ, *ℤ_comm}
use lib.Signed.{quot_z, non_neg}
use lib.Pow.{pow_pos}
use lib.ListN.{get_or, get_or-map}
use Rattle.laws.proofs.Whole.Integers.{add_mul, sub_mul, neg_mul, mul_assocℤ, quot_exact}
use Rattle.meaning.specs.declared.Row.{Row}
use Rattle.meaning.specs.Basics.{every, has, index_from}
use Rattle.meaning.specs.Constants.{sign_of, shift_of, odd_of, apart}
use Rattle.meaning.specs.Operation.{whole, size}
use Rattle.meaning.specs.Graph.{row_after, rows, values, ready, value_at, Fits, Sound, is_served, output_index}
use Rattle.meaning.specs.Products.{is_negative, joined, negated_if, row_product, products_from, products, target_product, target_products}
use Rattle.laws.proofs.Lists.Index.{Lowest, none_below, index_is}
use Rattle.laws.proofs.Lists.Tests.{both_of, either_of}
use Rattle.laws.proofs.Whole.Zeros.{zeros_left}
use Rattle.laws.proofs.Constants.Apart.{apart_whole}
use Rattle.laws.proofs.Operation.Result.{exact_of, size_is}
use Rattle.laws.proofs.Graph.Rows.{rows_more, ready_append}

-- ---- a row's product

module _ (x : ℤ) where
  abbrev pub times : ℕ → ℤ
  times v = pos v *ℤ x

  pub term : (l u : ℕ) → pos (2 ^ l) *ℤ times u ≡ times (2 ^ l * u)
  term l u = sym (mul_assocℤ (pos (2 ^ l)) (pos u) x)

  -- the joined products are n times x
  joined_is : (u v l1 l2 s : ℕ) → joined (times u) (times v) l1 l2 s ≡ whole u v l1 l2 s *ℤ x
  joined_is u v l1 l2 zero = rw (term l1 u, term l2 v) (sym (add_mul (pos (2 ^ l1 * u)) (pos (2 ^ l2 * v)) x))
  joined_is u v l1 l2 (suc s) = rw (term l1 u, term l2 v) (sym (sub_mul (pos (2 ^ l1 * u)) (pos (2 ^ l2 * v)) x))

  -- turned where n is negative, they are |n| times x
  negated_is : (n : ℤ) → negated_if (not (non_neg n)) (n *ℤ x) ≡ times (nat_abs n)
  negated_is (pos n) = refl
  negated_is (negsuc n) = sym (neg_mul (negsuc n) x)

  quotient : (c d : ℕ) → 0 < d → quot_z (times (c * d)) (pos d) ≡ times c
  quotient c d h =
      ap (λ z. quot_z z (pos d)) (mul_assocℤ (pos c) (pos d) x ∙ ap (λ z. pos c *ℤ z) (*ℤ_comm (pos d) x) ∙ sym (mul_assocℤ (pos c) x (pos d)))
      ∙ quot_exact (times c) d h

  pub product_at : (vals : List ℕ) (i : ℕ) → get_or (map times vals) i (pos 0) ≡ times (get_or vals i 0)
  product_at vals i = ap (get_or (map times vals) i) (sym (zero-*ℤ x)) ∙ get_or-map times vals i 0

less_negative : (a b : ℕ) → ltb a b ≡ not (non_neg (pos a -ℤ pos b))
less_negative a zero = go (ltb a 0) refl
  where
    go : (t : Bool) → ltb a 0 ≡ t → t ≡ false
    go true e = absurd (omega (arith, ltb-true a 0 e))
    go false e = refl
less_negative a (suc b) = go (ltb a (suc b))
  where
    go : (t : Bool) → t ≡ not (non_neg (cond t (negsuc (suc b - suc a)) (pos (a - suc b))))
    go true = refl
    go false = refl

-- what the definition turns by is the sign of n
pub negative_is : (u v l1 l2 s : ℕ) → is_negative u v l1 l2 s ≡ not (non_neg (whole u v l1 l2 s))
negative_is u v l1 l2 zero = refl
negative_is u v l1 l2 (suc s) = less_negative (2 ^ l1 * u) (2 ^ l2 * v)

-- the operands' products joined, and negated where n is negative, are |n| times x
pub turned_is : (x : ℤ) (u v l1 l2 s : ℕ) → negated_if (is_negative u v l1 l2 s) (joined (times x u) (times x v) l1 l2 s) ≡ times x (size u v l1 l2 s)
turned_is x u v l1 l2 s =
    rw (negative_is u v l1 l2 s, joined_is x u v l1 l2 s, negated_is x (whole u v l1 l2 s)) (ap (times x) (size_is u v l1 l2 s))

-- a valid row's product is its value times x, where its operands' products are
pub row_is : (L : ℕ) (before : List Row) (y : Row) (x : ℤ) → Fits L before y
    → row_product (ready before) (map (times x) (ready before)) y ≡ pos y.value *ℤ x
unfolding row_product
row_is L before y x f =
    let u = value_at before y.u in
    let v = value_at before y.v in
    rw (
      product_at x (ready before) y.u,
      product_at x (ready before) y.v,
      turned_is x u v y.l1 y.l2 y.s,
      (exact_of L _ _ _ f.operation.outcome).whole,
    )
    (quotient x y.value (2 ^ y.r) (pow_pos y.r))

-- ---- all the rows

products_from_lem : (L : ℕ) (before xs : List Row) (x : ℤ) → Sound L before xs
    → products_from before (map (times x) (ready before)) xs ≡ map (times x) (ready (before ++ xs))
unfolding products_from Sound
products_from_lem L before [] x p = ap (λ l. map (times x) (ready l)) (sym (append-nil before))
products_from_lem L before (y ∷ ys) x p =
    let more = before ++ (y ∷ []) in
    ap (λ ps. products_from more ps ys)
    (ap (λ z. map (times x) (ready before) ++ (z ∷ [])) (row_is L before y x p.0)
    ∙ sym (map-append (times x) (ready before) (y.value ∷ [])) ∙ ap (map (times x)) (sym (ready_append before (y ∷ []))))
    ∙ products_from_lem L more ys x p.1
    ∙ ap (λ l. map (times x) (ready l)) (append_assoc before (y ∷ []) ys)

pub one_times : (x : ℤ) → pos 1 *ℤ x ≡ x
one_times (pos n) = ap pos (omega arith)
one_times (negsuc n) = ap (λ (m : ℕ). neg_ℤ (pos m)) (once (suc n))
  where
    once : (n : ℕ) → 1 * n ≡ n
    once n = omega arith

-- each row's product, worked by its words, is its value times x, and the input's is x
pub products_are : (L : ℕ) (xs : List Row) (x : ℤ) → Sound L [] xs → products xs x ≡ map (λ v. pos v *ℤ x) (ready xs)
unfolding products
products_are L xs x g = ap (λ z. products_from [] (z ∷ []) xs) (sym (one_times x)) ∙ products_from_lem L [] xs x g

-- ---- a target's product

-- of a target that is not zero
pub served_index : (vals : List ℕ) (t : ℤ) → odd_of t % 2 ≡ 1 → T (is_served vals t) → Lowest (1 ∷ vals) (odd_of t) (output_index vals (odd_of t))
unfolding is_served output_index
served_index vals t o h = go (dec_le (odd_of t) 1)
  where
    first : odd_of t ≡ 1 → Lowest (1 ∷ vals) (odd_of t) 0
    first e = record { inside = omega arith; at = sym e; below = λ j k q. absurd (omega arith) }

    later : (1 < odd_of t) → (i : ℕ) → Lowest vals (odd_of t) i → Lowest (1 ∷ vals) (odd_of t) (suc i)
    later k i l =
        record { inside = let h = l.inside in omega arith; at = l.at; below = none_below 1 vals (odd_of t) i (ne_eqb 1 (odd_of t) (omega arith)) l.below }

    go : Dec (odd_of t ≤ 1) → Lowest (1 ∷ vals) (odd_of t) (cond (leb (odd_of t) 1) 0 (index_from 1 vals (odd_of t)))
    go (yes k) = rw (le-leb (odd_of t) 1 k) (first (omega arith))
    go (no n) =
        let has-it = ⊎_elim (λ q. absurd (n (leb→le (odd_of t) 1 q))) (λ q. q) (either_of (leb (odd_of t) 1) (has vals (odd_of t)) h) in
        let (i, e, l) = index_is 1 vals (odd_of t) has-it in
        rw (lt-leb (odd_of t) 1 (omega arith)) (subst (Lowest (1 ∷ vals) (odd_of t)) (sym (e ∙ omega arith)) (later (omega arith) i l))

served_product : (L : ℕ) (xs : List Row) (x t : ℤ) → Sound L [] xs → T (is_served (values xs) t) → odd_of t % 2 ≡ 1 → target_product (values xs) (products xs x) t ≡ t *ℤ x
unfolding target_product apart
served_product L xs x t g h o =
    rw (products_are L xs x g, product_at x (ready xs) (output_index (values xs) (odd_of t)), (served_index (values xs) t o h).at)
    (ap (λ z. sign_of t *ℤ z) (sym (mul_assocℤ (pos (2 ^ shift_of t)) (pos (odd_of t)) x))
    ∙ sym (mul_assocℤ (sign_of t) (pos (2 ^ shift_of t * odd_of t)) x)
    ∙ ap (λ z. z *ℤ x) (sym (apart_whole t)))

-- the product of a target is the target times x: zero and signed powers of two too
pub target_product_lem : (L : ℕ) (xs : List Row) (x t : ℤ) → Sound L [] xs → T (is_served (values xs) t) → target_product (values xs) (products xs x) t ≡ t *ℤ x
unfolding target_product
target_product_lem L xs x (pos zero) g h = zero-*ℤ (pos (2 ^ shift_of (pos 0)) *ℤ get_or (products xs x) (output_index (values xs) (odd_of (pos 0))) (pos 0)) ∙ sym (zero-*ℤ x)
target_product_lem L xs x (pos (suc n)) g h = served_product L xs x (pos (suc n)) g h (zeros_left (suc n) (omega arith))
target_product_lem L xs x (negsuc n) g h = served_product L xs x (negsuc n) g h (zeros_left (suc n) (omega arith))

-- the products of a list of served targets
pub target_products_lem : (L : ℕ) (xs : List Row) (x : ℤ) (ts : List ℤ) → Sound L [] xs → T (every (is_served (values xs)) ts) → target_products xs x ts ≡ map (λ t. t *ℤ x) ts
unfolding target_products
target_products_lem L xs x [] g h = refl
target_products_lem L xs x (t ∷ ts) g h =
    let p = both_of (is_served (values xs) t) (every (is_served (values xs)) ts) h in
    ap₂ (λ y ys. y ∷ ys) (target_product_lem L xs x t g p.0) (target_products_lem L xs x ts g p.1)

-- ---- rows one by one

-- the products of one row more
products_snoc : (before : List Row) (ps : List ℤ) (xs : List Row) (y : Row)
    → products_from before ps (xs ++ (y ∷ [])) ≡ products_from before ps xs ++ (row_product (ready (before ++ xs)) (products_from before ps xs) y ∷ [])
unfolding products_from
products_snoc before ps [] y = ap (λ l. ps ++ (row_product (ready l) ps y ∷ [])) (sym (append-nil before))
products_snoc before ps (x ∷ xs) y =
    let more = before ++ (x ∷ []) in
    let qs = products_from more (ps ++ (row_product (ready before) ps x ∷ [])) xs in
    products_snoc more (ps ++ (row_product (ready before) ps x ∷ [])) xs y
    ∙ ap (λ l. qs ++ (row_product (ready l) qs y ∷ [])) (append_assoc before (x ∷ []) xs)

pub products_more : (n : ℕ) (w : List ℕ) (x : ℤ)
    → products (rows (suc n) w) x ≡ products (rows n w) x ++ (row_product (ready (rows n w)) (products (rows n w) x) (row_after w n) ∷ [])
unfolding products
products_more n w x = ap (products_from [] (x ∷ [])) (rows_more n w) ∙ products_snoc [] (x ∷ []) (rows n w) (row_after w n)
