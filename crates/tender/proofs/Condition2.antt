-- Condition 2 holds. Assumes nothing.
use mathlib.Core.Path.{◌≡◌, refl, sym, ap, ap₂, ◌∙◌, subst, subst₂}
use mathlib.Core.Bool.{Bool, true, false, cond}
use mathlib.Core.List.{List, [], ◌∷◌, ◌++◌, map, map-append, Memᴰ, Permᴰ}
use mathlib.Core.Logic.{◌⊎◌, inl, inr, ⊎_elim, ◌↔◌}
use Prim.Native.Nat.{ℕ, zero, suc, ◌+◌, ◌-◌, ◌*◌, ◌%◌, ◌^◌, ◌≤◌, ◌<◌}
use native.Mathlib.Omega.{arith}
use lib.Dec.{T, eqb, leb, leb→le, le→leb}
use lib.IntN.{ℤ, pos, negsuc, nat_abs, ◌*ℤ◌, *ℤ_comm}
use lib.ListN.{length, get_or, drop, length-append, length-map, length-drop, get_or-append}
use lib.Seq.{drop-append_seam, get_or-append-add}
use Rattle.meaning.specs.declared.Refusal.TheVariants as no
use Rattle.meaning.specs.declared.Row.{Row}
use Rattle.std.specs.Prelude.{Option, Some, None}
use Rattle.meaning.specs.declared.Made.{Made}
use Rattle.meaning.specs.Basics.{all, has, up_from, over}
use Rattle.meaning.specs.Limits.{bit_tests, limit}
use Rattle.meaning.specs.Operation.{whole, operated, operated_under}
use Rattle.meaning.specs.Constants.{sign_of, odd_of}
use Rattle.meaning.specs.Graph.{row_after, rows, values, is_served}
use Rattle.meaning.specs.Products.{products, target_products}
use Rattle.meaning.specs.Widths.{extra_bits, Fewest, row_width, output_width, widths, ranking, InOrder}
use Rattle.meaning.specs.Refusals.{Answer, Accepted, check_order, sized_order, products_order, widths_order, checked, sized, multiplied, products_written, measured, widths_written, ranking_written, given}
use Rattle.meaning.specs.Calls.{Admits, Checks, Operates, Multiplies, Measures, Ranks}
use Rattle.laws.proofs.Lists.Tests.{up_in, all_of, of_all, T_of, true_of, either_of, of_left, of_right, in_every}
use Rattle.laws.proofs.Lists.First.{up_more}
use Rattle.laws.proofs.Lists.Permutations.{perm_in}
use Rattle.laws.proofs.Lists.Has.{in_has, has_in}
use Rattle.laws.proofs.Lists.Index.{get_or_in, at_map}
use Rattle.laws.proofs.Whole.Integers.{mul_assocℤ}
use Rattle.laws.proofs.Operation.Result.{operated_made, operated_valid}
use Rattle.laws.proofs.Graph.Rows.{length_rows, length_values, rows_more, row_of, value_is, sound_odd}
use Rattle.laws.proofs.Refusals.Stages.{first_accepts, all_accept, need_accepts}
use Rattle.laws.proofs.Refusals.Checked.{GoodWidth, admitted_of, good_of, of_good, sized_of}
use Rattle.laws.proofs.Products.{target_products_lem}
use Rattle.laws.proofs.Widths.Fewest.{row_fewest, shifted_fewest, output_fewest}
use Rattle.laws.proofs.Widths.Ranking.{ranking_permutes, ranking_ordered}
use Rattle.tender.specs.Words.{row_in, EveryRowValid, EveryConstantMade, whole_of, AOperation, Worked, FitsBits, FewestBits, WidestFirst, Written}
use Rattle.tender.specs.Condition2.{Condition2}
use Rattle.tender.proofs.Rows.{operation_of, valid_of, rows_of, of_rows}
use Rattle.tender.proofs.Worked.{product_of, worked}

-- ---- the constants

module _ (xs : List Row) (t : ℤ) where
  made_of : T (is_served (values xs) t) → (odd_of t ≤ 1) ⊎ Memᴰ (odd_of t) (values xs)
  unfolding is_served
  made_of s = ⊎_elim (λ a. inl (leb→le (odd_of t) 1 a)) (λ a. inr (has_in (values xs) (odd_of t) a)) (either_of (leb (odd_of t) 1) (has (values xs) (odd_of t)) s)

  of_made : (odd_of t ≤ 1) ⊎ Memᴰ (odd_of t) (values xs) → T (is_served (values xs) t)
  unfolding is_served
  of_made (inl h) = of_left (leb (odd_of t) 1) (has (values xs) (odd_of t)) (le→leb (odd_of t) 1 h)
  of_made (inr i) = of_right (leb (odd_of t) 1) (has (values xs) (odd_of t)) (in_has i)

-- ---- acceptance

exactly : (b : ℕ) (ts : List ℤ) (n : ℕ) (w : List ℕ) (r : Answer) → Checks b ts n w r → Admits b ts Accepted → n ≤ 128 → 7 * n ≤ length w
    → (r ≡ Accepted) ↔ (EveryRowValid b (rows n w) × EveryConstantMade (rows n w) ts)
exactly b ts n w r d a m l = (there, back)
  where
    there : r ≡ Accepted → EveryRowValid b (rows n w) × EveryConstantMade (rows n w) ts
    there e = let g = good_of b ts n w (sym d ∙ e) in (rows_of b (rows n w) g.sound, λ t i. made_of (rows n w) t (g.serves t i))

    back : EveryRowValid b (rows n w) × EveryConstantMade (rows n w) ts → r ≡ Accepted
    back p =
        d
        ∙ of_good b ts n w
        (record {
          admits = admitted_of b ts (sym a);
          room = (m, l);
          sound = of_rows b (rows n w) p.0;
          serves = λ t i. of_made (rows n w) t (p.1 t i);
        })

rows_are : (n : ℕ) (w : List ℕ) → rows n w ≡ map (row_in w) (up_from 0 n)
rows_are zero w = unfold rows in refl
rows_are (suc n) w =
    rows_more n w ∙ ap (λ l. l ++ (row_after w n ∷ [])) (rows_are n w)
    ∙ sym (map-append (row_in w) (up_from 0 n) (n ∷ []))
    ∙ ap (λ k. map (row_in w) (up_from 0 n ++ (k ∷ []))) (let e : n ≡ 0 + n = omega arith in e) ∙ ap (map (row_in w)) (up_more 0 n)

-- ---- the operation

whole_is : (u v l1 l2 s : ℕ) → whole_of u v l1 l2 s ≡ whole u v l1 l2 s
whole_is u v l1 l2 zero = refl
whole_is u v l1 l2 (suc s) = refl

some_same : {A : Type 0} (x y : A) → Some x ≡ Some y → x ≡ y
some_same x y e = cc

abbrev made : ℤ → ℕ → ℕ → Option Made
made n r c = Some (record { n = n; r = r; value = c })

operation : (b u v l1 l2 s : ℕ) (a : Option Made) → Operates b u v l1 l2 s a → (n : ℤ) (r c : ℕ)
    → (a ≡ Some (record { n = n; r = r; value = c })) ↔ ((2 ≤ b) × (b ≤ 16) × (n ≡ whole_of u v l1 l2 s) × AOperation b u v l1 l2 s r c)
unfolding operated_under
operation b u v l1 l2 s a d n r c = (λ e. there (all (bit_tests b)) refl (sym d ∙ e), λ p. d ∙ back p)
  where
    there : (t : Bool) → all (bit_tests b) ≡ t → cond t (operated (limit b) u v l1 l2 s) None ≡ made n r c
        → (2 ≤ b) × (b ≤ 16) × (n ≡ whole_of u v l1 l2 s) × AOperation b u v l1 l2 s r c
    there true t e =
        let k = operated_valid (limit b) u v l1 l2 s n r c e in
        let p = all_of (bit_tests b) (T_of t) in
        let same : ◌≡◌ {A = Made} (record { n = n; r = r; value = c }) (record { n = whole u v l1 l2 s; r = r; value = c }) = some_same _ _ (sym e ∙ operated_made (limit b) u v l1 l2 s r c k) in
        let m = ap (λ (x : Made). x.n) same in
        (leb→le _ _ p.0, leb→le _ _ p.1.0, m ∙ sym (whole_is u v l1 l2 s), operation_of b u v l1 l2 s r c k)
    there false t e = absurd (let z : ◌≡◌ {A = ℕ} 0 1 = cc in omega arith)

    back : (2 ≤ b) × (b ≤ 16) × (n ≡ whole_of u v l1 l2 s) × AOperation b u v l1 l2 s r c → cond (all (bit_tests b)) (operated (limit b) u v l1 l2 s) None ≡ made n r c
    back p =
        rw (true_of (all (bit_tests b)) (of_all (bit_tests b) (le→leb _ _ p.0, (le→leb _ _ p.1, tt))))
        (operated_made (limit b) u v l1 l2 s r c (valid_of b u v l1 l2 s r c p.3) ∙ ap (λ m. made m r c) (sym (p.2 ∙ whole_is u v l1 l2 s)))

-- ---- products

-- acceptance with a buffer is acceptance by the stages before it
multiplied_checked : (b : ℕ) (ts : List ℤ) (n : ℕ) (w : List ℕ) (room : ℕ) → multiplied b ts n w room ≡ Accepted → checked b ts n w ≡ Accepted
unfolding multiplied checked
multiplied_checked b ts n w room e =
    let (s1, (s2, (s3, (s5, (s6, (s7, _)))))) = first_accepts (products_order b ts n w room) e in
    all_accept (check_order b ts n w) (s1, (s2, (s3, (s5, (s6, (s7, tt))))))

gives : (b : ℕ) (ts : List ℤ) (n : ℕ) (w : List ℕ) (x : ℤ) (before after : List ℤ) → Multiplies b ts n w x Accepted before after
    → Written (map (λ t. t *ℤ x) ts) before after
unfolding products_written over
gives b ts n w x before after d =
    let e = sym d.answers in
    let g = good_of b ts n w (multiplied_checked b ts n w (length before) e) in
    d.writes
    ∙ ap (λ l. l ++ drop (length l) before)
    (ap (λ a. given a (target_products (rows n w) x ts)) e
    ∙ target_products_lem (limit b) (rows n w) x ts g.sound (in_every (is_served (values (rows n w))) ts g.serves))

works : (b : ℕ) (ts : List ℤ) (n : ℕ) (w : List ℕ) (x : ℤ) → Checks b ts n w Accepted → Worked (rows n w) x (products (rows n w) x)
works b ts n w x d = worked b (rows n w) x (good_of b ts n w (sym d)).sound

-- ---- lists

-- what stands behind a list of n
behind : (xs ys : List ℕ) (n k : ℕ) → length xs ≡ n → get_or (xs ++ ys) (n + k) 0 ≡ get_or ys k 0
behind xs ys n k e = ap (λ m. get_or (xs ++ ys) (m + k) 0) (sym e) ∙ get_or-append-add xs ys k 0

-- what is written from the front of a slice with room for it
pub front_kept : (new before after : List ℕ) (n : ℕ) → length new ≡ n → n ≤ length before → Written new before after
    → (length after ≡ length before) × (drop n after ≡ drop n before)
front_kept new before after n e h q = (
  ap length q ∙ length-append new (drop (length new) before) ∙ ap (λ k. length new + k) (length-drop (length new) before) ∙ omega arith,
  ap (drop n) q ∙ ap (λ k. drop k (new ++ drop (length new) before)) (sym e) ∙ drop-append_seam new (drop (length new) before) ∙ ap (λ k. drop k before) e,
)

-- an order by other widths that are the same on its members
pub in_order_by : (f g : ℕ → ℕ) (order : List ℕ) → ((k : ℕ) → Memᴰ k order → f k ≡ g k) → InOrder f order → WidestFirst g order
unfolding InOrder
in_order_by f g [] same o = tt
in_order_by f g (i ∷ is) same o = (
  λ j m.
      let p = same i (Memᴰ.head refl) in
      let q = same j (Memᴰ.tail m) in
      ⊎_elim (λ h. inl (omega arith)) (λ h. inr (omega (arith, h.0), h.1)) (o.0 j m),
  in_order_by f g is (λ k m. same k (Memᴰ.tail m)) o.1,
)

-- ---- widths

-- what is the fewest bits for c × x is so for a result that is c × x
fewest_for : (w : ℕ) (c : ℤ) (result : ℤ → ℤ) (k j : ℕ) → ((x : ℤ) → result x ≡ c *ℤ x) → j ≡ k → 1 ≤ k → Fewest w c k → FewestBits w result j
fewest_for w c result k j same e o f =
    record {
      some = omega arith;
      holds = λ x h. subst₂ FitsBits (sym e) (sym (same x)) (f.holds x h);
      least = λ i p q. let (x, h, n) = f.least i p (omega arith) in (x, h, λ g. n (subst (FitsBits i) (same x) g));
    }

output_some : (w : ℕ) (t : ℤ) → 2 ≤ w → 1 ≤ output_width w t
output_some w t h = go (eqb (nat_abs t) 0)
  where
    go : (b : Bool) → 1 ≤ cond b 1 (w + extra_bits (nat_abs t))
    go true = omega arith
    go false = omega arith

module _ (b : ℕ) (ts : List ℤ) (n : ℕ) (w : List ℕ) (input : ℕ) (before after : List ℕ) (d : Measures b ts n w input Accepted before after) where
  abbrev vals : List ℕ
  vals = values (rows n w)

  abbrev ws : List ℕ
  ws = map (row_width input) vals

  good : GoodWidth b ts n w input
  unfolding measured sized
  good =
      let (s1, (s2, (s3, (s5, (s6, (s7, (s9, _))))))) = first_accepts (widths_order b ts n w input (length before)) (sym d.answers) in
      sized_of b ts n w input (all_accept (sized_order b ts n w input) (s1, (s2, (s3, (s5, (s6, (s7, (s9, tt))))))))

  room : n + length ts ≤ length before
  unfolding measured
  room =
      let (s1, (s2, (s3, (s5, (s6, (s7, (s9, (s4, _)))))))) = first_accepts (widths_order b ts n w input (length before)) (sym d.answers) in
      leb→le _ _ (need_accepts no.Buffer (leb (n + length ts) (length before) ∷ []) s4).0

  pub written : Written (ws ++ map (output_width input) ts) before after
  unfolding widths_written widths over
  written = d.writes ∙ ap (λ a. given a (widths input vals ts) ++ drop (length (given a (widths input vals ts))) before) (sym d.answers)

  row_count_lem : length ws ≡ n
  row_count_lem = length-map vals (row_width input) ∙ length_values (rows n w) ∙ length_rows n w

  both_count : length (ws ++ map (output_width input) ts) ≡ n + length ts
  both_count = length-append ws (map (output_width input) ts) ∙ ap₂ ◌+◌ row_count_lem (length-map ts (output_width input))

  row_word : (k : ℕ) → k < n → get_or after k 0 ≡ row_width input (row_in w k).value
  row_word k h =
      ap (λ l. get_or l k 0) written
      ∙ get_or-append (ws ++ map (output_width input) ts) _ 0 k (omega (arith, both_count))
      ∙ get_or-append ws (map (output_width input) ts) 0 k (omega (arith, row_count_lem))
      ∙ at_map (row_width input) vals k 0 0 (omega (arith, length_values (rows n w), length_rows n w))
      ∙ ap (row_width input) (value_is n w k h)

  output_word : (k : ℕ) → k < length ts → get_or after (n + k) 0 ≡ output_width input (get_or ts k (pos 0))
  output_word k h =
      ap (λ l. get_or l (n + k) 0) written
      ∙ get_or-append (ws ++ map (output_width input) ts) _ 0 (n + k) (omega (arith, both_count))
      ∙ behind ws (map (output_width input) ts) n k row_count_lem
      ∙ at_map (output_width input) ts k (pos 0) 0 h

  -- a row's value is at least 1
  value_some : (k : ℕ) → k < n → 1 ≤ (row_in w k).value
  value_some k h =
      positive (row_in w k).value
      (sound_odd (limit b) [] (rows n w) good.good.sound (row_in w k) (subst (λ y. Memᴰ y (rows n w)) (row_of n w k (row_in w 0) h) (get_or_in (rows n w) k (row_in w 0) (omega (arith, length_rows n w))))).0
    where
      positive : (v : ℕ) → v % 2 ≡ 1 → 1 ≤ v
      positive v o = omega arith

  product : (k : ℕ) → k < n → (x : ℤ) → get_or (products (rows n w) x) (suc k) (pos 0) ≡ pos (row_in w k).value *ℤ x
  product k h x = product_of b (rows n w) x good.good.sound (suc k) ∙ ap (λ v. pos v *ℤ x) (value_is n w k h)

  pub row_widths : (k : ℕ) → k < n → FewestBits input (λ x. get_or (products (rows n w) x) (suc k) (pos 0)) (get_or after k 0)
  row_widths k h =
      fewest_for input (pos (row_in w k).value) _ _ _ (product k h) (row_word k h) (omega (arith, good.width.0)) (row_fewest input (row_in w k).value good.width.0 (value_some k h))

  pub wide_widths : (k : ℕ) → k < n
      → FewestBits input (λ x. pos (2 ^ (row_in w k).r) *ℤ get_or (products (rows n w) x) (suc k) (pos 0)) (get_or after k 0 + (row_in w k).r)
  wide_widths k h =
      let v = (row_in w k).value in
      let r = (row_in w k).r in
      fewest_for input (pos (v * 2 ^ r)) _ _ _
      (λ x. ap (λ z. pos (2 ^ r) *ℤ z) (product k h x) ∙ sym (mul_assocℤ (pos (2 ^ r)) (pos v) x) ∙ ap (λ z. z *ℤ x) (*ℤ_comm (pos (2 ^ r)) (pos v)))
      (ap (λ z. z + r) (row_word k h)) (omega (arith, good.width.0)) (shifted_fewest input v r good.width.0 (value_some k h))

  pub output_rule : (k : ℕ) → k < length ts → FewestBits input (λ x. pos (nat_abs (get_or ts k (pos 0))) *ℤ x) (get_or after (n + k) 0)
  output_rule k h =
      let t = get_or ts k (pos 0) in
      fewest_for input (pos (nat_abs t)) _ _ _ (λ x. refl) (output_word k h) (output_some input t good.width.0) (output_fewest input (pos (nat_abs t)) good.width.0 (λ e. absurd (not_below (nat_abs t) e)))
    where
      not_below : (m : ℕ) → ¬ (sign_of (pos m) ≡ negsuc 0)
      not_below zero e = let z : ◌≡◌ {A = ℕ} 0 1 = cc in omega arith
      not_below (suc m) e = let z : ◌≡◌ {A = ℕ} 0 1 = cc in omega arith

  pub output_widths : (k : ℕ) → k < length ts → (sign_of (get_or ts k (pos 0)) ≡ negsuc 0 → ¬ (odd_of (get_or ts k (pos 0)) ≡ 1))
      → FewestBits input (λ x. get_or ts k (pos 0) *ℤ x) (get_or after (n + k) 0)
  output_widths k h q = fewest_for input (get_or ts k (pos 0)) _ _ _ (λ x. refl) (output_word k h) (output_some input (get_or ts k (pos 0)) good.width.0) (output_fewest input (get_or ts k (pos 0)) good.width.0 q)

  pub widths_kept : (length after ≡ length before) × (drop (n + length ts) after ≡ drop (n + length ts) before)
  widths_kept = front_kept (ws ++ map (output_width input) ts) before after (n + length ts) both_count room written

-- ---- the ranking

ranking_told : (b : ℕ) (ts : List ℤ) (n : ℕ) (w : List ℕ) (input : ℕ) (before after old widths : List ℕ) → Ranks b ts n w input Accepted before after
    → Measures b ts n w input Accepted old widths
    → (order : List ℕ) × Written order before after × Permᴰ order (up_from 1 n) × WidestFirst (λ k. get_or widths (k - 1) 0) order
unfolding ranking_written over
ranking_told b ts n w input before after old widths d m =
    let vals = values (rows n w) in
    let order = ranking input vals in
    let perm = subst (λ k. Permᴰ order (up_from 1 k)) (length_values (rows n w) ∙ length_rows n w) (ranking_permutes input vals) in (
      order,
      d.writes ∙ ap (λ a. given a order ++ drop (length (given a order)) before) (sym d.answers),
      perm,
      in_order_by _ _ order (λ k i. same k (up_in 1 n k (perm_in perm k i))) (ranking_ordered input vals),
    )
  where
    same : (k : ℕ) → (1 ≤ k) × (k < 1 + n) → get_or (map (row_width input) (values (rows n w))) (k - 1) 0 ≡ get_or widths (k - 1) 0
    same k h = at_map (row_width input) (values (rows n w)) (k - 1) 0 0 (omega (arith, length_values (rows n w), length_rows n w, h.0, h.1))
        ∙ ap (row_width input) (value_is n w (k - 1) (omega (arith, h.0, h.1)))
        ∙ sym (row_word b ts n w input old widths m (k - 1) (omega (arith, h.0, h.1)))

pub condition2 : Condition2
condition2 =
    record {
      accepted_exactly = exactly;
      rows_are = rows_are;
      operation = operation;
      gives_products = gives;
      works_products = works;
      row_widths = row_widths;
      wide_widths = wide_widths;
      output_rule = output_rule;
      output_widths = output_widths;
      widths_kept = widths_kept;
      ranking = ranking_told;
    }
