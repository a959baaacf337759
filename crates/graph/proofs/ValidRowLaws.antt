-- A row agrees with a valid operation exactly if what the operation makes is its r and value; and the stages at which a row of a slice is refused. Assumes nothing.
use mathlib.Core.Path.{◌≡◌, refl, sym, ap, ap₂, ◌∙◌, subst⁻¹, subst₂}
use mathlib.Core.List.{List}
use mathlib.Core.Bool.{Bool, true, false, ◌&&◌, cond}
use Prim.Native.Nat.{ℕ, suc, ◌≤◌, ◌<◌}
use native.Mathlib.Omega.{arith}
use borrow.Author.Tests.{le-leb, lt-ltb, le-ltb, eq-eqb, ne_eqb}
use lib.Dec.{T, eqb, eqb→eq}
use Rattle.std.specs.Prelude.{Option, Some, None}
use Rattle.meaning.specs.declared.Made.{Made}
use Rattle.meaning.specs.declared.Row.{Row}
use Rattle.meaning.specs.Basics.{all}
use Rattle.meaning.specs.Limits.{bit_tests, limit}
use Rattle.meaning.specs.Graph.{row_after, rows, value_at, does_fit}
use Rattle.laws.proofs.Graph.Rows.{length_ready}
use Rattle.meaning.specs.Operation.{Valid, is_valid, operated, operated_under, whole}
use Rattle.laws.proofs.Lists.Tests.{both_of, of_both, true_of, false_of, T_of, bool_ext, eqb_of_eq}
use Rattle.laws.proofs.Operation.Result.{valid_of_test, test_of_valid, operated_made, operated_valid}

module _ (b u v l1 l2 s : ℕ) where
  abbrev range : Bool
  range = all (bit_tests b)

  abbrev under : Bool → Option Made
  under t = cond t (operated (limit b) u v l1 l2 s) None

  -- within the bit limit's range it is the operation
  inside : T range → operated_under b u v l1 l2 s ≡ operated (limit b) u v l1 l2 s
  unfolding operated_under
  inside t = ap under (true_of range t)

  made_inside : (m : Made) → operated_under b u v l1 l2 s ≡ Some m → T range × Valid (limit b) u v l1 l2 s m.r m.value
  unfolding operated_under
  made_inside m e = go range refl e
    where
      go : (t : Bool) → range ≡ t → under t ≡ Some m → T range × Valid (limit b) u v l1 l2 s m.r m.value
      go true q f = (T_of q, operated_valid (limit b) u v l1 l2 s m.n m.r m.value f)
      go false q f = absurd (let z : ◌≡◌ {A = ℕ} 0 1 = cc in omega arith)

  abbrev agreed : ℕ → ℕ → Bool
  agreed r c = range && is_valid (limit b) u v l1 l2 s r c

  agreed_made : (r c : ℕ) → T (agreed r c) → operated_under b u v l1 l2 s ≡ Some (record { n = whole u v l1 l2 s; r = r; value = c })
  agreed_made r c t =
      let p = both_of range (is_valid (limit b) u v l1 l2 s r c) t in
      inside p.0 ∙ operated_made (limit b) u v l1 l2 s r c (valid_of_test (limit b) u v l1 l2 s r c p.1)

  pub agrees_none : (r c : ℕ) → operated_under b u v l1 l2 s ≡ None → false ≡ agreed r c
  agrees_none r c e =
      sym (false_of (agreed r c) (λ t. let q = agreed_made r c t in let z : ◌≡◌ {A = ℕ} 0 1 = cc in omega arith))

  agrees_made : (m : Made) (r c : ℕ) → operated_under b u v l1 l2 s ≡ Some m → (eqb m.r r && eqb m.value c) ≡ agreed r c
  agrees_made m r c e = bool_ext (eqb m.r r && eqb m.value c) (agreed r c) there back
    where
      there : T (eqb m.r r && eqb m.value c) → T (agreed r c)
      there t =
          let (f, g) = both_of (eqb m.r r) (eqb m.value c) t in
          let (p, k) = made_inside m e in
          of_both range (is_valid (limit b) u v l1 l2 s r c) p
          (test_of_valid (limit b) u v l1 l2 s r c (subst₂ (Valid (limit b) u v l1 l2 s) (eqb→eq m.r r f) (eqb→eq m.value c g) k))

      same : {x y : Made} → ◌≡◌ {A = Option Made} (Some x) (Some y) → x ≡ y
      same e = cc

      back : T (agreed r c) → T (eqb m.r r && eqb m.value c)
      back t =
          let q : m ≡ record { n = whole u v l1 l2 s; r = r; value = c } = same (sym e ∙ agreed_made r c t) in
          of_both (eqb m.r r) (eqb m.value c) (eqb_of_eq m.r r (ap (λ (x : Made). x.r) q)) (eqb_of_eq m.value c (ap (λ (x : Made). x.value) q))

  -- as code meets the two tests
  pub agrees_value : (m : Made) (r c : ℕ) → operated_under b u v l1 l2 s ≡ Some m → m.r ≡ r → eqb m.value c ≡ agreed r c
  agrees_value m r c e h = rw (eq-eqb m.r r h) at (agrees_made m r c e)

  pub agrees_other : (m : Made) (r c : ℕ) → operated_under b u v l1 l2 s ≡ Some m → (m.r ≡ r → ⊥) → eqb m.r r ≡ agreed r c
  agrees_other m r c e h = ne_eqb m.r r h ∙ (rw (ne_eqb m.r r h) at (agrees_made m r c e))

-- ---- a row of a slice

module _ (b : ℕ) (w : List ℕ) (i : ℕ) where
  abbrev before : List Row
  before = rows i w

  abbrev x : Row
  x = row_after w i

  -- an index that is not below the row's own
  pub fits_first : i < x.u → false ≡ does_fit (limit b) before x
  unfolding does_fit
  fits_first h = rw (length_ready i w, le-ltb x.u (suc i) (omega arith))

  pub fits_second : x.u ≤ i → i < x.v → false ≡ does_fit (limit b) before x
  unfolding does_fit
  fits_second k h = rw (length_ready i w, lt-ltb x.u (suc i) (omega arith), le-ltb x.v (suc i) (omega arith))

  -- both are below it
  fits_inside : x.u ≤ i → x.v ≤ i → is_valid (limit b) (value_at before x.u) (value_at before x.v) x.l1 x.l2 x.s x.r x.value ≡ does_fit (limit b) before x
  unfolding does_fit
  fits_inside k l = rw (length_ready i w, lt-ltb x.u (suc i) (omega arith), lt-ltb x.v (suc i) (omega arith))

  in_range : (2 ≤ b) × (b ≤ 16) → all (bit_tests b) ≡ true
  in_range h = rw (le-leb 2 b h.0, le-leb b 16 h.1)

  -- the same from the row y and the values p and q that code has read
  pub fits_read : (y : Row) (p q : ℕ) (t : Bool) → (2 ≤ b) × (b ≤ 16) → y ≡ x → y.u ≤ i → y.v ≤ i → p ≡ value_at before y.u → q ≡ value_at before y.v
      → t ≡ (all (bit_tests b) && is_valid (limit b) p q y.l1 y.l2 y.s y.r y.value) → t ≡ does_fit (limit b) before x
  fits_read y p q t h e =
      subst⁻¹
      (λ z. z.u ≤ i → z.v ≤ i → p ≡ value_at before z.u → q ≡ value_at before z.v
      → t ≡ (all (bit_tests b) && is_valid (limit b) p q z.l1 z.l2 z.s z.r z.value) → t ≡ does_fit (limit b) before x) e
      (λ k l f g a.
      a ∙ ap (λ r. r && is_valid (limit b) p q x.l1 x.l2 x.s x.r x.value) (in_range h)
      ∙ ap₂ (λ m n. is_valid (limit b) m n x.l1 x.l2 x.s x.r x.value) f g ∙ fits_inside k l)
