-- The least value so far: how looking at more values composes, and what each step of the code looks at. Assumes nothing.
use mathlib.Core.Path.{◌≡◌, refl, sym, ap, ap₂, ◌∙◌, subst, subst⁻¹}
use mathlib.Core.Bool.{Bool, ◌||◌, or_assoc}
use mathlib.Core.List.{List, [], ◌∷◌, ◌++◌}
use mathlib.Core.Logic.{⊎_elim}
use Prim.Native.Nat.{ℕ, zero, suc, ◌+◌, ◌-◌, ◌*◌, ◌/◌, ◌%◌, ◌^◌, ◌≤◌, ◌<◌}
use native.Mathlib.Decide.{dec_le}
use native.Mathlib.Omega.{arith}
use native.Mathlib.Numerals.{add-one}
use native.Mathlib.Nat.{mul_assoc, div-add-mod', mul-div_cancel, mul-mod_left}
use lib.Dec.{T, eqb, eqb→eq}
use lib.ListN.{length, get_or, take}
use lib.Pow.{pow_mono}
use Rattle.meaning.specs.Basics.{zeros}
use Rattle.meaning.specs.Operation.{Odd}
use Rattle.meaning.specs.Distance.{is_one_op}
use Rattle.laws.proofs.Lists.Tests.{bool_ext, eqb_of_eq, either_of, of_left, of_right}
use Rattle.search.specs.Sides.{does_hit, is_side_to, is_with, is_factor, is_twice}
use Rattle.search.specs.Walk.{pairs_from, is_among}
use Rattle.search.proofs.Sides.{any_up, hit_outcome, outcome_hit, with_suc}
use Rattle.search.proofs.Walk.{among_suc, side_is}
use Rattle.search.specs.Least.{Seen, Lowers}

-- ---- lowering

seen_as : {map : List ℕ} {low s : ℕ} {P Q : ℕ → Bool} → Seen map low P s → (T (P s) → T (Q s)) → Seen map low Q s
seen_as p f = record { odd = p.odd; from = p.from; has = p.has; test = f p.test }

-- nothing is found
pub lowers_none : {map : List ℕ} {low a : ℕ} {Q : ℕ → Bool} → ((s : ℕ) → s < a → Seen map low Q s → ⊥) → Lowers map low Q a a
lowers_none h = record { least = omega arith; found = λ l. absurd (omega arith); none_below = h }

-- tests that agree below what is there
pub lowers_same : {map : List ℕ} {low a b : ℕ} {P Q : ℕ → Bool} → Lowers map low P a b → ((s : ℕ) → s < a → P s ≡ Q s) → Lowers map low Q a b
lowers_same x e =
    record {
      least = x.least;
      found = λ h. seen_as (x.found h) (subst T (e _ h));
      none_below = λ s h p. x.none_below s h (seen_as p (subst⁻¹ T (e s (omega (arith, x.least)))));
    }

-- one after the other
pub lowers_then : {map : List ℕ} {low a b c : ℕ} {P Q R : ℕ → Bool} → Lowers map low P a b → Lowers map low Q b c
    → ((s : ℕ) → (P s || Q s) ≡ R s) → Lowers map low R a c
lowers_then {map} {low} {a} {b} {c} {P} {Q} {R} x y e =
    record {
      least = omega (arith, x.least, y.least);
      found = λ h. go h (dec_le b c);
      none_below = λ s h p.
          ⊎_elim
          (λ t. x.none_below s (omega (arith, y.least)) (seen_as p (λ _. t)))
          (λ t. y.none_below s h (seen_as p (λ _. t)))
          (either_of (P s) (Q s) (subst⁻¹ T (e s) p.test));
    }
  where
    go : c < a → Dec (b ≤ c) → Seen map low R c
    go h (yes q) =
        let k : b ≡ c = omega (arith, y.least) in
        subst (Seen map low R) k (seen_as (x.found (omega arith)) (λ t. subst T (e b) (of_left (P b) (Q b) t)))
    go h (no q) = seen_as (y.found (omega arith)) (λ t. subst T (e c) (of_right (P c) (Q c) t))

-- ---- n without its trailing zeros

module _ (L : ℕ) (map : List ℕ) (low n : ℕ) {best : ℕ} where
  pub look_none : n ≡ 0 → Lowers map low (λ s. does_hit L n s) best best
  look_none e = lowers_none (λ s l p. let h = (hit_outcome L n s p.test).nonzero in omega arith)

  pub look_one : (m : ℕ) {new : ℕ} → m ≡ n / 2 ^ zeros n → 0 < n → best ≤ 2 ^ L → Lowers map low (λ s. eqb s m) best new
      → Lowers map low (λ s. does_hit L n s) best new
  look_one m e p b x =
      lowers_same x (λ s h.
      bool_ext (eqb s m) (does_hit L n s)
      (λ t. outcome_hit L n (zeros n) s (record { nonzero = p; shift = refl; value = eqb→eq s m t ∙ e; below = omega arith }))
      (λ t. eqb_of_eq s m ((hit_outcome L n s t).value ∙ sym e)))

-- ---- the sides

module _ (L : ℕ) (map : List ℕ) (low : ℕ) where
  pub among_start : (best : ℕ) → Lowers map low (λ s. is_among L [] s) best best
  unfolding is_among
  among_start best = lowers_none (λ s l p. p.test)

  pub among_more : (ps : List (ℕ × ℕ)) (x y : ℕ) {a b c d : ℕ} → Lowers map low (λ s. is_among L ps s) a b
      → Lowers map low (λ s. does_hit L x s) b c → Lowers map low (λ s. does_hit L y s) c d → Lowers map low (λ s. is_among L (ps ++ ((x, y) ∷ [])) s) a d
  among_more ps x y p q r = lowers_then (lowers_then p q (λ s. refl)) r (λ s. among_suc L ps x y s)

  pub among_all : (u v : ℕ) (ps : List (ℕ × ℕ)) {a b : ℕ} → Odd L u → Odd L v → ps ≡ pairs_from u v (u + 2 ^ L) 0 (L + 1)
      → Lowers map low (λ s. is_among L ps s) a b → Lowers map low (λ s. is_side_to L u v (L + 1) s) a b
  among_all u v ps o p e x = lowers_same x (λ s h. ap (λ qs. is_among L qs s) e ∙ side_is L u v s o p)

-- ---- each value of a list

module _ (L c : ℕ) (xs map : List ℕ) (low : ℕ) where
  pub with_start : (best : ℕ) → Lowers map low (λ s. is_with L c (take 0 xs) s) best best
  unfolding is_with
  with_start best = lowers_none (λ s l p. p.test)

  pub with_more : (i : ℕ) {x y z : ℕ} → i < length xs → Lowers map low (λ s. is_with L c (take i xs) s) x y
      → Lowers map low (λ s. is_one_op L c (get_or xs i 0) s) y z → Lowers map low (λ s. is_with L c (take (i + 1) xs) s) x z
  with_more i h p q = lowers_then p q (λ s. with_suc L c xs i s h)

-- ---- values taken twice

odd_factor : (q f : ℕ) → q * f % 2 ≡ 1 → q % 2 ≡ 1
odd_factor q f o = go (q % 2) refl
  where
    go : (d : ℕ) → q % 2 ≡ d → q % 2 ≡ 1
    go zero e =
        let h : q ≡ 2 * (q / 2) = omega arith in
        let p : q * f ≡ 2 * (q / 2 * f) = ap (λ (x : ℕ). x * f) h ∙ mul_assoc 2 (q / 2) f in
        absurd (omega arith)
    go (suc d) e = omega arith

module _ (c f : ℕ) (p : 0 < f) where
  whole : c % f ≡ 0 → c / f * f ≡ c
  whole z = omega (arith, div-add-mod' c f)

  pub factor_odd : c % 2 ≡ 1 → c % f ≡ 0 → c / f % 2 ≡ 1
  factor_odd o z = odd_factor (c / f) f (rw (whole z) o)

  module _ (map : List ℕ) (low : ℕ) {best : ℕ} where
    pub factor_none : (c % f ≡ 0 → ⊥) → Lowers map low (λ s. eqb (s * f) c) best best
    factor_none n =
        lowers_none (λ s l q. n (ap (λ (x : ℕ). x % f) (sym (eqb→eq (s * f) c q.test)) ∙ mul-mod_left s f))

    pub factor_one : {new : ℕ} → c % f ≡ 0 → Lowers map low (λ s. eqb s (c / f)) best new → Lowers map low (λ s. eqb (s * f) c) best new
    factor_one z x =
        lowers_same x (λ s l.
        bool_ext (eqb s (c / f)) (eqb (s * f) c)
        (λ t. eqb_of_eq _ _ (ap (λ (k : ℕ). k * f) (eqb→eq s (c / f) t) ∙ whole z))
        (λ t. eqb_of_eq _ _ (sym (mul-div_cancel s p) ∙ ap (λ (k : ℕ). k / f) (eqb→eq (s * f) c t))))

twice_suc : (c l s x y : ℕ) → x ≡ 2 ^ (l + 1) - 1 → y ≡ 2 ^ (l + 1) + 1 → ((is_twice l c s || eqb (s * x) c) || eqb (s * y) c) ≡ is_twice (l + 1) c s
unfolding is_twice is_factor
twice_suc c l s x y e f =
    let g : l + 1 ≡ 1 + l = omega arith in
    or_assoc (is_twice l c s) (eqb (s * x) c) (eqb (s * y) c)
    ∙ ap₂ (λ (m n : ℕ). is_twice l c s || (eqb (s * m) c || eqb (s * n) c)) e f
    ∙ ap (λ (n : ℕ). is_twice l c s || is_factor c n s) g
    ∙ sym (any_up (λ n. is_factor c n s) 1 l)
    ∙ ap (λ (n : ℕ). is_twice n c s) (sym (add-one l))

module _ (c : ℕ) (map : List ℕ) (low : ℕ) where
  pub twice_start : (best : ℕ) → Lowers map low (λ s. is_twice 0 c s) best best
  unfolding is_twice
  twice_start best = lowers_none (λ s l p. p.test)

  pub twice_more : (l : ℕ) {a b d e : ℕ} (x y : ℕ) → x ≡ 2 ^ (l + 1) - 1 → y ≡ 2 ^ (l + 1) + 1
      → Lowers map low (λ s. is_twice l c s) a b → Lowers map low (λ s. eqb (s * x) c) b d → Lowers map low (λ s. eqb (s * y) c) d e
      → Lowers map low (λ s. is_twice (l + 1) c s) a e
  twice_more l x y g h p q r = lowers_then (lowers_then p q (λ s. refl)) r (λ s. twice_suc c l s x y g h)

pub power_two : (l : ℕ) → 2 ≤ 2 ^ (l + 1)
power_two l = pow_mono {i = 1} {j = l + 1} (omega arith)
