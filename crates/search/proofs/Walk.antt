-- The results as they come: where they end, and the next; and that all of them are what one operation on the two values gives. Assumes nothing.
use mathlib.Core.Path.{◌≡◌, refl, sym, ap, ap₂, ◌∙◌}
use mathlib.Core.Bool.{Bool, true, false, cond, ◌||◌, or-false, or_assoc}
use mathlib.Core.List.{List, [], ◌∷◌, ◌++◌, append-nil, append_assoc}
use Prim.Native.Nat.{ℕ, zero, suc, ◌+◌, ◌-◌, ◌*◌, ◌^◌, ◌≤◌, ◌<◌}
use native.Mathlib.Numerals.{add-one}
use native.Mathlib.Omega.{arith}
use borrow.Author.Tests.{le-leb, lt-leb}
use lib.Dec.{leb, leb→le}
use Rattle.meaning.specs.Basics.{difference}
use Rattle.laws.proofs.Lists.Tests.{T_of}
use Rattle.meaning.specs.Operation.{Odd}
use Rattle.search.specs.Sides.{does_hit, is_side_to}
use Rattle.search.specs.Walk.{pairs_from, is_among}
use Rattle.search.proofs.Sides.{side_stop, side_suc, any_snoc}

module _ (a v far l : ℕ) where
  pub pairs_end : (end : ℕ) → end ≤ l → pairs_from a v far l (end - l) ≡ []
  unfolding pairs_from
  pairs_end end h = let z : end - l ≡ 0 = omega arith in ap (pairs_from a v far l) z

  pub pairs_far : (n : ℕ) → far ≤ 2 ^ l * v → pairs_from a v far l n ≡ []
  unfolding pairs_from
  pairs_far zero h = refl
  pairs_far (suc n) h = rw (le-leb far (2 ^ l * v) h)

  pub pairs_next : (end : ℕ) → l < end → 2 ^ l * v < far
      → pairs_from a v far l (end - l) ≡ (a + 2 ^ l * v, difference a (2 ^ l * v)) ∷ pairs_from a v far (l + 1) (end - (l + 1))
  unfolding pairs_from
  pairs_next end h k =
      let n : end - l ≡ suc (end - (l + 1)) = omega arith in
      ap (pairs_from a v far l) n ∙ (rw (lt-leb far (2 ^ l * v) k, add-one l))

-- ---- as a loop meets them: those that came, and those to come

-- one more has come
pub came_more : {a : Type 0} (came rest next all : List a) (x : a) → came ++ rest ≡ all → rest ≡ x ∷ next → (came ++ (x ∷ [])) ++ next ≡ all
came_more came rest next all x e f = append_assoc came (x ∷ []) next ∙ ap (λ l. came ++ l) (sym f) ∙ e

-- none is to come
pub came_all : {a : Type 0} (came rest all : List a) → came ++ rest ≡ all → rest ≡ [] → came ≡ all
came_all came rest all e f = sym (append-nil came) ∙ ap (λ l. came ++ l) (sym f) ∙ e

pub among_suc : (L : ℕ) (ps : List (ℕ × ℕ)) (x y c : ℕ) → ((is_among L ps c || does_hit L x c) || does_hit L y c) ≡ is_among L (ps ++ ((x, y) ∷ [])) c
unfolding is_among
among_suc L ps x y c = or_assoc (is_among L ps c) (does_hit L x c) (does_hit L y c) ∙ sym (any_snoc (λ p. does_hit L p.0 c || does_hit L p.1 c) ps (x, y))

-- ---- all of them

-- with what earlier shifts gave, the pairs to come are what all shifts give
side_from : (L u v l n c : ℕ) → Odd L u → Odd L v → l + n ≡ L + 1
    → (is_side_to L u v l c || is_among L (pairs_from u v (u + 2 ^ L) l n) c) ≡ is_side_to L u v (L + 1) c
unfolding pairs_from is_among
side_from L u v l zero c o p e = or-false (is_side_to L u v l c) ∙ ap (λ (k : ℕ). is_side_to L u v k c) (let q : l ≡ L + 1 = omega (arith, e) in q)
side_from L u v l (suc n) c o p e = go (leb (u + 2 ^ L) (2 ^ l * v)) refl (side_from L u v (suc l) n c o p (omega (arith, e)))
  where
    rest : Bool
    rest = is_among L (pairs_from u v (u + 2 ^ L) (suc l) n) c

    both : Bool
    both = does_hit L (u + 2 ^ l * v) c || does_hit L (difference u (2 ^ l * v)) c

    go : (b : Bool) → leb (u + 2 ^ L) (2 ^ l * v) ≡ b → (is_side_to L u v (suc l) c || rest) ≡ is_side_to L u v (L + 1) c
        → (is_side_to L u v l c || is_among L (cond b [] ((u + 2 ^ l * v, difference u (2 ^ l * v)) ∷ pairs_from u v (u + 2 ^ L) (suc l) n)) c) ≡ is_side_to L u v (L + 1) c
    go true q ih =
        or-false (is_side_to L u v l c)
        ∙ side_stop L u v l c o.0 p.1 (omega (arith, e)) (leb→le (u + 2 ^ L) (2 ^ l * v) (T_of q))
    go false q ih =
        let s = is_side_to L u v l c in
        let w = 2 ^ l * v in
        sym (or_assoc s both rest)
        ∙ ap (λ (b : Bool). b || rest)
        (sym (or_assoc s (does_hit L (u + w) c) (does_hit L (difference u w) c))
        ∙ ap₂ (λ (m k : ℕ). (s || does_hit L m c) || does_hit L k c) (omega arith) (ap (λ (x : ℕ). difference x w) (let z : u ≡ 2 ^ 0 * u = omega arith in z))
        ∙ side_suc L u v l c
        ∙ ap (λ (k : ℕ). is_side_to L u v k c) (add-one l))
        ∙ ih

pub side_is : (L u v c : ℕ) → Odd L u → Odd L v → is_among L (pairs_from u v (u + 2 ^ L) 0 (L + 1)) c ≡ is_side_to L u v (L + 1) c
unfolding is_side_to
side_is L u v c o p = unfold is_side_to in side_from L u v 0 (L + 1) c o p (omega arith)
