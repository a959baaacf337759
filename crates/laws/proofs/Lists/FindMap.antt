-- What `find_map` over a range of numbers answers: what the first number gives for which the closure has something. Assumes nothing.
use mathlib.Core.Path.{◌≡◌, refl, sym, ap, ◌∙◌, subst}
use mathlib.Core.Bool.{true}
use Prim.Native.Nat.{ℕ, zero, suc, ◌+◌, ◌-◌, ◌<◌}
use native.Mathlib.Omega.{arith}
use denote.Param.Members.{Mut, Called}
use Rattle.std.specs.Prelude.{Option, Some, None, MatchOption, IfSome, IsSomeAnd, IsTrue}
use Rattle.std.specs.declared.ops.Range.{Range}
use Rattle.std.specs.Iterator.Runs.{Run, SomeRun, AllItemsGive, IsFirstToGive, CallKeepsClosure}
use Rattle.std.proofs.iter.Yields.{nat_range_steps}
use Rattle.std.proofs.iter.runs.Sources.{range_runs}
use Rattle.meaning.specs.Basics.{up_from, first_some}
use Rattle.laws.proofs.Lists.First.{map_from, first_none, first_some_lem}

-- ---- by the numbers

module _ {B : Type 0} (h : ℕ → Option B) where
  up_none : (k n : ℕ) → ((j : ℕ) → j < n → h (k + j) ≡ None) → first_some h (up_from k n) ≡ None
  up_none k zero miss = unfold first_some in refl
  up_none k (suc n) miss =
      first_none h k (up_from (suc k) n) (ap h (omega arith) ∙ miss 0 (omega arith))
      ∙ up_none (suc k) n (λ j l. ap h (omega arith) ∙ miss (suc j) (omega arith))

  up_first : (k n i : ℕ) (y : B) → i < n → ((j : ℕ) → j < i → h (k + j) ≡ None) → h (k + i) ≡ Some y → first_some h (up_from k n) ≡ Some y
  up_first k zero i y l miss e = absurd (omega arith)
  up_first k (suc n) zero y l miss e = first_some_lem h k (up_from (suc k) n) y (ap h (omega arith) ∙ e)
  up_first k (suc n) (suc i) y l miss e =
      first_none h k (up_from (suc k) n) (ap h (omega arith) ∙ miss 0 (omega arith))
      ∙ up_first (suc k) n i y (omega arith) (λ j m. ap h (omega arith) ∙ miss (suc j) (omega arith)) (ap h (omega arith) ∙ e)

-- ---- by the calls

-- each call answers as h does, and leaves the closure as it was
module _ {F B : Type 0} {g : Mut F (ℕ × Unit {0}) (Option B)} {f : F} (h : ℕ → Option B)
    (calls : (k : ℕ) (o : Option B) (q : F) → Called g f (k, tt) o q → (q ≡ f) × (o ≡ h k)) where
  keeps : CallKeepsClosure g f
  keeps a r q c = (calls a.0 r q c).0

  module _ (p : Run nat_range_steps) where
    abbrev a : ℕ
    a = p.from.start

    at_is : (k : ℕ) → k < p.len → p.at k ≡ Some (a + k)
    at_is k l = let (x, e, q) = map_from (p.at k) (λ y. y) (a + k) ((range_runs p p.seen).3 k l) in e ∙ ap Some q

    none_gives : p.whole ≡ true → AllItemsGive p g f None → first_some h (up_from a (p.from.end - a)) ≡ None
    none_gives w all =
        up_none h a (p.from.end - a)
        (λ j l. sym (calls (a + j) None f (subst (λ o. IfSome o (λ x. Called g f (x, tt) None f)) (at_is j (omega (arith, (range_runs p p.seen).1 w))) (all keeps j))).1)

    some_gives : (i : ℕ) (y : B) → i < p.len → IsFirstToGive p g f (Some y) None i → first_some h (up_from a (p.from.end - a)) ≡ Some y
    some_gives i y l hit =
        let (here, below) = hit keeps in
        up_first h a (p.from.end - a) i y (omega (arith, (range_runs p p.seen).0))
        (λ j m. sym (calls (a + j) None f (subst (λ o. IsSomeAnd o (λ x. Called g f (x, tt) None f)) (at_is j (omega arith)) (below j m))).1)
        (sym (calls (a + i) (Some y) f (subst (λ o. IsSomeAnd o (λ x. Called g f (x, tt) (Some y) f)) (at_is i l) here)).1)

  pub find_map_is : {s : Range ℕ} {r : Option B} (k e n : ℕ) → s ≡ record { start = k; end = e } → e - k ≡ n
      → SomeRun nat_range_steps s (λ p. MatchOption r (IsTrue p.whole × AllItemsGive p g f None) (λ y. (i : ℕ) × (i < p.len) × (p.len ≡ i + 1) × IsFirstToGive p g f (Some y) None i))
      → r ≡ first_some h (up_from k n)
  find_map_is {r = r} k e n q z (p, from, m) =
      go r m ∙ ap (λ (s : Range ℕ). first_some h (up_from s.start (s.end - s.start))) (from ∙ q) ∙ ap (λ (d : ℕ). first_some h (up_from k d)) z
    where
      go : (r : Option B) → MatchOption r (IsTrue p.whole × AllItemsGive p g f None) (λ y. (i : ℕ) × (i < p.len) × (p.len ≡ i + 1) × IsFirstToGive p g f (Some y) None i)
          → r ≡ first_some h (up_from (a p) (p.from.end - a p))
      go None m = sym (none_gives p m.0 m.1)
      go (Some y) m = sym (some_gives p m.0 y m.1 m.3)
