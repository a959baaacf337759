-- Distance as statements: what each answer says, both ways; only the list's members count, so that repeats change nothing; and what a call that is
-- not refused was asked. Assumes nothing.
use mathlib.Core.Path.{◌≡◌, refl, ap, ◌∙◌}
use Rattle.std.specs.Prelude.{Ok, Err}
use mathlib.Core.Bool.{Bool, true, false, ◌&&◌, cond}
use mathlib.Core.List.Memᴰ
use mathlib.Core.List.{List, [], ◌∷◌, Memᴰ}
use mathlib.Core.Logic.{⊎_elim, ◌↔◌}
use Prim.Native.Nat.{ℕ, ◌%◌, ◌^◌, ◌≤◌}
use native.Mathlib.Omega.{arith}
use native.Mathlib.Decide.{ℕ_discrete}
use lib.Dec.{T, ltb, eqb, leb→le, ltb→lt, eqb→eq}
use lib.ListN.{length}
use Rattle.meaning.specs.declared.Far.{Far}
use Rattle.meaning.specs.declared.Far.TheVariants.{Zero, One, Two, Beyond}
use Rattle.meaning.specs.declared.Refusal.{Refusal}
use Rattle.meaning.specs.declared.Refusal.TheVariants as no
use Rattle.meaning.specs.Basics.{any, has}
use Rattle.meaning.specs.Distance.{does_reach, does_serve, candidates, distance, Reached, ReachedTwice}
use Rattle.meaning.specs.Limits.{between, bit_tests, limit, most_ready}
use Rattle.meaning.specs.Refusals.{Accepted, first_of, distance_order, told, distance_told}
use Rattle.laws.proofs.Lists.Tests.{both_of, of_both, any_in, in_any, true_of, bool_ext}
use Rattle.laws.proofs.Refusals.Stages.{first_accepts, need_accepts}
use Rattle.laws.proofs.Refusals.Members.{each_accepts, pass_in}
use Rattle.meaning.specs.Operation.{Odd}
use Rattle.laws.proofs.Lists.Has.{in_has, has_in, Among}
use Rattle.laws.proofs.Distance.Reach.{in_candidates, reach_is, reached_odd, reached_within, reach_same}

-- ---- the test for two operations

pub serves_is : (L : ℕ) (vals : List ℕ) (c s : ℕ) → T (does_serve L vals c s) ↔ (Reached L vals s × Reached L (s ∷ vals) c)
unfolding does_serve
serves_is L vals c s = (
  λ t. let p = both_of (does_reach L vals s) (does_reach L (s ∷ vals) c) t in ((reach_is L vals s).0 p.0, (reach_is L (s ∷ vals) c).0 p.1),
  λ p. of_both (does_reach L vals s) (does_reach L (s ∷ vals) c) ((reach_is L vals s).1 p.0) ((reach_is L (s ∷ vals) c).1 p.1),
)

-- what is reached is among the values that are tried
tried : (L : ℕ) (vals : List ℕ) (s : ℕ) → Reached L vals s → Memᴰ s (1 ∷ candidates L)
tried L vals s r = go (ℕ_discrete s 1)
  where
    go : Dec (s ≡ 1) → Memᴰ s (1 ∷ candidates L)
    go (yes e) = Memᴰ.head e
    go (no n) = let o = reached_odd L vals s r in let p = o.0 in Memᴰ.tail (in_candidates L s o (omega arith))

pub twice_is : (L : ℕ) (vals : List ℕ) (c : ℕ) → T (any (does_serve L vals c) (1 ∷ candidates L)) ↔ ReachedTwice L vals c
twice_is L vals c = (
  λ t.
      let (s, i, q) = any_in (does_serve L vals c) (1 ∷ candidates L) t in
      let p = (serves_is L vals c s).0 q in
      record { s = s; first = p.0; second = p.1 },
  λ r. in_any (does_serve L vals c) (tried L vals r.s r.first) ((serves_is L vals c r.s).1 (r.first, r.second)),
)

-- ---- the four answers

abbrev far : (zero one two : Bool) → Far
far zero one two = cond zero Zero (cond one One (cond two Two Beyond))

-- of three tests that say A, B and C
module _ {A B C : Type 0} (a b c : Bool) (p : T a ↔ A) (q : T b ↔ B) (r : T c ↔ C) where
  told_zero : (far a b c ≡ Zero) ↔ A
  told_zero = (λ e. p.0 (go a b c e), λ x. ap (λ t. far t b c) (true_of a (p.1 x)))
    where
      go : (a b c : Bool) → far a b c ≡ Zero → T a
      go true b c e = tt
      go false true c e = absurd (let z : ◌≡◌ {A = ℕ} 0 1 = cc in omega arith)
      go false false true e = absurd (let z : ◌≡◌ {A = ℕ} 0 1 = cc in omega arith)
      go false false false e = absurd (let z : ◌≡◌ {A = ℕ} 0 1 = cc in omega arith)

  told_one : (far a b c ≡ One) ↔ ((¬ A) × B)
  told_one = (λ e. let (x, y) = go a b c e in (λ k. x (p.1 k), q.0 y), λ k. back a b c (λ t. k.0 (p.0 t)) (q.1 k.1))
    where
      go : (a b c : Bool) → far a b c ≡ One → (¬ T a) × T b
      go true b c e = absurd (let z : ◌≡◌ {A = ℕ} 0 1 = cc in omega arith)
      go false true c e = (λ t. t, tt)
      go false false true e = absurd (let z : ◌≡◌ {A = ℕ} 0 1 = cc in omega arith)
      go false false false e = absurd (let z : ◌≡◌ {A = ℕ} 0 1 = cc in omega arith)

      back : (a b c : Bool) → (¬ T a) → T b → far a b c ≡ One
      back true b c n t = absurd (n tt)
      back false true c n t = refl
      back false false c n t = absurd t

  told_two : (far a b c ≡ Two) ↔ ((¬ A) × (¬ B) × C)
  told_two = (
    λ e. let (x, y, z) = go a b c e in (λ k. x (p.1 k), λ k. y (q.1 k), r.0 z),
    λ k. back a b c (λ t. k.0 (p.0 t)) (λ t. k.1 (q.0 t)) (r.1 k.2),
  )
    where
      go : (a b c : Bool) → far a b c ≡ Two → (¬ T a) × (¬ T b) × T c
      go true b c e = absurd (let z : ◌≡◌ {A = ℕ} 0 1 = cc in omega arith)
      go false true c e = absurd (let z : ◌≡◌ {A = ℕ} 0 1 = cc in omega arith)
      go false false true e = (λ t. t, λ t. t, tt)
      go false false false e = absurd (let z : ◌≡◌ {A = ℕ} 0 1 = cc in omega arith)

      back : (a b c : Bool) → (¬ T a) → (¬ T b) → T c → far a b c ≡ Two
      back true b c n m t = absurd (n tt)
      back false true c n m t = absurd (m tt)
      back false false true n m t = refl
      back false false false n m t = absurd t

  told_beyond : (far a b c ≡ Beyond) ↔ ((¬ A) × (¬ B) × (¬ C))
  told_beyond = (
    λ e. let (x, y, z) = go a b c e in (λ k. x (p.1 k), λ k. y (q.1 k), λ k. z (r.1 k)),
    λ k. back a b c (λ t. k.0 (p.0 t)) (λ t. k.1 (q.0 t)) (λ t. k.2 (r.0 t)),
  )
    where
      go : (a b c : Bool) → far a b c ≡ Beyond → (¬ T a) × (¬ T b) × (¬ T c)
      go true b c e = absurd (let z : ◌≡◌ {A = ℕ} 0 1 = cc in omega arith)
      go false true c e = absurd (let z : ◌≡◌ {A = ℕ} 0 1 = cc in omega arith)
      go false false true e = absurd (let z : ◌≡◌ {A = ℕ} 0 1 = cc in omega arith)
      go false false false e = (λ t. t, λ t. t, λ t. t)

      back : (a b c : Bool) → (¬ T a) → (¬ T b) → (¬ T c) → far a b c ≡ Beyond
      back true b c n m o = absurd (n tt)
      back false true c n m o = absurd (m tt)
      back false false true n m o = absurd (o tt)
      back false false false n m o = refl

module _ (L : ℕ) (vals : List ℕ) (c : ℕ) where
  has_is : T (has vals c) ↔ Memᴰ c vals
  has_is = (has_in vals c, in_has)

  abbrev is_two : Bool
  is_two = any (does_serve L vals c) (1 ∷ candidates L)

  pub distance_zero : (distance L vals c ≡ Zero) ↔ Memᴰ c vals
  unfolding distance
  distance_zero = told_zero (has vals c) (does_reach L vals c) is_two has_is (reach_is L vals c) (twice_is L vals c)

  pub distance_one : (distance L vals c ≡ One) ↔ ((¬ Memᴰ c vals) × Reached L vals c)
  unfolding distance
  distance_one = told_one (has vals c) (does_reach L vals c) is_two has_is (reach_is L vals c) (twice_is L vals c)

  pub distance_two : (distance L vals c ≡ Two) ↔ ((¬ Memᴰ c vals) × (¬ Reached L vals c) × ReachedTwice L vals c)
  unfolding distance
  distance_two = told_two (has vals c) (does_reach L vals c) is_two has_is (reach_is L vals c) (twice_is L vals c)

  pub distance_beyond : (distance L vals c ≡ Beyond) ↔ ((¬ Memᴰ c vals) × (¬ Reached L vals c) × (¬ ReachedTwice L vals c))
  unfolding distance
  distance_beyond = told_beyond (has vals c) (does_reach L vals c) is_two has_is (reach_is L vals c) (twice_is L vals c)

-- ---- only the members count

twice_within : (L : ℕ) (xs ys : List ℕ) (c : ℕ) → Among xs ys → ReachedTwice L xs c → ReachedTwice L ys c
twice_within L xs ys c h r =
    record { s = r.s; first = reached_within L xs ys r.s h r.first; second = reached_within L (r.s ∷ xs) (r.s ∷ ys) c more r.second }
  where
    more : Among (r.s ∷ xs) (r.s ∷ ys)
    more a i = ⊎_elim (λ e. Memᴰ.head e) (λ j. Memᴰ.tail (h a j)) (Memᴰ.cases_cons i)

same_test : {A B : Type 0} (a b : Bool) → T a ↔ A → T b ↔ B → (A → B) → (B → A) → a ≡ b
same_test a b p q f g = bool_ext a b (λ t. q.1 (f (p.0 t))) (λ t. p.1 (g (q.0 t)))

-- so that repeats, and the order, change nothing
pub distance_same : (L : ℕ) (xs ys : List ℕ) (c : ℕ) → Among xs ys → Among ys xs → distance L xs c ≡ distance L ys c
unfolding distance
distance_same L xs ys c h k =
    let e : has xs c ≡ has ys c = same_test _ _ (has_is L xs c) (has_is L ys c) (h c) (k c) in
    let f : does_reach L xs c ≡ does_reach L ys c = reach_same L xs ys c h k in
    let g : is_two L xs c ≡ is_two L ys c = same_test _ _ (twice_is L xs c) (twice_is L ys c) (twice_within L xs ys c h) (twice_within L ys xs c k) in
    ap (λ t. far t (does_reach L xs c) (is_two L xs c)) e ∙ ap (λ t. far (has ys c) t (is_two L xs c)) f ∙ ap (λ t. far (has ys c) (does_reach L ys c) t) g

-- ---- the call

-- where nothing is refused, the answer is the distance under the limit
pub distance_told_lem : (b : ℕ) (vals : List ℕ) (c : ℕ) → first_of (distance_order b vals c) ≡ Accepted → distance_told b vals c ≡ Ok (distance (limit b) vals c)
unfolding distance_told
distance_told_lem b vals c e = ap (λ a. told a (distance (limit b) vals c)) e

-- and a refusal is told
pub distance_refused : (b : ℕ) (vals : List ℕ) (c : ℕ) (why : Refusal) → first_of (distance_order b vals c) ≡ Err why → distance_told b vals c ≡ Err why
unfolding distance_told
distance_refused b vals c why e = ap (λ a. told a (distance (limit b) vals c)) e

-- a bit limit, a ready list and a target that are not refused
pub record Askable (b : ℕ) (vals : List ℕ) (c : ℕ) : Type 0 where
  pub bits : (2 ≤ b) × (b ≤ 16)
  pub list : (1 ≤ length vals) × (length vals ≤ most_ready)
  pub values : (v : ℕ) → Memᴰ v vals → Odd (limit b) v
  pub target : Odd b c

pub askable_of : (b : ℕ) (vals : List ℕ) (c : ℕ) → first_of (distance_order b vals c) ≡ Accepted → Askable b vals c
askable_of b vals c e =
    let (s1, (s2, (s3, (s4, _)))) = first_accepts (distance_order b vals c) e in
    let q1 = need_accepts no.Bits (bit_tests b) s1 in
    let q2 = need_accepts (no.Ready 0) (between 1 most_ready (length vals)) s2 in
    let q4 = need_accepts no.Target (eqb (c % 2) 1 ∷ ltb c (2 ^ b) ∷ []) s4 in
    record {
      bits = omega (arith, leb→le);
      list = omega (arith, leb→le);
      values = λ v i.
          let p = both_of (eqb (v % 2) 1) (ltb v (2 ^ limit b)) (pass_in (λ v. eqb (v % 2) 1 && ltb v (2 ^ limit b)) [] vals (each_accepts no.Ready _ [] vals s3) i) in
          (eqb→eq _ _ p.0, ltb→lt _ _ p.1);
      target = (eqb→eq _ _ q4.0, ltb→lt _ _ q4.1.0);
    }
