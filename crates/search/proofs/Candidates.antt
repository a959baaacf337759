-- The candidates in their order: the first k of them, and what a search among them finds. Assumes nothing.
use mathlib.Core.Path.{◌≡◌, refl, sym, ap, ◌∙◌}
use mathlib.Core.Bool.{Bool, true, false}
use mathlib.Core.List.{List, [], ◌∷◌, map}
use Prim.Native.Nat.{ℕ, zero, suc, ◌+◌, ◌-◌, ◌*◌, ◌/◌, ◌%◌, ◌^◌, ◌≤◌, ◌<◌, min}
use native.Mathlib.Nat.{pow-succ'}
use native.Mathlib.Omega.{arith}
use lib.ListN.{length, get_or, take, drop}
use Rattle.std.proofs.lemmas.List.{length-map, take-append-drop}
use lib.Pow.{pow_pos}
use Rattle.std.specs.Prelude.{Some, None, find}
use Rattle.std.specs.List.{position_or_len, slice_get}
use Rattle.std.specs.Option.{option_or}
use Rattle.std.proofs.lemmas.List.Folds.{find_at, find-append}
use Rattle.std.proofs.lemmas.List.Sums.{position_or_len_is}
use Rattle.std.proofs.lemmas.Option.{slice_get_past, slice_get-get_or}
use Rattle.meaning.specs.Basics.{up_from}
use Rattle.meaning.specs.Distance.{candidates}
use Rattle.laws.proofs.Lists.First.{up_length}
use Rattle.laws.proofs.Lists.Index.{at_map}
use Rattle.search.specs.Choices.{used}

-- ---- the first k candidates

pub half : (L : ℕ) → 1 ≤ L → 2 ^ L ≡ 2 * 2 ^ (L - 1)
half L h = let e : L ≡ suc (L - 1) = omega arith in ap (λ (x : ℕ). 2 ^ x) e ∙ pow-succ' 2 (L - 1)

take_up : (k n a : ℕ) → take k (up_from a n) ≡ up_from a (min n k)
take_up zero n a = let e : 0 ≡ min n 0 = omega arith in ap (up_from a) e
take_up (suc k) zero a = let e : 0 ≡ min 0 (suc k) = omega arith in ap (up_from a) e
take_up (suc k) (suc n) a =
    let e : suc (min n k) ≡ min (suc n) (suc k) = omega arith in
    ap (λ (l : List ℕ). a ∷ l) (take_up k n (suc a)) ∙ ap (up_from a) e

take_map : (f : ℕ → ℕ) (k : ℕ) (xs : List ℕ) → take k (map f xs) ≡ map f (take k xs)
take_map f zero xs = refl
take_map f (suc k) [] = refl
take_map f (suc k) (x ∷ xs) = ap (λ (l : List ℕ). f x ∷ l) (take_map f k xs)

pub candidates_take : (k L e : ℕ) → e ≡ min (2 ^ (L - 1)) (k + 1) → take k (candidates L) ≡ map (λ j. 2 * j + 1) (up_from 1 (e - 1))
unfolding candidates
candidates_take k L e h =
    let p = pow_pos (L - 1) in
    let q : min (2 ^ (L - 1) - 1) k ≡ e - 1 = omega arith in
    take_map (λ j. 2 * j + 1) k (up_from 1 (2 ^ (L - 1) - 1)) ∙ ap (map (λ j. 2 * j + 1)) (take_up k (2 ^ (L - 1) - 1) 1 ∙ ap (up_from 1) q)

-- a ceiling that is no less than the number of candidates stops nothing
pub candidates_all : (k L : ℕ) → 2 ^ (L - 1) ≤ k + 1 → take k (candidates L) ≡ candidates L
unfolding candidates
candidates_all k L h = candidates_take k L (2 ^ (L - 1)) (omega arith)

-- ---- a search among the first candidates

-- what is found among the first k is what is found
pub first_take : {A : Type 0} (t : A → Bool) (k : ℕ) (xs : List A) (a : A) → find t (take k xs) ≡ Some a → find t xs ≡ Some a
first_take t k xs a e =
    ap (find t) (sym (take-append-drop k xs))
    ∙ find-append t (take k xs) (drop k xs)
    ∙ ap (λ o. option_or o (find t (drop k xs))) e

-- the odd numbers from 3 on below 2 * e
abbrev pub below : ℕ → List ℕ
below e = map (λ j. 2 * j + 1) (up_from 1 (e - 1))

at_up : (k n i d : ℕ) → i < n → get_or (up_from k n) i d ≡ k + i
at_up k zero i d h = absurd (omega arith)
at_up k (suc n) zero d h = omega arith
at_up k (suc n) (suc i) d h = omega (arith, at_up (suc k) n i d (omega arith))

module _ (t : ℕ → Bool) (e : ℕ) where
  below_length : length (below e) ≡ e - 1
  below_length = length-map (up_from 1 (e - 1)) (λ j. 2 * j + 1) ∙ up_length 1 (e - 1)

  below_at : (i : ℕ) → i < e - 1 → get_or (below e) i 0 ≡ 2 * (i + 1) + 1
  below_at i h =
      let a = at_up 1 (e - 1) i 0 h in
      at_map (λ j. 2 * j + 1) (up_from 1 (e - 1)) i 0 0 (omega (arith, up_length 1 (e - 1))) ∙ omega arith

  first_at : (i : ℕ) → i ≤ e - 1 → ((j : ℕ) → 1 ≤ j → j ≤ i → t (2 * j + 1) ≡ false) → (i < e - 1 → t (2 * (i + 1) + 1) ≡ true) → position_or_len t (below e) ≡ i
  first_at i h miss hit =
      position_or_len_is t (below e) i 0 (omega (arith, below_length))
      (λ k l. ap t (below_at k (omega arith)) ∙ miss (k + 1) (omega arith) (omega arith))
      (λ l. let m : i < e - 1 = omega (arith, below_length) in ap t (below_at i m) ∙ hit m)

  -- the first that passes, and the half of it
  pub below_hit : (s : ℕ) → s % 2 ≡ 1 → 3 ≤ s → s < 2 * e → t s ≡ true → ((j : ℕ) → 1 ≤ j → 2 * j + 1 < s → t (2 * j + 1) ≡ false)
      → (find t (below e) ≡ Some s) × (used t (below e) ≡ s / 2)
  below_hit s o h l q miss =
      let i : ℕ = s / 2 - 1 in
      let m : i < e - 1 = omega arith in
      let same : 2 * (i + 1) + 1 ≡ s = omega arith in
      let p = first_at i (omega arith) (λ j a b. miss j a (omega arith)) (λ _. ap t same ∙ q) in (
        find_at t (below e) ∙ ap (slice_get (below e)) p ∙ slice_get-get_or (below e) i 0 (omega (arith, below_length)) ∙ ap Some (below_at i m ∙ same),
        omega (arith, p, below_length),
      )

  -- none passes
  pub below_miss : 1 ≤ e → ((j : ℕ) → 1 ≤ j → j < e → t (2 * j + 1) ≡ false) → (find t (below e) ≡ None) × (used t (below e) ≡ e - 1)
  below_miss h miss =
      let p = first_at (e - 1) (omega arith) (λ j a b. miss j a (omega arith)) (λ l. absurd (omega arith)) in (
        find_at t (below e) ∙ ap (slice_get (below e)) p ∙ slice_get_past (below e) (e - 1) (omega (arith, below_length)),
        omega (arith, p, below_length),
      )
