-- A list written over the front of another, one place at a time. Assumes nothing.
use mathlib.Core.Path.{◌≡◌, refl, sym, ap, ◌∙◌}
use mathlib.Core.List.{List, [], ◌∷◌, ◌++◌, append_assoc, map, map-append}
use Prim.Native.Nat.{ℕ, ◌+◌, ◌≤◌, ◌<◌}
use native.Mathlib.Omega.{arith}
use native.Mathlib.Nat.{suc-add}
use native.Mathlib.Numerals.{add-one}
use lib.ListN.{length, take, drop, get_or, set, length-append, length-drop, length-map, take-append-drop}
use lib.Seq.{take_at, drop_at, drop-drop, take-suc, take-length, length-take-le, sets, sets-eq}
use Rattle.meaning.specs.Basics.{over, over_at}

module _ {A : Type 0} where
  -- the next place
  pub over_next : (new old : List A) (v : A) → length new < length old → set (over new old) (length new) v ≡ over (new ++ (v ∷ [])) old
  unfolding over
  over_next [] [] v h = absurd (omega arith)
  over_next [] (o ∷ old) v h = refl
  over_next (x ∷ new) [] v h = absurd (omega arith)
  over_next (x ∷ new) (o ∷ old) v h = ap (λ l. x ∷ l) (over_next new old v (omega arith))

  pub over_at_lem : (new old : List A) (v : A) (i : ℕ) → length new ≡ i → i < length old → set (over new old) i v ≡ over (new ++ (v ∷ [])) old
  over_at_lem new old v i e h = ap (λ j. set (over new old) j v) (sym e) ∙ over_next new old v (rw e h)

  -- what is written from place n on, over_at a front of n
  pub over_part : (new more old : List A) (n : ℕ) → length new ≡ n → over_at n more (over new old) ≡ over (new ++ more) old
  unfolding over over_at
  over_part new more old n e =
      rw (take_at new (drop (length new) old) n e, drop_at new (drop (length new) old) n e, drop-drop (length more) (length new) old, length-append new more)
      (sym (append_assoc new more (drop (length new + length more) old)))

  pub length_over_at : (n : ℕ) (new old : List A) → n + length new ≤ length old → length (over_at n new old) ≡ length old
  unfolding over_at over
  length_over_at n new old h = simp (length-append, length-drop, length-take-le n old (omega arith)) (omega arith)

  -- the same behind what was written from place n on
  pub over_at_part : (n m : ℕ) (new more old : List A) → n ≤ length old → n + length new ≡ m → over_at m more (over_at n new old) ≡ over_at n (new ++ more) old
  unfolding over_at over
  over_at_part n m new more old h e =
      rw (take_two, drop_two) (append_assoc (take n old) new _ ∙ ap (λ l. take n old ++ l) (ap (λ l. new ++ (more ++ l)) rest ∙ sym (append_assoc new more _)))
    where
      front : List A
      front = take n old ++ new

      long : length front ≡ m
      long = rw (length-append (take n old) new, length-take-le n old h) e

      take_two : take m (take n old ++ (new ++ drop (length new) (drop n old))) ≡ front
      take_two = ap (take m) (sym (append_assoc (take n old) new _)) ∙ take_at front (drop (length new) (drop n old)) m long

      drop_two : drop m (take n old ++ (new ++ drop (length new) (drop n old))) ≡ drop (length new) (drop n old)
      drop_two = ap (drop m) (sym (append_assoc (take n old) new _)) ∙ drop_at front (drop (length new) (drop n old)) m long

      rest : drop (length more) (drop (length new) (drop n old)) ≡ drop (length (new ++ more)) (drop n old)
      rest = drop-drop (length more) (length new) (drop n old) ∙ ap (λ k. drop k (drop n old)) (sym (length-append new more))

  pub over_at_none : (n : ℕ) (old : List A) → over_at n [] old ≡ old
  unfolding over_at over
  over_at_none n old = take-append-drop n old

  set_append_add : (xs ys : List A) (i : ℕ) (v : A) → set (xs ++ ys) (length xs + i) v ≡ xs ++ set ys i v
  set_append_add [] ys i v = ap (λ j. set ys j v) (omega arith)
  set_append_add (x ∷ xs) ys i v = ap (λ j. set (x ∷ (xs ++ ys)) j v) (suc-add (length xs) i) ∙ ap (λ l. x ∷ l) (set_append_add xs ys i v)

  -- the next place, from place n on
  pub over_at_set : (n : ℕ) (new old : List A) (v : A) (i : ℕ) → length new ≡ i → n + i < length old → set (over_at n new old) (n + i) v ≡ over_at n (new ++ (v ∷ [])) old
  unfolding over_at
  over_at_set n new old v i e h =
      ap (λ j. set (take n old ++ over new (drop n old)) (j + i) v) (sym (length-take-le n old (omega arith)))
      ∙ set_append_add (take n old) (over new (drop n old)) i v
      ∙ ap (λ l. take n old ++ l) (over_at_lem new (drop n old) v i e (simp length-drop (omega arith)))

  -- stores one over_at the other
  pub over_at_sets : (at : ℕ) (vs old : List A) → at + length vs ≤ length old → sets old at vs ≡ over_at at vs old
  unfolding over_at over
  over_at_sets at vs old h =
      sets-eq vs old at h ∙ ap (λ l. take at old ++ vs ++ l) (sym (drop-drop (length vs) at old)) ∙ append_assoc (take at old) vs (drop (length vs) (drop at old))

  -- a list by its front: stores to these places then compute
  pub front_two : (d : A) (l : List A) → 2 ≤ length l → l ≡ get_or l 0 d ∷ get_or l 1 d ∷ drop 2 l
  front_two d [] h = absurd (omega arith)
  front_two d (a ∷ []) h = absurd (omega arith)
  front_two d (a ∷ b ∷ l) h = refl

  pub front_three : (d : A) (l : List A) → 3 ≤ length l → l ≡ get_or l 0 d ∷ get_or l 1 d ∷ get_or l 2 d ∷ drop 3 l
  front_three d [] h = absurd (omega arith)
  front_three d (a ∷ []) h = absurd (omega arith)
  front_three d (a ∷ b ∷ []) h = absurd (omega arith)
  front_three d (a ∷ b ∷ c ∷ l) h = refl

  pub two_words : {a b x y : A} {l : List A} → a ≡ x → b ≡ y → a ∷ b ∷ l ≡ x ∷ y ∷ l
  two_words e f = rw (e, f)

  pub three_words : {a b c x y z : A} {l : List A} → a ≡ x → b ≡ y → c ≡ z → a ∷ b ∷ c ∷ l ≡ x ∷ y ∷ z ∷ l
  three_words e f g = rw (e, f, g)

-- what a loop over a list writes: the members passed
module _ {A : Type 0} where
  pub over_taken : (xs : List A) (d : A) (old : List A) (i : ℕ) → i < length xs → i < length old
      → set (over (take i xs) old) i (get_or xs i d) ≡ over (take (i + 1) xs) old
  over_taken xs d old i k h =
      over_at_lem (take i xs) old (get_or xs i d) i (length-take-le i xs (omega arith)) h
      ∙ ap (λ l. over l old) (sym (take-suc xs i d k) ∙ ap (λ j. take j xs) (sym (add-one i)))

-- and what a function makes of each: at its start, at a turn, from place n on too, and at its end
module _ {A B : Type 0} (f : A → B) where
  pub over_start : (xs : List A) (old : List B) → old ≡ over (map f (take 0 xs)) old
  unfolding over
  over_start xs old = refl

  passed : (xs : List A) (d : A) (i : ℕ) → i < length xs → map f (take i xs) ++ (f (get_or xs i d) ∷ []) ≡ map f (take (i + 1) xs)
  passed xs d i k =
      sym (map-append f (take i xs) (get_or xs i d ∷ [])) ∙ ap (map f) (sym (take-suc xs i d k) ∙ ap (λ j. take j xs) (sym (add-one i)))

  count : (xs : List A) (i : ℕ) → i < length xs → length (map f (take i xs)) ≡ i
  count xs i k = length-map (take i xs) f ∙ length-take-le i xs (omega arith)

  pub over_more : (xs : List A) (d : A) (old : List B) (i : ℕ) → i < length xs → length xs ≤ length old
      → set (over (map f (take i xs)) old) i (f (get_or xs i d)) ≡ over (map f (take (i + 1) xs)) old
  over_more xs d old i k h = over_at_lem (map f (take i xs)) old (f (get_or xs i d)) i (count xs i k) (omega arith) ∙ ap (λ l. over l old) (passed xs d i k)

  pub over_at_more : (xs : List A) (d : A) (n : ℕ) (old : List B) (i : ℕ) → i < length xs → n + i < length old
      → set (over_at n (map f (take i xs)) old) (n + i) (f (get_or xs i d)) ≡ over_at n (map f (take (i + 1) xs)) old
  over_at_more xs d n old i k h = over_at_set n (map f (take i xs)) old (f (get_or xs i d)) i (count xs i k) h ∙ ap (λ l. over_at n l old) (passed xs d i k)

  pub over_end : (xs : List A) (old : List B) (i : ℕ) → i ≡ length xs → over (map f (take i xs)) old ≡ over (map f xs) old
  over_end xs old i e = ap (λ l. over (map f l) old) (ap (λ n. take n xs) e ∙ take-length xs)
