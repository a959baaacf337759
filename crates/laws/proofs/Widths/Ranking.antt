-- The ranking is a permutation of the rows, in order; the widest is first. Assumes nothing.
use mathlib.Core.Path.{◌≡◌, refl, sym, ap, ◌∙◌, subst, subst⁻¹}
use mathlib.Core.Bool.{Bool, true, false, cond}
use mathlib.Core.List.Memᴰ
use mathlib.Core.List.Permᴰ
use mathlib.Core.List.{List, [], ◌∷◌, map, Memᴰ, Permᴰ}
use mathlib.Core.Logic.{◌⊎◌, inl, inr, ⊎_elim}
use Prim.Native.Nat.{ℕ, suc, ◌-◌, ◌≤◌, ◌<◌}
use native.Mathlib.Decide.{dec_lt}
use native.Mathlib.Omega.{arith}
use borrow.Author.Tests.{leb-true, leb-false}
use lib.Dec.{leb}
use lib.ListN.{length, get_or, length-map}
use Rattle.meaning.specs.Basics.{up_from}
use Rattle.meaning.specs.Widths.{row_width, Ranked, place, ranked_from, ranking, Before, InOrder}

-- ---- a permutation

place_perm : (x : Ranked) (ys : List Ranked) → Permᴰ (place x ys) (x ∷ ys)
unfolding place
place_perm x [] = Permᴰ.refl (x ∷ [])
place_perm x (y ∷ ys) = go (leb y.width x.width) (place_perm x ys)
  where
    go : (b : Bool) → Permᴰ (place x ys) (x ∷ ys) → Permᴰ (cond b (x ∷ y ∷ ys) (y ∷ place x ys)) (x ∷ y ∷ ys)
    go true p = Permᴰ.refl (x ∷ y ∷ ys)
    go false p = Permᴰ.trans (Permᴰ.cons refl p) (Permᴰ.swap refl refl)

abbrev row : Ranked → ℕ
row x = x.row

ranked_perm : (k : ℕ) (ws : List ℕ) → Permᴰ (map row (ranked_from k ws)) (up_from k (length ws))
unfolding ranked_from
ranked_perm k [] = Permᴰ.nil
ranked_perm k (w ∷ ws) =
    Permᴰ.trans (Permᴰ.map row (place_perm (record { row = k; width = w }) (ranked_from (suc k) ws))) (Permᴰ.cons refl (ranked_perm (suc k) ws))

-- ---- in order

place_in : (x : Ranked) (ys : List Ranked) (z : Ranked) → Memᴰ z (place x ys) → (z ≡ x) ⊎ Memᴰ z ys
unfolding place
place_in x [] z i = Memᴰ.cases_cons i
place_in x (y ∷ ys) z i = go (leb y.width x.width) i (λ j. place_in x ys z j)
  where
    go : (b : Bool) → Memᴰ z (cond b (x ∷ y ∷ ys) (y ∷ place x ys)) → (Memᴰ z (place x ys) → (z ≡ x) ⊎ Memᴰ z ys) → (z ≡ x) ⊎ Memᴰ z (y ∷ ys)
    go true j rec = Memᴰ.cases_cons j
    go false j rec =
        ⊎_elim (λ e. inr (Memᴰ.head e)) (λ k. ⊎_elim (λ e. inl e) (λ m. inr (Memᴰ.tail m)) (rec k)) (Memᴰ.cases_cons j)

abbrev Above : Ranked → Ranked → Type 0
Above x y = (y.width < x.width) ⊎ ((x.width ≡ y.width) × (x.row < y.row))

Sorted : List Ranked → Type 0
Sorted [] = Unit {0}
Sorted (x ∷ xs) = ((y : Ranked) → Memᴰ y xs → Above x y) × Sorted xs

-- a lower row that is no narrower stands above
above_of : (x y : Ranked) → y.width ≤ x.width → x.row < y.row → Above x y
above_of x y h l = go (dec_lt y.width x.width)
  where
    go : Dec (y.width < x.width) → Above x y
    go (yes p) = inl p
    go (no q) = inr (omega arith, l)

above_le : (x y : Ranked) → Above x y → y.width ≤ x.width
above_le x y (inl h) = omega arith
above_le x y (inr h) = omega arith

place_sorted : (x : Ranked) (ys : List Ranked) → Sorted ys → ((y : Ranked) → Memᴰ y ys → x.row < y.row) → Sorted (place x ys)
unfolding place Sorted
place_sorted x [] s l = (λ y i. absurd (Memᴰ.not-nil i), tt)
place_sorted x (y ∷ ys) s l = go (leb y.width x.width) refl (place_sorted x ys s.1 (λ z i. l z (Memᴰ.tail i)))
  where
    first : y.width ≤ x.width → (z : Ranked) → Memᴰ z (y ∷ ys) → Above x z
    first h z i =
        above_of x z
        (⊎_elim (λ e. subst⁻¹ (λ q. q.width ≤ x.width) e h) (λ j. let k = above_le y z (s.0 z j) in omega arith) (Memᴰ.cases_cons i))
        (l z i)

    go : (b : Bool) → leb y.width x.width ≡ b → Sorted (place x ys) → Sorted (cond b (x ∷ y ∷ ys) (y ∷ place x ys))
    go true e p = (first (leb-true _ _ e), s)
    go false e p = (
      λ z i. ⊎_elim (λ q. inl (subst⁻¹ (λ q. q.width < y.width) q (leb-false _ _ e))) (λ j. s.0 z j) (place_in x ys z i),
      p,
    )

-- the rows from k on are numbered from k, and have the widths of their places
ranked_in : (k : ℕ) (ws : List ℕ) (z : Ranked) → Memᴰ z (ranked_from k ws) → (k ≤ z.row) × (z.width ≡ get_or ws (z.row - k) 0)
unfolding ranked_from
ranked_in k [] z i = absurd (Memᴰ.not-nil i)
ranked_in k (w ∷ ws) z i =
    ⊎_elim
    (λ e. here (z.row - k) (ap (λ q. q.row) e) (ap (λ q. q.width) e))
    (λ j. let (h, e) = ranked_in (suc k) ws z j in later h e)
    (place_in (record { row = k; width = w }) (ranked_from (suc k) ws) z i)
  where
    here : (d : ℕ) → z.row ≡ k → z.width ≡ w → (k ≤ z.row) × (z.width ≡ get_or (w ∷ ws) (z.row - k) 0)
    here d e f = let q : z.row - k ≡ 0 = omega arith in (omega arith, f ∙ sym (ap (λ n. get_or (w ∷ ws) n 0) q))

    later : suc k ≤ z.row → z.width ≡ get_or ws (z.row - suc k) 0 → (k ≤ z.row) × (z.width ≡ get_or (w ∷ ws) (z.row - k) 0)
    later h e = let q : z.row - k ≡ suc (z.row - suc k) = omega arith in (omega arith, e ∙ sym (ap (λ n. get_or (w ∷ ws) n 0) q))

ranked_sorted : (k : ℕ) (ws : List ℕ) → Sorted (ranked_from k ws)
unfolding ranked_from Sorted
ranked_sorted k [] = tt
ranked_sorted k (w ∷ ws) =
    place_sorted (record { row = k; width = w }) (ranked_from (suc k) ws) (ranked_sorted (suc k) ws)
    (λ y i. let (h, _) = ranked_in (suc k) ws y i in omega arith)

map_out : (xs : List Ranked) (j : ℕ) → Memᴰ j (map row xs) → (y : Ranked) × Memᴰ y xs × (j ≡ y.row)
map_out [] j i = absurd (Memᴰ.not-nil i)
map_out (x ∷ xs) j i =
    ⊎_elim (λ e. (x, Memᴰ.head refl, e)) (λ k. let (y, m, e) = map_out xs j k in (y, Memᴰ.tail m, e)) (Memᴰ.cases_cons i)

rows_ordered : (f : ℕ → ℕ) (xs : List Ranked) → ((y : Ranked) → Memᴰ y xs → y.width ≡ f y.row) → Sorted xs → InOrder f (map row xs)
unfolding Sorted InOrder
rows_ordered f [] w s = tt
rows_ordered f (x ∷ xs) w s = (
  λ j i. let (y, m, e) = map_out xs j i in
      subst⁻¹ (Before f x.row) e (above x y (w x (Memᴰ.head refl)) (w y (Memᴰ.tail m)) (s.0 y m)),
  rows_ordered f xs (λ y i. w y (Memᴰ.tail i)) s.1,
)
  where
    above : (x y : Ranked) → x.width ≡ f x.row → y.width ≡ f y.row → Above x y → Before f x.row y.row
    above x y a b (inl h) = inl (omega arith)
    above x y a b (inr h) = inr (omega arith)

-- ---- the ranking

-- the width of row i, from 1, by the rows' values
abbrev pub width_of : ℕ → List ℕ → ℕ → ℕ
width_of w xs i = get_or (map (row_width w) xs) (i - 1) 0

pub ranking_permutes : (w : ℕ) (xs : List ℕ) → Permᴰ (ranking w xs) (up_from 1 (length xs))
unfolding ranking
ranking_permutes w xs = subst (λ n. Permᴰ (map row (ranked_from 1 (map (row_width w) xs))) (up_from 1 n)) (length-map xs (row_width w)) (ranked_perm 1 (map (row_width w) xs))

pub ranking_ordered : (w : ℕ) (xs : List ℕ) → InOrder (width_of w xs) (ranking w xs)
unfolding ranking
ranking_ordered w xs = rows_ordered (width_of w xs) (ranked_from 1 (map (row_width w) xs)) (λ y i. (ranked_in 1 (map (row_width w) xs) y i).1) (ranked_sorted 1 (map (row_width w) xs))
