-- The rows of a slice of words: by index, one more at the end, and back from rows; the values of valid rows. Assumes nothing.
use mathlib.Core.Path.{◌≡◌, refl, sym, ap, ap₂, ◌∙◌, subst, subst⁻¹}
use mathlib.Core.List.Memᴰ
use mathlib.Core.List.{List, [], ◌∷◌, ◌++◌, append-nil, append_assoc, map, map-append, Memᴰ}
use mathlib.Core.Logic.{⊎_elim}
use Prim.Native.Nat.{ℕ, zero, suc, ◌+◌, ◌*◌, ◌≤◌, ◌<◌}
use native.Mathlib.Decide.{dec_lt}
use native.Mathlib.Omega.{arith}
use lib.Dec.{T, ltb, ltb→lt, lt→ltb}
use lib.ListN.{length, get_or, take, drop, length-append, length-drop}
use lib.Seq.{get_or-drop, take_at, take-suc, take-add}
use Rattle.meaning.specs.declared.Row.{Row}
use Rattle.meaning.specs.Basics.{up_from, over, over_at}
use Rattle.meaning.specs.Operation.{Odd}
use Rattle.meaning.specs.Graph.{row_length, words, row_at, row_after, rows, flat, values, ready, Fits, does_fit, Sound}
use Rattle.laws.proofs.Lists.Tests.{both_of, of_both}
use Rattle.laws.proofs.Operation.Result.{exact_of, valid_of_test, test_of_valid}
use Rattle.laws.proofs.Refusals.Members.{AllPass}

pub length_rows : (n : ℕ) (w : List ℕ) → length (rows n w) ≡ n
unfolding rows
length_rows zero w = refl
length_rows (suc n) w = ap suc (length_rows n (drop row_length w))

pub length_values : (xs : List Row) → length (values xs) ≡ length xs
length_values [] = refl
length_values (x ∷ xs) = ap suc (length_values xs)

pub length_ready : (n : ℕ) (w : List ℕ) → length (ready (rows n w)) ≡ suc n
length_ready n w = ap suc (length_values (rows n w) ∙ length_rows n w)

-- a word of a later row
at_drop : (w : List ℕ) (k i : ℕ) → get_or (drop row_length w) (k + i) 0 ≡ get_or w (row_length + k + i) 0
at_drop w k i = get_or-drop row_length w (k + i) 0 ∙ ap (λ j. get_or w j 0) (omega arith)

row_drop : (w : List ℕ) (k : ℕ) → row_at (drop row_length w) k ≡ row_at w (row_length + k)
row_drop w k =
    λ i. record {
      u = get_or-drop row_length w k 0 i;
      v = at_drop w k 1 i;
      l1 = at_drop w k 2 i;
      l2 = at_drop w k 3 i;
      s = at_drop w k 4 i;
      r = at_drop w k 5 i;
      value = at_drop w k 6 i;
    }

-- one row more
pub rows_more : (n : ℕ) (w : List ℕ) → rows (suc n) w ≡ rows n w ++ (row_after w n ∷ [])
unfolding rows
rows_more zero w = refl
rows_more (suc n) w =
    ap (λ l. row_at w 0 ∷ l)
    (rows_more n (drop row_length w)
    ∙ ap (λ x. rows n (drop row_length w) ++ (x ∷ [])) (row_drop w (row_length * n) ∙ ap (row_at w) (omega arith)))

-- a row of the slice by its number
pub row_of : (n : ℕ) (w : List ℕ) (i : ℕ) (d : Row) → i < n → get_or (rows n w) i d ≡ row_after w i
unfolding rows
row_of zero w i d h = absurd (omega arith)
row_of (suc n) w zero d h = refl
row_of (suc n) w (suc i) d h = row_of n (drop row_length w) i d (omega arith) ∙ row_drop w (row_length * i) ∙ ap (row_at w) (omega arith)

-- the first i of n rows
pub rows_take : (n : ℕ) (w : List ℕ) (i : ℕ) → i ≤ n → take i (rows n w) ≡ rows i w
unfolding rows
rows_take n w zero h = refl
rows_take zero w (suc i) h = absurd (omega arith)
rows_take (suc n) w (suc i) h = ap (λ l. row_at w 0 ∷ l) (rows_take n (drop row_length w) i (omega arith))

-- the value of the row after k rows
pub value_is : (n : ℕ) (w : List ℕ) (k : ℕ) → k < n → get_or (values (rows n w)) k 0 ≡ (row_after w k).value
unfolding rows
value_is zero w k h = absurd (omega arith)
value_is (suc n) w zero h = refl
value_is (suc n) w (suc k) h =
    value_is n (drop row_length w) k (omega arith) ∙ ap (λ x. x.value) (row_drop w (row_length * k)) ∙ ap (λ j. (row_at w j).value) (omega arith)

-- the values by index of some rows and of others after them
pub ready_append : (made new : List Row) → ready (made ++ new) ≡ ready made ++ values new
ready_append made new = ap (λ l. 1 ∷ l) (map-append (λ x. x.value) made new)

-- the rows' values, written over the front of a slice, are its first n
pub values_part : (n : ℕ) (w old : List ℕ) → take n (over (values (rows n w)) old) ≡ values (rows n w)
unfolding over
values_part n w old = take_at (values (rows n w)) (drop (length (values (rows n w))) old) n (length_values (rows n w) ∙ length_rows n w)

-- rows written and read again, whatever stands behind them
pub rows_flat : (xs : List Row) (rest : List ℕ) → rows (length xs) (flat xs ++ rest) ≡ xs
unfolding rows flat
rows_flat [] rest = refl
rows_flat (x ∷ xs) rest = ap (λ l. x ∷ l) (rows_flat xs rest)

pub flat_append : (xs ys : List Row) → flat (xs ++ ys) ≡ flat xs ++ flat ys
unfolding flat
flat_append [] ys = refl
flat_append (x ∷ xs) ys = ap (λ l. words x ++ l) (flat_append xs ys)

pub length_flat : (xs : List Row) → length (flat xs) ≡ row_length * length xs
unfolding flat
length_flat [] = refl
length_flat (x ∷ xs) = omega (arith, length_flat xs)

-- ---- rows written behind others

up_snoc : (f : ℕ → ℕ) (k n : ℕ) → map f (up_from k (suc n)) ≡ map f (up_from k n) ++ (f (k + n) ∷ [])
up_snoc f k zero = let e : k ≡ k + 0 = omega arith in ap (λ j. f j ∷ []) e
up_snoc f k (suc n) = let e : suc k + n ≡ k + suc n = omega arith in ap (λ l. f k ∷ l) (up_snoc f (suc k) n ∙ ap (λ j. map f (up_from (suc k) n) ++ (f j ∷ [])) e)

take_get_or : (k : ℕ) (w : List ℕ) → k ≤ length w → take k w ≡ map (λ i. get_or w i 0) (up_from 0 k)
take_get_or zero w h = refl
take_get_or (suc k) w h = take-suc w k 0 (omega arith) ∙ ap (λ l. l ++ (get_or w k 0 ∷ [])) (take_get_or k w (omega arith)) ∙ sym (up_snoc (λ i. get_or w i 0) 0 k ∙ ap (λ j. map (λ i. get_or w i 0) (up_from 0 k) ++ (get_or w j 0 ∷ [])) (omega arith))

-- the words of the first n rows
flat_rows : (n : ℕ) (w : List ℕ) → row_length * n ≤ length w → take (row_length * n) w ≡ flat (rows n w)
unfolding rows flat
flat_rows zero w h = refl
flat_rows (suc n) w h =
    let e : row_length * suc n ≡ row_length + row_length * n = omega arith in
    ap (λ k. take k w) e
    ∙ take-add row_length (row_length * n) w
    ∙ ap₂ ◌++◌ (take_get_or row_length w (omega arith)) (flat_rows n (drop row_length w) (omega (arith, length-drop row_length w)))

-- the rows of a slice with others written behind its first n
pub rows_written_lem : (n : ℕ) (w : List ℕ) (xs : List Row) → row_length * n ≤ length w → rows (n + length xs) (over_at (row_length * n) (flat xs) w) ≡ rows n w ++ xs
unfolding over_at over
rows_written_lem n w xs h =
    let rest = drop (length (flat xs)) (drop (row_length * n) w) in
    ap₂ rows (ap (λ k. k + length xs) (sym (length_rows n w)) ∙ sym (length-append (rows n w) xs))
    (ap (λ l. l ++ (flat xs ++ rest)) (flat_rows n w h)
    ∙ sym (append_assoc (flat (rows n w)) (flat xs) rest)
    ∙ ap (λ l. l ++ rest) (sym (flat_append (rows n w) xs)))
    ∙ rows_flat (rows n w ++ xs) rest

-- ---- valid rows

pub fits_of_test : (L : ℕ) (before : List Row) (x : Row) → T (does_fit L before x) → Fits L before x
unfolding does_fit
fits_of_test L before x t =
    let p = both_of (ltb x.u (length (ready before))) _ t in
    let q = both_of (ltb x.v (length (ready before))) _ p.1 in
    record { first = ltb→lt _ _ p.0; second = ltb→lt _ _ q.0; operation = valid_of_test _ _ _ _ _ _ _ _ q.1 }

pub test_of_fits : (L : ℕ) (before : List Row) (x : Row) → Fits L before x → T (does_fit L before x)
unfolding does_fit
test_of_fits L before x f =
    of_both (ltb x.u (length (ready before))) _ (lt→ltb _ _ f.first)
    (of_both (ltb x.v (length (ready before))) _ (lt→ltb _ _ f.second) (test_of_valid _ _ _ _ _ _ _ _ f.operation))

pub sound_of_pass : (L : ℕ) (before xs : List Row) → AllPass (does_fit L) before xs → Sound L before xs
unfolding AllPass Sound
sound_of_pass L before [] t = tt
sound_of_pass L before (x ∷ xs) t = (fits_of_test L before x t.0, sound_of_pass L (before ++ (x ∷ [])) xs t.1)

pub pass_of_sound : (L : ℕ) (before xs : List Row) → Sound L before xs → AllPass (does_fit L) before xs
unfolding AllPass Sound
pass_of_sound L before [] t = tt
pass_of_sound L before (x ∷ xs) t = (test_of_fits L before x t.0, pass_of_sound L (before ++ (x ∷ [])) xs t.1)

-- valid rows, and valid ones after them
pub sound_append : (L : ℕ) (before xs ys : List Row) → Sound L before xs → Sound L (before ++ xs) ys → Sound L before (xs ++ ys)
unfolding Sound
sound_append L before [] ys s t = rw append-nil at t
sound_append L before (x ∷ xs) ys s t =
    (s.0, sound_append L (before ++ (x ∷ [])) xs ys s.1 (rw (append_assoc before (x ∷ []) xs) t))

pub sound_split : (L : ℕ) (before xs ys : List Row) → Sound L before (xs ++ ys) → Sound L before xs × Sound L (before ++ xs) ys
unfolding Sound
sound_split L before [] ys s = (tt, rw append-nil s)
sound_split L before (x ∷ xs) ys s =
    let (a, b) = sound_split L (before ++ (x ∷ [])) xs ys s.1 in
    ((s.0, a), rw append_assoc at b)

-- of n valid rows the first i are valid, and the one after them is valid after them
pub sound_at : (L n : ℕ) (w : List ℕ) (i : ℕ) → Sound L [] (rows n w) → i < n → Sound L [] (rows i w) × Fits L (rows i w) (row_after w i)
unfolding Sound
sound_at L zero w i s h = absurd (omega arith)
sound_at L (suc n) w i s h =
    let (a, b) = sound_split L [] (rows n w) (row_after w n ∷ []) (subst (Sound L []) (rows_more n w) s) in
    go (dec_lt i n) a b.0 (λ p. sound_at L n w i a p)
  where
    go : Dec (i < n) → Sound L [] (rows n w) → Fits L (rows n w) (row_after w n) → (i < n → Sound L [] (rows i w) × Fits L (rows i w) (row_after w i))
        → Sound L [] (rows i w) × Fits L (rows i w) (row_after w i)
    go (yes p) a b rest = rest p
    go (no q) a b rest = subst (λ k. Sound L [] (rows k w) × Fits L (rows k w) (row_after w k)) (let e : n ≡ i = omega arith in e) (a, b)

-- every value of a valid row is odd and below 2 ^ L, so that every operand of the next is
pub sound_odd : (L : ℕ) (before xs : List Row) → Sound L before xs → (x : Row) → Memᴰ x xs → Odd L x.value
unfolding Sound
sound_odd L before [] s x i = absurd (Memᴰ.not-nil i)
sound_odd L before (y ∷ ys) s x i =
    ⊎_elim
    (λ e. subst⁻¹ (λ z. Odd L z.value) e ((exact_of L _ _ _ s.0.operation.outcome).odd, s.0.operation.outcome.below))
    (λ j. sound_odd L (before ++ (y ∷ [])) ys s.1 x j)
    (Memᴰ.cases_cons i)
