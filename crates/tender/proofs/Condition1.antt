-- Condition 1 holds. Assumes nothing.
use mathlib.Core.Path.{◌≡◌, refl, sym, ap, ◌∙◌, subst}
use Rattle.std.specs.Prelude.{Result, Ok, Err}
use mathlib.Core.Bool.{Bool, false}
use mathlib.Core.List.{List, [], ◌∷◌, ◌++◌, Memᴰ}
use mathlib.Core.Logic.{inl, inr, ⊎_elim, ◌↔◌}
use Prim.Native.Nat.{ℕ, ◌+◌, ◌*◌, ◌%◌, ◌^◌, ◌≤◌, ◌<◌}
use native.Mathlib.Omega.{arith}
use lib.Dec.{T, leb, ltb, eqb, leb→le, le→leb, ltb→lt, lt→ltb, eqb→eq}
use lib.IntN.{ℤ}
use lib.ListN.{length}
use Rattle.meaning.specs.declared.Refusal.{Refusal}
use Rattle.meaning.specs.declared.Refusal.TheVariants as no
use Rattle.meaning.specs.declared.Row.{Row}
use Rattle.meaning.specs.Basics.{all, has, First, over}
use Rattle.meaning.specs.Limits.{limit, most_rows}
use Rattle.meaning.specs.Constants.{odd_of}
use Rattle.meaning.specs.Graph.{row_length, row_tests, rows, values, does_fit, is_served}
use Rattle.meaning.specs.Generator.{generated}
use Rattle.meaning.specs.Listing.{printed_told, text_written}
use Rattle.meaning.specs.Job.{Asked, bits_of, input_of, job_order}
use Rattle.meaning.specs.Refusals.{Answer, Accepted, Done, need, need_each, odd_parts, number, place_of, given, told, first_of, admit_order, check_order, sized_order, products_order, widths_order, ranking_order, generate_order, distance_order, buffer, row_count, valid_rows, all_served, few_rows, input_width, ready_values, target, admitted, checked, sized, multiplied, products_written, measured, widths_written, ranked, ranking_written, drawn, drawn_told, rows_written, distance_told, apart_told, apart_written, canonic_told, canonic_written}
use Rattle.laws.proofs.Lists.Tests.{All, all_of, of_all, false_of, both_of, of_both, either_of, of_left, of_right, eqb_of_eq}
use Rattle.laws.proofs.Lists.Has.{in_has, has_in}
use Rattle.laws.proofs.Refusals.Stages.{told_refuses, never_both, need_refuses, one_done, over_none}
use Rattle.laws.proofs.Refusals.Members.{each_refuses, refuses_each}
use Rattle.tender.specs.Words.{ValidRow}
use Rattle.tender.specs.Table.{Situation, FirstOf, line3, line4, line5, line6, line7, line8, line9, line10values, line11, job_lines, admit_table, check_table, width_table, generate_table, distance_table, IsRefusal, Refuses, RefusesLent}
use Rattle.meaning.specs.Calls.{Admits, Checks, ChecksWidth, Distances, TakesApart, WritesForm, Generates, Multiplies, Measures, Ranks, Prints}
use Rattle.tender.proofs.Rows.{row_of_test, test_of_row}

-- ---- stages and their lines

-- a stage refuses exactly by its line
abbrev Exactly : Answer → Situation → Type 0
Exactly a L = (N P : ℕ) → IsRefusal a N P ↔ L N P

abbrev Told : List Answer → List Situation → Type 0
Told [] [] = Unit {0}
Told [] (L ∷ Ls) = ⊥
Told (a ∷ xs) [] = ⊥
Told (a ∷ xs) (L ∷ Ls) = Exactly a L × Told xs Ls

told_append : (xs bs : List Answer) (Ls Ms : List Situation) → Told xs Ls → Told bs Ms → Told (xs ++ bs) (Ls ++ Ms)
told_append [] bs [] Ms t u = u
told_append [] bs (L ∷ Ls) Ms t u = absurd t
told_append (a ∷ xs) bs [] Ms t u = absurd t
told_append (a ∷ xs) bs (L ∷ Ls) Ms t u = (t.0, told_append xs bs Ls Ms t.1 u)

told_last : (xs : List Answer) (Ls : List Situation) → Told xs Ls → (a : Answer) (L : Situation) → Exactly a L → Told (xs ++ (a ∷ [])) (Ls ++ (L ∷ []))
told_last xs Ls t a L e = told_append xs (a ∷ []) Ls (L ∷ []) t (e, tt)

-- an acceptance is no refusal
accepts : (N P : ℕ) → ¬ (IsRefusal Accepted N P)
accepts N P r = never_both r.0 r.1

-- the first stage that refuses is the first line whose situation holds
pub exactly : (xs : List Answer) (Ls : List Situation) → Told xs Ls → Exactly (first_of xs) (FirstOf Ls)
exactly [] [] t N P = (λ r. absurd (accepts N P r), λ x. absurd x)
exactly [] (L ∷ Ls) t N P = absurd t
exactly (a ∷ xs) [] t N P = absurd t
exactly (Ok _ ∷ xs) (L ∷ Ls) t N P =
    let rest = exactly xs Ls t.1 N P in (
      λ e. inr (λ n p h. accepts n p ((t.0 n p).1 h), rest.0 e),
      λ r. ⊎_elim (λ h. absurd (accepts N P ((t.0 N P).1 h))) (λ p. rest.1 p.1) r,
    )
exactly (Err y ∷ xs) (L ∷ Ls) t N P = (
  λ e. inl ((t.0 N P).0 e),
  λ r. ⊎_elim (λ h. (t.0 N P).1 h) (λ p. absurd (p.0 (number y) (place_of y) ((t.0 (number y) (place_of y)).0 (y, refl, refl, refl)))) r,
)

-- ---- a line on the whole

needs : (y : Refusal) (tests : List Bool) (Q : Type 0) → (All tests → Q) → (Q → All tests)
    → Exactly (need y tests) (λ N P. (N ≡ number y) × (P ≡ place_of y) × (¬ Q))
needs y tests Q f g N P = (
  λ r. let (n, q) = need_refuses y r.0 tests r.1 in
      (sym r.2 ∙ ap number (sym q), sym r.3 ∙ ap place_of (sym q), λ p. subst T n (of_all tests (g p))),
  λ h. (y, rw (false_of (all tests) (λ t. h.2 (f (all_of tests t)))) refl, sym h.0, sym h.1),
)

-- two bounds
between : (y : Refusal) (low n high : ℕ) → Exactly (need y (leb low n ∷ leb n high ∷ [])) (λ N P. (N ≡ number y) × (P ≡ place_of y) × (¬ ((low ≤ n) × (n ≤ high))))
between y low n high =
    needs y (leb low n ∷ leb n high ∷ []) ((low ≤ n) × (n ≤ high)) (λ t. (leb→le _ _ t.0, leb→le _ _ t.1.0)) (λ p. (le→leb _ _ p.0, (le→leb _ _ p.1, tt)))

-- one bound
above : (y : Refusal) (n high : ℕ) → Exactly (need y (leb n high ∷ [])) (λ N P. (N ≡ number y) × (P ≡ place_of y) × (high < n))
above y n high N P =
    let p = needs y (leb n high ∷ []) (n ≤ high) (λ t. leb→le _ _ t.0) (λ h. (le→leb _ _ h, tt)) N P in (
      λ e. let q = p.0 e in (q.0, q.1, let z = q.2 in omega arith),
      λ h. p.1 (h.0, h.1, λ z. omega (arith, h.2)),
    )

-- ---- a line on each member, seen after those before it

eaches : {A : Type 0} (y : ℕ → Refusal) (K : ℕ) → ((p : ℕ) → (number (y p) ≡ K) × (place_of (y p) ≡ p)) → (test : List A → A → Bool) (Q : List A → A → Type 0)
    → ((b : List A) (x : A) → T (test b x) → ¬ (Q b x)) → ((b : List A) (x : A) → test b x ≡ false → Q b x) → (xs : List A)
    → Exactly (need_each y test [] xs) (λ N P. (N ≡ K) × First Q xs P)
eaches y K line test Q no-q is-q xs N P = (
  λ r. let (p, f, q) = each_refuses y test Q no-q is-q xs r.0 r.1 in
      (sym r.2 ∙ ap number q ∙ (line p).0, subst (First Q xs) (sym (line p).1 ∙ sym (ap place_of q) ∙ r.3) f),
  λ h. (y P, refuses_each y test Q no-q is-q xs P h.1, (line P).0 ∙ sym h.0, (line P).1),
)

-- ---- the stages of the calls

odd_parts_lem : (b : ℕ) (ts : List ℤ) → Exactly (odd_parts b ts) (line3 b ts)
odd_parts_lem b ts =
    eaches no.OddPart 3 (λ p. (refl, refl)) _ (λ _ t. 2 ^ b ≤ odd_of t) (λ _ t h k. omega (arith, ltb→lt (odd_of t) (2 ^ b) h)) (λ _ t e. above_of (odd_of t) (2 ^ b) e) ts
  where
    above_of : (m n : ℕ) → ltb m n ≡ false → n ≤ m
    above_of m n e = go (λ h. subst T e (lt→ltb m n h))
      where
        go : (m < n → ⊥) → n ≤ m
        go f = omega arith

valid_rows_lem : (b : ℕ) (xs : List Row) → Exactly (valid_rows b xs) (line6 b xs)
valid_rows_lem b xs =
    eaches no.Row 6 (λ p. (refl, refl)) (does_fit (limit b)) (λ before x. ¬ (ValidRow b before x)) (λ before x t n. n (row_of_test b before x t))
    (λ before x e f. subst T e (test_of_row b before x f)) xs

-- a target is served exactly if its odd part is at most 1 or some row's value
module _ (xs : List Row) where
  abbrev Missing : ℤ → Type 0
  Missing t = (1 < odd_of t) × (¬ Memᴰ (odd_of t) (values xs))

  served_not : (t : ℤ) → T (is_served (values xs) t) → ¬ (Missing t)
  unfolding is_served
  served_not t h m =
      ⊎_elim (λ a. let z = leb→le (odd_of t) 1 a in omega (arith, m.0)) (λ a. m.1 (has_in (values xs) (odd_of t) a)) (either_of (leb (odd_of t) 1) (has (values xs) (odd_of t)) h)

  missing_is : (t : ℤ) → is_served (values xs) t ≡ false → Missing t
  unfolding is_served
  missing_is t e = (
    over_one (λ h. subst T e (of_left (leb (odd_of t) 1) (has (values xs) (odd_of t)) (le→leb (odd_of t) 1 h))),
    λ i. subst T e (of_right (leb (odd_of t) 1) (has (values xs) (odd_of t)) (in_has i)),
  )
    where
      over_one : (odd_of t ≤ 1 → ⊥) → 1 < odd_of t
      over_one f = omega arith

ready_values_lem : (b : ℕ) (vals : List ℕ) → Exactly (ready_values b vals) (line10values b vals)
ready_values_lem b vals =
    eaches no.Ready 10 (λ p. (refl, refl)) _ (λ _ v. ¬ ((v % 2 ≡ 1) × (v < 2 ^ (b + 1))))
    (λ _ v h n. let q = both_of (eqb (v % 2) 1) (ltb v (2 ^ limit b)) h in n (eqb→eq _ _ q.0, ltb→lt _ _ q.1))
    (λ _ v e p. subst T e (of_both (eqb (v % 2) 1) (ltb v (2 ^ limit b)) (eqb_of_eq _ _ p.0) (lt→ltb _ _ p.1))) vals

admit_told : (b : ℕ) (ts : List ℤ) → Told (admit_order b ts) (admit_table b ts)
admit_told b ts = (between no.Bits 2 b 16, (between no.List 1 (length ts) 16, (odd_parts_lem b ts, tt)))

row_count_lem : (n : ℕ) (w : List ℕ) → Exactly (row_count n w) (line5 n w)
row_count_lem n w =
    needs no.RowCount (row_tests n w) ((n ≤ 128) × (7 * n ≤ length w))
    (λ t. (leb→le _ _ t.0, leb→le _ _ t.1.0)) (λ p. (le→leb _ _ p.0, (le→leb _ _ p.1, tt)))

target_told : (b c : ℕ) → Exactly (target b c) (line11 b c)
target_told b c =
    needs no.Target (eqb (c % 2) 1 ∷ ltb c (2 ^ b) ∷ []) ((c % 2 ≡ 1) × (c < 2 ^ b)) (λ t. (eqb→eq _ _ t.0, ltb→lt _ _ t.1.0))
    (λ p. (eqb_of_eq _ _ p.0, (lt→ltb _ _ p.1, tt)))

check_told : (b : ℕ) (ts : List ℤ) (n : ℕ) (w : List ℕ) → Told (check_order b ts n w) (check_table b ts n w)
check_told b ts n w =
    let xs = rows n w in
    told_append (admit_order b ts) (row_count n w ∷ valid_rows b xs ∷ all_served xs ts ∷ []) (admit_table b ts)
    (line5 n w ∷ line6 b xs ∷ line7 xs ts ∷ []) (admit_told b ts)
    (row_count_lem n w, (valid_rows_lem b xs, (eaches no.Unserved 7 (λ p. (refl, refl)) _ (λ _ t. Missing xs t) (λ _ t. served_not xs t) (λ _ t. missing_is xs t) ts, tt)))

width_told : (b : ℕ) (ts : List ℤ) (n : ℕ) (w : List ℕ) (input : ℕ) → Told (sized_order b ts n w input) (width_table b ts n w input)
width_told b ts n w input = told_last (check_order b ts n w) (check_table b ts n w) (check_told b ts n w) (input_width input) (line9 input) (between no.Width 2 input 32)

generate_told : (b : ℕ) (ts : List ℤ) (room : ℕ) → Told (generate_order b ts room) (generate_table b ts room)
generate_told b ts room =
    let xs = generated b ts in
    told_append (admit_order b ts) (buffer (row_length * most_rows) room ∷ few_rows xs ∷ []) (admit_table b ts)
    (line4 896 room ∷ line8 xs ∷ []) (admit_told b ts)
    (above no.Buffer 896 room, (above no.TooManyRows (length xs) 128, tt))

distance_stages : (b : ℕ) (vals : List ℕ) (c : ℕ) → Told (distance_order b vals c) (distance_table b vals c)
distance_stages b vals c =
    (between no.Bits 2 b 16, (between (no.Ready 0) 1 (length vals) 129, (ready_values_lem b vals, (target_told b c, tt))))

-- the stages of a job, and their lines
pub job_told : (j : Asked) → Told (job_order j) (job_lines j)
job_told j =
    let b = bits_of j.head in
    let xs = generated b j.targets in
    told_append (admit_order b j.targets) (few_rows xs ∷ input_width (input_of j.head) ∷ []) (admit_table b j.targets)
    (line8 xs ∷ line9 (input_of j.head) ∷ []) (admit_told b j.targets)
    (above no.TooManyRows (length xs) 128, (between no.Width 2 (input_of j.head) 32, tt))

-- ---- calls whose answers are of this shape, or of another

both_ways : {A B C : Type 0} → A ↔ B → B ↔ C → A ↔ C
both_ways f g = (λ p. g.0 (f.0 p), λ r. f.1 (g.1 r))

-- what is told is a refusal exactly if the stages refuse
told_refused : {A : Type 0} (a : Answer) (x : A) (why : Refusal) → (told a x ≡ Err why) ↔ (a ≡ Err why)
told_refused a x why = (λ e. told_refuses a x why (sym e), λ e. ap (λ a. told a x) e)

-- the stages' answer, given as r
module _ (xs : List Answer) (Ls : List Situation) (t : Told xs Ls) where
  by_stages : (r : Answer) → r ≡ first_of xs → (N P : ℕ) → IsRefusal r N P ↔ FirstOf Ls N P
  by_stages r e N P = both_ways (λ q. (q.0, sym e ∙ q.1, q.2, q.3), λ q. (q.0, e ∙ q.1, q.2, q.3)) (exactly xs Ls t N P)

  by_told : {A : Type 0} (r : Result A Refusal) (x : A) → r ≡ told (first_of xs) x → (N P : ℕ) → IsRefusal r N P ↔ FirstOf Ls N P
  by_told r x e N P =
      both_ways (
        λ q. (q.0, (told_refused (first_of xs) x q.0).0 (sym e ∙ q.1), q.2, q.3),
        λ q. (q.0, e ∙ (told_refused (first_of xs) x q.0).1 q.1, q.2, q.3),
      ) (exactly xs Ls t N P)

-- ---- what is written on refusal

still : {A : Type 0} (a : Answer) (why : Refusal) (ws before after : List A) → a ≡ Err why → after ≡ over (given a ws) before → after ≡ before
still (Ok _) why ws before after e f = never_both why e
still (Err y) why ws before after e f = f ∙ over_none before

still_told : {A B : Type 0} (a : Answer) (x : B) (why : Refusal) (ws before after : List A) → Err why ≡ told a x → after ≡ over (given a ws) before → after ≡ before
still_told a x why ws before after e f = still a why ws before after (told_refuses a x why e) f

-- ---- the calls

-- a call that answers a definition's value
by_value : {A : Type 0} (d : Result A Refusal) (Ls : List Situation) → ((r : Result A Refusal) → r ≡ d → (N P : ℕ) → IsRefusal r N P ↔ FirstOf Ls N P)
    → Refuses (λ r. r ≡ d) Ls
by_value d Ls e = record { answers = (d, refl); one_answer = λ r q a b. a ∙ sym b; exactly = e }

-- a call that writes what a definition says: it has an answer, and no other
module _ {R A : Type 0} (d : ℕ → R) (w : ℕ → List A) where
  abbrev Does : R → List A → List A → Type 0
  Does r before after = Done (d (length before)) (w (length before)) r before after

  some_done : (before : List A) → (r : R) × (after : List A) × Does r before after
  some_done before = (d (length before), over (w (length before)) before, record { answers = refl; writes = refl })

  no_other : (r q : R) (before after later : List A) → Does r before after → Does q before later → (r ≡ q) × (after ≡ later)
  no_other r q before after later x y = one_done (d (length before)) (w (length before)) before r q after later x y

module _ (b : ℕ) (ts : List ℤ) where
  pub admit : Refuses (Admits b ts) (admit_table b ts)
  unfolding admitted
  admit = by_value _ (admit_table b ts) (by_stages (admit_order b ts) (admit_table b ts) (admit_told b ts))

  pub generate : RefusesLent (Generates b ts) (generate_table b ts)
  unfolding drawn_told drawn rows_written
  generate =
      record {
        answers = some_done (drawn_told b ts) (rows_written b ts);
        one_answer = no_other (drawn_told b ts) (rows_written b ts);
        exactly = λ r before after d.
            by_told (generate_order b ts (length before)) (generate_table b ts (length before)) (generate_told b ts (length before)) r _ d.answers;
        quiet = λ why before after d. still_told _ _ why _ before after d.answers d.writes;
      }

  module _ (n : ℕ) (w : List ℕ) where
    pub check : Refuses (Checks b ts n w) (check_table b ts n w)
    unfolding checked
    check = by_value _ (check_table b ts n w) (by_stages (check_order b ts n w) (check_table b ts n w) (check_told b ts n w))

    pub check_width : (input : ℕ) → Refuses (ChecksWidth b ts n w input) (width_table b ts n w input)
    unfolding sized
    check_width input = by_value _ (width_table b ts n w input) (by_stages (sized_order b ts n w input) (width_table b ts n w input) (width_told b ts n w input))

    pub multiply : (x : ℤ) → RefusesLent (Multiplies b ts n w x) (λ room. check_table b ts n w ++ (line4 (length ts) room ∷ []))
    unfolding multiplied products_written
    multiply x =
        record {
          answers = some_done (multiplied b ts n w) (products_written b ts n w x);
          one_answer = no_other (multiplied b ts n w) (products_written b ts n w x);
          exactly = λ r before after d.
              by_stages (products_order b ts n w (length before)) (check_table b ts n w ++ (line4 (length ts) (length before) ∷ []))
              (told_last (check_order b ts n w) (check_table b ts n w) (check_told b ts n w) (buffer (length ts) (length before)) (line4 (length ts) (length before)) (above no.Buffer (length ts) (length before)))
              r d.answers;
          quiet = λ why before after d. still _ why _ before after (sym d.answers) d.writes;
        }

    pub measure : (input : ℕ) → RefusesLent (Measures b ts n w input) (λ room. width_table b ts n w input ++ (line4 (n + length ts) room ∷ []))
    unfolding measured widths_written
    measure input =
        record {
          answers = some_done (measured b ts n w input) (widths_written b ts n w input);
          one_answer = no_other (measured b ts n w input) (widths_written b ts n w input);
          exactly = λ r before after d.
              by_stages (widths_order b ts n w input (length before)) (width_table b ts n w input ++ (line4 (n + length ts) (length before) ∷ []))
              (told_last (sized_order b ts n w input) (width_table b ts n w input) (width_told b ts n w input) (buffer (n + length ts) (length before)) (line4 (n + length ts) (length before)) (above no.Buffer (n + length ts) (length before)))
              r d.answers;
          quiet = λ why before after d. still _ why _ before after (sym d.answers) d.writes;
        }

    pub rank : (input : ℕ) → RefusesLent (Ranks b ts n w input) (λ room. width_table b ts n w input ++ (line4 n room ∷ []))
    unfolding ranked ranking_written
    rank input =
        record {
          answers = some_done (ranked b ts n w input) (ranking_written b ts n w input);
          one_answer = no_other (ranked b ts n w input) (ranking_written b ts n w input);
          exactly = λ r before after d.
              by_stages (ranking_order b ts n w input (length before)) (width_table b ts n w input ++ (line4 n (length before) ∷ []))
              (told_last (sized_order b ts n w input) (width_table b ts n w input) (width_told b ts n w input) (buffer n (length before)) (line4 n (length before)) (above no.Buffer n (length before)))
              r d.answers;
          quiet = λ why before after d. still _ why _ before after (sym d.answers) d.writes;
        }

pub distance_refuses : (b : ℕ) (vals : List ℕ) (c : ℕ) → Refuses (Distances b vals c) (distance_table b vals c)
unfolding distance_told
distance_refuses b vals c =
    by_value _ (distance_table b vals c) (λ r e.
    by_told (distance_order b vals c) (distance_table b vals c) (distance_stages b vals c) r _ e)

-- a buffer alone
module _ (needed room : ℕ) where
  only : (a : Answer) → first_of (a ∷ []) ≡ a
  only (Ok _) = refl
  only (Err y) = refl

  by_room : (r : Answer) → r ≡ buffer needed room → (N P : ℕ) → IsRefusal r N P ↔ FirstOf (line4 needed room ∷ []) N P
  by_room r e = by_stages (buffer needed room ∷ []) (line4 needed room ∷ []) (above no.Buffer needed room, tt) r (e ∙ sym (only (buffer needed room)))

  by_room_told : {A : Type 0} (r : Result A Refusal) (x : A) → r ≡ told (buffer needed room) x → (N P : ℕ) → IsRefusal r N P ↔ FirstOf (line4 needed room ∷ []) N P
  by_room_told r x e =
      by_told (buffer needed room ∷ []) (line4 needed room ∷ []) (above no.Buffer needed room, tt) r x (e ∙ ap (λ a. told a x) (sym (only (buffer needed room))))

pub apart : (t : ℤ) → RefusesLent (TakesApart t) (λ room. line4 3 room ∷ [])
unfolding apart_told apart_written
apart t =
    record {
      answers = some_done apart_told (apart_written t);
      one_answer = no_other apart_told (apart_written t);
      exactly = λ r before after d. by_room 3 (length before) r d.answers;
      quiet = λ why before after d. still _ why _ before after (sym d.answers) d.writes;
    }

pub canonic : (t : ℤ) → RefusesLent (WritesForm t) (λ room. line4 2 room ∷ [])
unfolding canonic_told canonic_written
canonic t =
    record {
      answers = some_done (canonic_told t) (canonic_written t);
      one_answer = no_other (canonic_told t) (canonic_written t);
      exactly = λ r before after d. by_room_told 2 (length before) r _ d.answers;
      quiet = λ why before after d. still_told _ _ why _ before after d.answers d.writes;
    }

pub print : (s : List ℕ) → RefusesLent (Prints s) (λ room. line4 8769 room ∷ [])
unfolding printed_told text_written
print s =
    record {
      answers = some_done (printed_told s) (text_written s);
      one_answer = no_other (printed_told s) (text_written s);
      exactly = λ r before after d. by_room_told 8769 (length before) r _ d.answers;
      quiet = λ why before after d. still_told _ _ why _ before after d.answers d.writes;
    }
