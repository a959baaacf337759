-- What a caller can read off a code: whether the call refused, by which number and at what place. A place is at most 129 in every
-- call: targets (16), rows (128), a ready list's values (129); a job is refused in its text, and its code has no place. A contract
-- allows one code and one content of the lent slice. Assumes nothing.
use mathlib.Core.Path.{◌≡◌, refl, sym, ap, ap₂, ◌∙◌, subst}
use Rattle.std.specs.Prelude.{Result, Ok, Err}
use mathlib.Core.Bool.{Bool, false, cond, ◌&&◌}
use mathlib.Core.List.{List, [], ◌∷◌, ◌++◌}
use Prim.Native.Nat.{ℕ, zero, suc, ◌+◌, ◌*◌, ◌/◌, ◌%◌, ◌^◌, ◌<◌, ◌≤◌}
use native.Mathlib.Omega.{arith}
use lib.Dec.{T, eqb, leb, ltb, leb→le}
use lib.IntN.{ℤ, pos, neg_ℤ, nat_abs}
use lib.ListN.{length, length-append}
use Rattle.laws.proofs.Whole.Integers.{abs_neg}
use Rattle.meaning.specs.declared.Refusal.{Refusal}
use Rattle.meaning.specs.declared.Refusal.TheVariants as no
use Rattle.meaning.specs.Graph.{row_length, row_tests, rows, values, does_fit, is_served}
use Rattle.meaning.specs.Limits.{between, bit_tests, limit, most_targets, most_rows, most_ready, width_tests}
use Rattle.meaning.specs.Constants.{odd_of}
use Rattle.meaning.specs.Generator.{generated}
use Rattle.meaning.specs.Refusals.{Answer, Accepted, number, place_of, Done, need, need_each, first_of, bit_limit, list_length, row_count, valid_rows, all_served, input_width, buffer, few_rows, admit_order, check_order, products_order, widths_order, ranking_order, generate_order, distance_order, checked, multiplied, measured, ranked, drawn, apart_told}
use Rattle.laws.proofs.Graph.Rows.{length_rows}
use Rattle.laws.proofs.Refusals.Stages.{never_both, need_accepts, need_refuses}
use Rattle.laws.proofs.Refusals.Members.{each_refuses}
use Rattle.exports.specs.Codes.{minus, refusal_code, code, Coded}

-- ---- one code

pub one_told : {R : Type 0} (d : Result R Refusal) (told : R → ℕ) (r q : ℤ) → Coded (λ a. a ≡ d) told r → Coded (λ a. a ≡ d) told q → r ≡ q
one_told d told r q x y = x.coded ∙ ap (code told) (x.call ∙ sym y.call) ∙ sym y.coded

pub one_coded : {R A : Type 0} (d : Result R Refusal) (w before : List A) (told : R → ℕ) (r q : ℤ) (after later : List A)
    → Coded (λ a. Done d w a before after) told r → Coded (λ a. Done d w a before later) told q → (r ≡ q) × (after ≡ later)
one_coded d w before told r q after later x y =
    (x.coded ∙ ap (code told) (x.call.answers ∙ sym y.call.answers) ∙ sym y.coded, x.call.writes ∙ sym y.call.writes)

-- ---- number and place

some_number : (why : Refusal) → 1 ≤ number why
some_number no.Bits = omega arith
some_number no.List = omega arith
some_number (no.OddPart p) = omega arith
some_number no.Buffer = omega arith
some_number no.RowCount = omega arith
some_number (no.Row p) = omega arith
some_number (no.Unserved p) = omega arith
some_number no.TooManyRows = omega arith
some_number no.Width = omega arith
some_number (no.Ready p) = omega arith
some_number no.Target = omega arith
some_number (no.Job p) = omega arith

size : (why : Refusal) → nat_abs (refusal_code why) ≡ 1000 * number why + place_of why
unfolding refusal_code minus
size why = abs_neg (pos (1000 * number why + place_of why))

-- a code of 0 or more is no refusal's
pub refused_below_0 : (why : Refusal) (n : ℕ) → refusal_code why ≡ pos n → ⊥
unfolding refusal_code minus
refused_below_0 why n e = go (1000 * number why + place_of why) (let h = some_number why in omega arith) e
  where
    go : (k : ℕ) → 1 ≤ k → neg_ℤ (pos k) ≡ pos n → ⊥
    go zero h e = omega arith
    go (suc k) h e = let z : ◌≡◌ {A = ℕ} 0 1 = cc in omega arith

-- as include/tauwaage.h reads them
pub number_back : (why : Refusal) → place_of why < 1000 → nat_abs (refusal_code why) / 1000 ≡ number why
number_back why h = rw (size why) (omega arith)

pub place_back : (why : Refusal) → place_of why < 1000 → nat_abs (refusal_code why) % 1000 ≡ place_of why
place_back why h = rw (size why) (omega arith)

-- so one code is one refusal
line_of : ℕ → ℕ → Refusal
line_of n p =
    cond (eqb n 1) no.Bits (cond (eqb n 2) no.List (cond (eqb n 3) (no.OddPart p) (cond (eqb n 4) no.Buffer (cond (eqb n 5) no.RowCount
    (cond (eqb n 6) (no.Row p) (cond (eqb n 7) (no.Unserved p) (cond (eqb n 8) no.TooManyRows (cond (eqb n 9) no.Width
    (cond (eqb n 10) (no.Ready p) (cond (eqb n 11) no.Target (no.Job p)))))))))))

its_line : (why : Refusal) → line_of (number why) (place_of why) ≡ why
unfolding line_of
its_line no.Bits = refl
its_line no.List = refl
its_line (no.OddPart p) = refl
its_line no.Buffer = refl
its_line no.RowCount = refl
its_line (no.Row p) = refl
its_line (no.Unserved p) = refl
its_line no.TooManyRows = refl
its_line no.Width = refl
its_line (no.Ready p) = refl
its_line no.Target = refl
its_line (no.Job p) = refl

pub one_refusal : (x y : Refusal) → place_of x < 1000 → place_of y < 1000 → refusal_code x ≡ refusal_code y → x ≡ y
one_refusal x y h k e =
    sym (its_line x)
    ∙ ap₂ line_of
    (sym (number_back x h) ∙ ap (λ z. nat_abs z / 1000) e ∙ number_back y k)
    (sym (place_back x h) ∙ ap (λ z. nat_abs z % 1000) e ∙ place_back y k)
    ∙ its_line y

-- ---- the places of each call

abbrev pub Low : Answer → Type 0
Low a = (why : Refusal) → a ≡ Err why → place_of why ≤ 129

low_need : (why : Refusal) (tests : List Bool) → place_of why ≤ 129 → Low (need why tests)
low_need why tests h y e = subst (λ r. place_of r ≤ 129) (need_refuses why y tests e).1 h

-- a member's place is within its list
low_each : {A : Type 0} (why : ℕ → Refusal) (test : List A → A → Bool) (xs : List A)
    → ((p : ℕ) → place_of (why p) ≡ p) → length xs ≤ 129 → Low (need_each why test [] xs)
low_each why test xs g h y e =
    let (p, f, q) = each_refuses why test (λ b x. test b x ≡ false) (λ b x t u. T_not_false t u) (λ b x u. u) xs y e in
    subst (λ r. place_of r ≤ 129) (sym q)
    (omega (arith, g p, f.place, ap length f.split, length-append f.before (f.there ∷ f.behind)))
  where
    T_not_false : {b : Bool} → T b → b ≡ false → ⊥
    T_not_false t u = subst T u t

-- stages, each looked at where those before it accept
abbrev LowAll : List Answer → Type 0
LowAll [] = Unit {0}
LowAll (a ∷ rest) = Low a × (a ≡ Accepted → LowAll rest)

low_first : (stages : List Answer) → LowAll stages → Low (first_of stages)
low_first [] l why e = never_both why e
low_first (Ok _ ∷ rest) l why e = low_first rest (l.1 refl) why e
low_first (Err y ∷ rest) l why e = l.0 why e

low_bits : (b : ℕ) → Low (bit_limit b)
low_bits b = low_need no.Bits (bit_tests b) (omega arith)

abbrev list_tests : List ℤ → List Bool
list_tests ts = between 1 most_targets (length ts)

few_targets : (ts : List ℤ) → list_length ts ≡ Accepted → length ts ≤ 129
few_targets ts e = let q = leb→le (length ts) most_targets (need_accepts no.List (list_tests ts) e).1.0 in omega arith

low_admit : (b : ℕ) (ts : List ℤ) (rest : List Answer) → (list_length ts ≡ Accepted → LowAll rest) → LowAll (admit_order b ts ++ rest)
low_admit b ts rest r = (
  low_bits b,
  λ _. (
    low_need no.List (list_tests ts) (omega arith),
    λ e. (low_each no.OddPart (λ _ t. ltb (odd_of t) (2 ^ b)) ts (λ p. refl) (few_targets ts e), λ _. r e),
  ),
)

few_rows_lem : (n : ℕ) (w : List ℕ) → row_count n w ≡ Accepted → length (rows n w) ≤ 129
few_rows_lem n w e = let q = leb→le n most_rows (need_accepts no.RowCount (row_tests n w) e).0 in omega (arith, length_rows n w)

low_check : (b : ℕ) (ts : List ℤ) (n : ℕ) (w : List ℕ) (rest : List Answer) → LowAll rest → LowAll (check_order b ts n w ++ rest)
low_check b ts n w rest r =
    low_admit b ts (row_count n w ∷ valid_rows b (rows n w) ∷ all_served (rows n w) ts ∷ rest)
    (λ e. (
      low_need no.RowCount (row_tests n w) (omega arith),
      λ f. (
        low_each no.Row (does_fit (limit b)) (rows n w) (λ p. refl) (few_rows_lem n w f),
        λ _. (low_each no.Unserved (λ _ t. is_served (values (rows n w)) t) ts (λ p. refl) (few_targets ts e), λ _. r),
      ),
    ))

low_room : (needed room : ℕ) → Low (buffer needed room)
low_room needed room = low_need no.Buffer (leb needed room ∷ []) (omega arith)

low_sized : (input needed room : ℕ) → LowAll (input_width input ∷ buffer needed room ∷ [])
low_sized input needed room = (low_need no.Width (width_tests input) (omega arith), λ _. (low_room needed room, λ _. tt))

module _ (b : ℕ) (ts : List ℤ) (n : ℕ) (w : List ℕ) (input room : ℕ) where
  pub check_places : Low (checked b ts n w)
  unfolding checked
  check_places = low_first (check_order b ts n w) (low_check b ts n w [] tt)

  pub products_places : Low (multiplied b ts n w room)
  unfolding multiplied
  products_places = low_first (products_order b ts n w room) (low_check b ts n w (buffer (length ts) room ∷ []) (low_room (length ts) room, λ _. tt))

  pub widths_places : Low (measured b ts n w input room)
  unfolding measured
  widths_places = low_first (widths_order b ts n w input room) (low_check b ts n w (input_width input ∷ buffer (n + length ts) room ∷ []) (low_sized input (n + length ts) room))

  pub ranking_places : Low (ranked b ts n w input room)
  unfolding ranked
  ranking_places = low_first (ranking_order b ts n w input room) (low_check b ts n w (input_width input ∷ buffer n room ∷ []) (low_sized input n room))

  pub generate_places : Low (drawn b ts room)
  unfolding drawn
  generate_places =
      low_first (generate_order b ts room)
      (low_admit b ts (buffer (row_length * most_rows) room ∷ few_rows (generated b ts) ∷ [])
      (λ _. (low_room (row_length * most_rows) room, λ _. (low_need no.TooManyRows (leb (length (generated b ts)) most_rows ∷ []) (omega arith), λ _. tt))))

pub apart_places : (room : ℕ) → Low (apart_told room)
unfolding apart_told
apart_places room = low_room 3 room

pub canonic_places : (room : ℕ) → Low (buffer 2 room)
canonic_places room = low_room 2 room

pub distance_places : (b : ℕ) (vals : List ℕ) (c : ℕ) → Low (first_of (distance_order b vals c))
distance_places b vals c =
    low_first (distance_order b vals c) (
      low_bits b,
      λ _. (
        low_need (no.Ready 0) ready_tests (omega arith),
        λ e. (
          low_each no.Ready (λ _ v. eqb (v % 2) 1 && ltb v (2 ^ limit b)) vals (λ p. refl) (leb→le (length vals) most_ready (need_accepts (no.Ready 0) ready_tests e).1.0),
          λ _. (low_need no.Target (eqb (c % 2) 1 ∷ ltb c (2 ^ b) ∷ []) (omega arith), λ _. tt),
        ),
      ),
    )
  where
    ready_tests : List Bool
    ready_tests = between 1 most_ready (length vals)
