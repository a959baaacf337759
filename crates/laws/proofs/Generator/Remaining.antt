-- What remains: each turn takes the cost of its rows off the remaining sum, and one constant or more off what remains. So the generator's rows are at
-- most condition 3's sum, and in the end nothing remains. Assumes nothing.
use mathlib.Core.Path.{◌≡◌, refl, ap, ◌∙◌, subst, subst⁻¹}
use mathlib.Core.Bool.{Bool, true, false, cond}
use mathlib.Core.List.Memᴰ
use mathlib.Core.List.{List, [], ◌∷◌, ◌++◌, append-nil, Memᴰ}
use mathlib.Core.Logic.{◌⊎◌, inl, inr, ⊎_elim}
use Prim.Native.Nat.{ℕ, zero, suc, ◌+◌, ◌-◌, ◌≤◌}
use native.Mathlib.Omega.{arith}
use lib.Dec.{T}
use lib.IntN.{ℤ}
use lib.ListN.{length, length-append}
use Rattle.meaning.specs.declared.Row.{Row}
use Rattle.meaning.specs.Basics.{has, sum_of}
use Rattle.meaning.specs.Limits.{limit}
use Rattle.meaning.specs.Constants.{wanted, Ascending}
use Rattle.meaning.specs.Graph.{values, ready}
use Rattle.meaning.specs.Digits.{cost, csd_sum}
use Rattle.meaning.specs.Generator.{remaining, added, Draft, turn, turns, generated}
use Rattle.meaning.specs.Refusals.{Accepted, admitted}
use Rattle.laws.proofs.Lists.Tests.{T_of}
use Rattle.laws.proofs.Graph.Rows.{ready_append}
use Rattle.laws.proofs.Refusals.Checked.{admitted_of}
use Rattle.laws.proofs.Constants.Wanted.{AllWanted, all_wanted}
use Rattle.laws.proofs.Generator.Turn.{has_left, added_makes}

pub remaining_in : (vals cs : List ℕ) (d : ℕ) → Memᴰ d (remaining vals cs) → Memᴰ d cs × (T (has vals d) → ⊥)
unfolding remaining
remaining_in vals [] d i = absurd (Memᴰ.not-nil i)
remaining_in vals (c ∷ cs) d i = go (has vals c) refl i (λ j. remaining_in vals cs d j)
  where
    go : (b : Bool) → has vals c ≡ b → Memᴰ d (cond b (remaining vals cs) (c ∷ remaining vals cs))
        → (Memᴰ d (remaining vals cs) → Memᴰ d cs × (T (has vals d) → ⊥)) → Memᴰ d (c ∷ cs) × (T (has vals d) → ⊥)
    go true e j rec = let r = rec j in (Memᴰ.tail r.0, r.1)
    go false e j rec =
        ⊎_elim (λ q. (Memᴰ.head q, λ t. subst T e (subst (λ z. T (has vals z)) q t))) (λ k. let r = rec k in (Memᴰ.tail r.0, r.1))
        (Memᴰ.cases_cons j)

pub in_remaining : (vals cs : List ℕ) (d : ℕ) → Memᴰ d cs → (T (has vals d) → ⊥) → Memᴰ d (remaining vals cs)
unfolding remaining
in_remaining vals [] d i n = absurd (Memᴰ.not-nil i)
in_remaining vals (c ∷ cs) d i n = go (has vals c) refl (Memᴰ.cases_cons i) (λ j. in_remaining vals cs d j n)
  where
    go : (b : Bool) → has vals c ≡ b → (d ≡ c) ⊎ Memᴰ d cs → (Memᴰ d cs → Memᴰ d (remaining vals cs))
        → Memᴰ d (cond b (remaining vals cs) (c ∷ remaining vals cs))
    go true e (inl q) rec = absurd (n (subst⁻¹ (λ z. T (has vals z)) q (T_of e)))
    go true e (inr j) rec = rec j
    go false e (inl q) rec = Memᴰ.head q
    go false e (inr j) rec = Memᴰ.tail (rec j)

pub remaining_ascending : (vals cs : List ℕ) → Ascending cs → Ascending (remaining vals cs)
unfolding remaining Ascending
remaining_ascending vals [] a = tt
remaining_ascending vals (c ∷ cs) a = go (has vals c) (remaining_ascending vals cs a.1)
  where
    go : (b : Bool) → Ascending (remaining vals cs) → Ascending (cond b (remaining vals cs) (c ∷ remaining vals cs))
    go true h = h
    go false h = (λ d i. a.0 d (remaining_in vals cs d i).0, h)

-- ---- a sum over what remains, for more ready values

module _ (f : ℕ → ℕ) (vals more : List ℕ) (m : (c : ℕ) → T (has vals c) → T (has more c)) where
  -- is no greater
  shrink : (cs : List ℕ) → sum_of f (remaining more cs) ≤ sum_of f (remaining vals cs)
  unfolding remaining sum_of
  shrink [] = omega arith
  shrink (c ∷ cs) = go (has vals c) (has more c) refl refl (shrink cs)
    where
      go : (a b : Bool) → has vals c ≡ a → has more c ≡ b → sum_of f (remaining more cs) ≤ sum_of f (remaining vals cs)
          → sum_of f (cond b (remaining more cs) (c ∷ remaining more cs)) ≤ sum_of f (cond a (remaining vals cs) (c ∷ remaining vals cs))
      go true true p q h = h
      go true false p q h = absurd (subst T q (m c (T_of p)))
      go false true p q h = omega arith
      go false false p q h = omega arith

  -- and less by what a newly ready one counts
  shrink_by : (d : ℕ) → T (has more d) → (T (has vals d) → ⊥) → (cs : List ℕ) → Memᴰ d cs → sum_of f (remaining more cs) + f d ≤ sum_of f (remaining vals cs)
  unfolding remaining sum_of
  shrink_by d y n [] i = absurd (Memᴰ.not-nil i)
  shrink_by d y n (c ∷ cs) i = go (has vals c) (has more c) refl refl (Memᴰ.cases_cons i) (shrink cs) (λ j. shrink_by d y n cs j)
    where
      go : (a b : Bool) → has vals c ≡ a → has more c ≡ b → (d ≡ c) ⊎ Memᴰ d cs → sum_of f (remaining more cs) ≤ sum_of f (remaining vals cs)
          → (Memᴰ d cs → sum_of f (remaining more cs) + f d ≤ sum_of f (remaining vals cs))
          → sum_of f (cond b (remaining more cs) (c ∷ remaining more cs)) + f d ≤ sum_of f (cond a (remaining vals cs) (c ∷ remaining vals cs))
      go true b p q (inl e) h k = absurd (n (subst⁻¹ (λ z. T (has vals z)) e (T_of p)))
      go false true p q (inl e) h k = let z : f d ≡ f c = ap f e in omega arith
      go false false p q (inl e) h k = absurd (subst T q (subst (λ z. T (has more z)) e y))
      go true true p q (inr j) h k = k j
      go true false p q (inr j) h k = absurd (subst T q (m c (T_of p)))
      go false true p q (inr j) h k = let z = k j in omega arith
      go false false p q (inr j) h k = let z = k j in omega arith

-- ---- a turn

-- the draft after one turn more
abbrev next : ℕ → List ℕ → Draft → Draft
next b cs d = turn (limit b) cs d

-- nothing remains, or the turn takes one that remains off each sum
data Turned (b : ℕ) (cs : List ℕ) (d : Draft) : Type 0 where
  idle : remaining (ready d.rows) cs ≡ [] → (next b cs d).rows ≡ d.rows → Turned b cs d
  takes : (c : ℕ) → length (next b cs d).rows ≤ length d.rows + cost c
      → ((f : ℕ → ℕ) → sum_of f (remaining (ready (next b cs d).rows) cs) + f c ≤ sum_of f (remaining (ready d.rows) cs)) → Turned b cs d

turned : (b : ℕ) (cs : List ℕ) (d : Draft) → AllWanted b cs → Turned b cs d
unfolding turn
turned b cs d w = go (remaining (ready made) cs) refl
  where
    made : List Row
    made = d.rows

    go : (rem : List ℕ) → remaining (ready made) cs ≡ rem → Turned b cs d
    go [] e = idle e (ap (λ r. made ++ added (limit b) made r) e ∙ unfold added in (append-nil made))
    go (c ∷ rest) e =
        let each : AllWanted b (c ∷ rest) = λ d i. w d (remaining_in (ready made) cs d (subst⁻¹ (Memᴰ d) e i)).0 in
        let t = added_makes b made c rest each in
        let new = added (limit b) made (c ∷ rest) in
        let i = remaining_in (ready made) cs t.which (subst⁻¹ (Memᴰ t.which) e t.is_in) in
        let same : made ++ added (limit b) made (remaining (ready made) cs) ≡ made ++ new = ap (λ r. made ++ added (limit b) made r) e in
        takes t.which
        (rw (same, length-append made new) (omega (arith, t.price)))
        (λ f. rw same
        (shrink_by f (ready made) (ready (made ++ new)) (λ d q. subst⁻¹ (λ l. T (has l d)) (ready_append made new) (has_left (ready made) (values new) d q))
        t.which t.made i.1 cs i.0))

-- ---- all the turns

-- the rows are paid for by what they take off the remaining sum
turns_pay : (b k : ℕ) (cs : List ℕ) (d : Draft) → AllWanted b cs → length (turns (limit b) k cs d).rows ≤ length d.rows + csd_sum (remaining (ready d.rows) cs)
unfolding turns
turns_pay b zero cs d w = omega arith
turns_pay b (suc k) cs d w = go (turned b cs d w) (turns_pay b k cs (next b cs d) w)
  where
    all : ℕ
    all = length (turns (limit b) k cs (next b cs d)).rows

    go : Turned b cs d → all ≤ length (next b cs d).rows + csd_sum (remaining (ready (next b cs d).rows) cs)
        → all ≤ length d.rows + csd_sum (remaining (ready d.rows) cs)
    go (idle e q) h = subst (λ x. all ≤ length x + csd_sum (remaining (ready x) cs)) q h
    go (takes c l s) h = omega (arith, s cost)

remaining_le : (f : ℕ → ℕ) (vals cs : List ℕ) → sum_of f (remaining vals cs) ≤ sum_of f cs
unfolding remaining sum_of
remaining_le f vals [] = omega arith
remaining_le f vals (c ∷ cs) = go (has vals c) (remaining_le f vals cs)
  where
    go : (b : Bool) → sum_of f (remaining vals cs) ≤ sum_of f cs → sum_of f (cond b (remaining vals cs) (c ∷ remaining vals cs)) ≤ f c + sum_of f cs
    go true h = omega arith
    go false h = omega arith

-- from no rows
abbrev pub none_yet : Draft
none_yet = record { rows = [] }

pub turns_few : (b k : ℕ) (cs : List ℕ) → AllWanted b cs → length (turns (limit b) k cs none_yet).rows ≤ csd_sum cs
turns_few b k cs w = omega (arith, turns_pay b k cs none_yet w, remaining_le cost (1 ∷ []) cs)

-- condition 3's sum
pub generated_few : (b : ℕ) (ts : List ℤ) → admitted b ts ≡ Accepted → length (generated b ts) ≤ csd_sum (wanted ts)
unfolding generated
generated_few b ts e = turns_few b (length (wanted ts)) (wanted ts) (all_wanted b ts (admitted_of b ts e))

-- ---- in the end nothing remains

abbrev one : ℕ → ℕ
one c = 1

turns_clear : (b k : ℕ) (cs : List ℕ) (d : Draft) → AllWanted b cs
    → sum_of one (remaining (ready (turns (limit b) k cs d).rows) cs) ≤ sum_of one (remaining (ready d.rows) cs) - k
unfolding turns sum_of
turns_clear b zero cs d w = omega arith
turns_clear b (suc k) cs d w = go (turned b cs d w) (turns_clear b k cs (next b cs d) w)
  where
    left : ℕ
    left = sum_of one (remaining (ready (turns (limit b) k cs (next b cs d)).rows) cs)

    go : Turned b cs d → left ≤ sum_of one (remaining (ready (next b cs d).rows) cs) - k → left ≤ sum_of one (remaining (ready d.rows) cs) - suc k
    go (idle e q) h = omega (arith, ap (λ x. sum_of one (remaining (ready x) cs)) q, ap (sum_of one) e)
    go (takes c l s) h = omega (arith, s one)

sum_ones : (cs : List ℕ) → sum_of one cs ≡ length cs
unfolding sum_of
sum_ones [] = refl
sum_ones (c ∷ cs) = omega (arith, sum_ones cs)

none_left : (vals cs : List ℕ) → sum_of one (remaining vals cs) ≡ 0 → (c : ℕ) → Memᴰ c cs → T (has vals c)
unfolding remaining sum_of
none_left vals [] e c i = absurd (Memᴰ.not-nil i)
none_left vals (d ∷ cs) e c i = go (has vals d) refl e (Memᴰ.cases_cons i) (λ q j. none_left vals cs q c j)
  where
    go : (b : Bool) → has vals d ≡ b → sum_of one (cond b (remaining vals cs) (d ∷ remaining vals cs)) ≡ 0 → (c ≡ d) ⊎ Memᴰ c cs
        → (sum_of one (remaining vals cs) ≡ 0 → Memᴰ c cs → T (has vals c)) → T (has vals c)
    go true p e (inl q) rec = subst⁻¹ (λ z. T (has vals z)) q (T_of p)
    go true p e (inr j) rec = rec e j
    go false p e i rec = absurd (omega arith)

-- as many turns as there are constants make them all
pub all_made : (b : ℕ) (cs : List ℕ) → AllWanted b cs → (c : ℕ) → Memᴰ c cs → T (has (ready (turns (limit b) (length cs) cs none_yet).rows) c)
all_made b cs w =
    none_left (ready (turns (limit b) (length cs) cs none_yet).rows) cs
    (omega (arith, turns_clear b (length cs) cs none_yet w, remaining_le one (1 ∷ []) cs, sum_ones cs))
