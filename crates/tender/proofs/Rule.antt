-- The generator's rows are those of document 01's rule: the first choices, the steps A, B and C, and the end. Assumes nothing.
use mathlib.Core.Path.{◌≡◌, refl, sym, ap, ◌∙◌, subst, subst⁻¹}
use mathlib.Core.Bool.{Bool, true, false, cond}
use mathlib.Core.List.{List, [], ◌∷◌, ◌++◌, append-nil, append_assoc, Memᴰ}
use mathlib.Core.Logic.{◌⊎◌, inl, inr, ⊎_elim}
use Rattle.std.specs.Prelude.{Some, None}
use Prim.Native.Nat.{ℕ, zero, suc, ◌+◌, ◌-◌, ◌*◌, ◌^◌, ◌≤◌, ◌<◌}
use native.Mathlib.Numerals.{add-one}
use native.Mathlib.Omega.{arith}
use borrow.Author.Tests.{le-ltb}
use lib.Dec.{T}
use lib.IntN.{ℤ, pos, ◌+ℤ◌}
use lib.ListN.{length}
use Rattle.meaning.specs.declared.Prefix.{Prefix}
use Rattle.meaning.specs.declared.Row.{Row}
use Rattle.meaning.specs.Basics.{has, index_from}
use Rattle.meaning.specs.Limits.{limit}
use Rattle.meaning.specs.Constants.{wanted, Ascending}
use Rattle.meaning.specs.Digits.{Digit, minus, none, plus, worth, prefixes_from, prefixes}
use Rattle.meaning.specs.Graph.{Fits}
use Rattle.meaning.specs.Generator.{row_for, remaining, rule_a, rule_b, prefix_row, rule_c, added, Draft, turn, turns, generated}
use Rattle.meaning.specs.Refusals.{Accepted, admitted}
use Rattle.laws.proofs.Lists.Has.{in_has, has_in}
use Rattle.laws.proofs.Lists.Index.{index_is, index_lowest}
use Rattle.laws.proofs.Lists.Least.{Ordered, ascending_ordered}
use Rattle.laws.proofs.Lists.Tests.{T_of}
use Rattle.laws.proofs.Constants.Wanted.{wanted_ascending, all_wanted}
use Rattle.laws.proofs.Digits.Chain.{shifted_more}
use Rattle.laws.proofs.Refusals.Checked.{admitted_of}
use Rattle.laws.proofs.Generator.Choices.{ChoiceFits, choice_of, row_from, row_first}
use Rattle.laws.proofs.Generator.Rules.{a_least, a_none, b_least, b_none, added_by}
use Rattle.laws.proofs.Generator.Turn.{made_new}
use Rattle.laws.proofs.Generator.Remaining.{remaining_in, in_remaining, remaining_ascending, none_yet, all_made}
use Rattle.tender.specs.Words.{value_at, ByOne}
use Rattle.tender.specs.Rule.{ready_after, Remains, FirstChoice, StepA, StepB, FromPrefix, PrefixRows, ended, zero_digit, ready, gets_row, StepC, Follows, ends, goes_on}
use Rattle.tender.proofs.Rows.{row_of, of_row}
use Rattle.tender.proofs.Reach.{wanted_are, of_one, of_two}

-- ---- the row of a value

first_choice : (b : ℕ) (before : List Row) (c : ℕ) (x : Row) → row_for (limit b) before c ≡ Some x → FirstChoice b before x
first_choice b before c x e =
    let (q, f) = row_from (limit b) before c x e in
    let k = row_first (limit b) before c x e in
    record {
      valid = row_of b before x f;
      ordered = k.ordered;
      first = λ y p v h. k.first (choice_of y) (fits y (p ∙ q) (of_row b before y v)) h;
    }
  where
    fits : (y : Row) → y.value ≡ c → Fits (limit b) before y → ChoiceFits (limit b) (ready_after before) c (choice_of y)
    fits y p f =
        subst (λ z. ChoiceFits (limit b) (ready_after before) z (choice_of y)) p (record { first = f.first; second = f.second; operation = f.operation })

-- ---- the rows of the prefixes

-- one nonzero digit d, which brings the prefix of value q
module _ (before : List Row) (p g s q : ℕ) (d : Digit) (ds : List Digit) (ps : List Prefix) (sign : ((d ≡ plus) × (s ≡ 0)) ⊎ ((d ≡ minus) × (s ≡ 1)))
    (v : pos q ≡ pos (2 ^ g * p) +ℤ worth d) (i : Memᴰ p (ready_after before))
    (rest : (more : List Row) → Memᴰ q (ready_after more) → PrefixRows more q 1 ds (rule_c more ps)) where
  abbrev it : Prefix
  it = record { before = p; gap = g; s = s; value = q }

  abbrev row : Row
  row = prefix_row before it

  from_prefix : FromPrefix before p g d row
  from_prefix =
      let (k, e, l) = index_is 0 (ready_after before) p (in_has i) in
      let same : index_from 0 (ready_after before) p ≡ k = omega arith in
      record {
        from = ap (value_at before) same ∙ l.at;
        lowest = λ j h. index_lowest 0 (ready_after before) p j (omega arith);
        input = refl;
        gap = refl;
        unshifted = refl;
        sign = sign;
        whole = refl;
        value = v;
      }

  digit_rows : PrefixRows before p g (d ∷ ds) (rule_c before (it ∷ ps))
  unfolding rule_c
  digit_rows = go (has (ready_after before) q) refl
    where
      nonzero : ¬ (d ≡ none)
      nonzero e = ⊎_elim (λ k. let z : ◌≡◌ {A = ℕ} 0 1 = cc in omega arith) (λ k. let z : ◌≡◌ {A = ℕ} 0 1 = cc in omega arith) sign

      go : (t : Bool) → has (ready_after before) q ≡ t → PrefixRows before p g (d ∷ ds) (cond t (rule_c before ps) (row ∷ rule_c (before ++ (row ∷ [])) ps))
      go true e = let j = has_in (ready_after before) q (T_of e) in ready nonzero v j (rest before j)
      go false e =
          gets_row from_prefix (λ j. subst T e (in_has j))
          (rest (before ++ (row ∷ [])) (has_in (ready_after (before ++ (row ∷ []))) q (made_new before (row ∷ []) q (Memᴰ.head refl))))

prefix_rows_lem : (before : List Row) (p g : ℕ) (ds : List Digit) → Memᴰ p (ready_after before) → 1 ≤ p → 1 ≤ g
    → PrefixRows before p g ds (rule_c before (prefixes_from p g ds))
unfolding prefixes_from
prefix_rows_lem before p g [] i h l = unfold rule_c in ended
prefix_rows_lem before p g (none ∷ ds) i h l =
    zero_digit
    (subst⁻¹ (λ k. PrefixRows before p (suc g) ds (rule_c before (prefixes_from p k ds))) (add-one g) (prefix_rows_lem before p (suc g) ds i h (omega arith)))
prefix_rows_lem before p g (plus ∷ ds) i h l =
    digit_rows before p g 0 (2 ^ g * p + 1) plus ds (prefixes_from (2 ^ g * p + 1) 1 ds) (inl (refl, refl)) refl i
    (λ more j. prefix_rows_lem more (2 ^ g * p + 1) 1 ds j (omega arith) (omega arith))
prefix_rows_lem before p g (minus ∷ ds) i h l =
    let m = shifted_more g p h l in
    digit_rows before p g 1 (2 ^ g * p - 1) minus ds (prefixes_from (2 ^ g * p - 1) 1 ds) (inr (refl, refl)) (simp (le-ltb (2 ^ g * p) 1 (omega arith))) i
    (λ more j. prefix_rows_lem more (2 ^ g * p - 1) 1 ds j (omega arith) (omega arith))

-- ---- the steps, where cs is what remains

module _ (b : ℕ) (ts : List ℤ) (before : List Row) (cs : List ℕ) (left : remaining (ready_after before) (wanted ts) ≡ cs) where
  remains_of : (c : ℕ) → Memᴰ c cs → Remains ts before c
  remains_of c i =
      let (j, n) = remaining_in (ready_after before) (wanted ts) c (subst⁻¹ (Memᴰ c) left i) in
      record { wanted = (wanted_are ts c).0 j; missing = λ m. n (in_has m) }

  of_remains : (c : ℕ) → Remains ts before c → Memᴰ c cs
  of_remains c r =
      subst (Memᴰ c) left
      (in_remaining (ready_after before) (wanted ts) c ((wanted_are ts c).1 r.wanted) (λ t. r.missing (has_in (ready_after before) c t)))

  ascending : Ascending cs
  ascending = subst Ascending left (remaining_ascending (ready_after before) (wanted ts) (wanted_ascending ts))

  step_a : (new : List Row) → rule_a (limit b) before cs ≡ Some new → StepA b ts before new
  step_a new e =
      let k = a_least (limit b) before cs new ascending e in
      let q = (row_from (limit b) before k.which k.row k.by).0 in
      record {
        row = k.row;
        remains = subst⁻¹ (Remains ts before) q (remains_of k.which k.is_in);
        smallest = λ c r o. let n = k.least c (of_remains c r) (of_one b (ready_after before) c o) in omega arith;
        choice = first_choice b before k.which k.row k.by;
        adds = k.are;
      }

  module _ (n : rule_a (limit b) before cs ≡ None) where
    none_at_1 : (c : ℕ) → Remains ts before c → ¬ (ByOne b (ready_after before) c)
    none_at_1 c r o = a_none (limit b) before cs n c (of_remains c r) (of_one b (ready_after before) c o)

    step_b : (new : List Row) → rule_b (limit b) before cs ≡ Some new → StepB b ts before new
    step_b new e =
        let k = b_least (limit b) before cs n new ascending e in
        let p = (row_from (limit b) before k.s k.first k.by_first).0 in
        let q = (row_from (limit b) (before ++ (k.first ∷ [])) k.which k.second k.by_second).0 in
        record {
          first = k.first;
          second = k.second;
          remains = subst⁻¹ (Remains ts before) q (remains_of k.which k.is_in);
          none_at_1 = none_at_1;
          smallest = λ c r o.
              let w = of_two b (ready_after before) c o in
              let z : ¬ (c < k.which) = λ h. k.least c w.s (of_remains c r) w.first w.second (inl h) in
              omega arith;
          smallest_s = λ s o t.
              let u = of_one b (s ∷ ready_after before) k.which (subst (ByOne b (s ∷ ready_after before)) q t) in
              let z : ¬ (s < k.s) = λ h. k.least k.which s k.is_in (of_one b (ready_after before) s o) u (inr (refl, h)) in
              omega arith;
          first_choice = first_choice b before k.s k.first k.by_first;
          second_choice = first_choice b (before ++ (k.first ∷ [])) k.which k.second k.by_second;
          adds = k.are;
        }

module _ (b : ℕ) (ts : List ℤ) (before : List Row) (c : ℕ) (cs : List ℕ) (left : remaining (ready_after before) (wanted ts) ≡ c ∷ cs) where
  step_c : rule_a (limit b) before (c ∷ cs) ≡ None → rule_b (limit b) before (c ∷ cs) ≡ None → StepC b ts before (rule_c before (prefixes c))
  unfolding prefixes Ordered
  step_c n e =
      record {
        constant = c;
        remains = remains_of b ts before (c ∷ cs) left c (Memᴰ.head refl);
        none_at_1 = none_at_1 b ts before (c ∷ cs) left n;
        none_at_2 = λ d r o. b_none (limit b) before (c ∷ cs) n e d (of_remains b ts before (c ∷ cs) left d r) (of_two b (ready_after before) d o);
        smallest = λ d r.
            let z : ¬ (d < c) = (ascending_ordered (c ∷ cs) (ascending b ts before (c ∷ cs) left)).0 d (of_remains b ts before (c ∷ cs) left d r) in omega arith;
        adds = prefix_rows_lem before 1 1 _ (Memᴰ.head refl) (omega arith) (omega arith);
      }

  a_step : let new = added (limit b) before (c ∷ cs) in StepA b ts before new ⊎ (StepB b ts before new ⊎ StepC b ts before new)
  a_step =
      added_by (λ new. StepA b ts before new ⊎ (StepB b ts before new ⊎ StepC b ts before new)) (limit b) before c cs
      (λ new e. inl (step_a b ts before (c ∷ cs) left new e))
      (λ new n e. inr (inl (step_b b ts before (c ∷ cs) left n new e)))
      (λ n e. inr (inr (step_c n e)))

-- ---- the rule

-- what k turns add, where nothing remains after them
module _ (b : ℕ) (ts : List ℤ) where
  abbrev Adds : ℕ → Draft → Type 0
  Adds k d = (more : List Row) × ((turns (limit b) k (wanted ts) d).rows ≡ d.rows ++ more) × Follows b ts d.rows more

  turns_follow : (k : ℕ) (d : Draft) → ((c : ℕ) → Memᴰ c (wanted ts) → T (has (ready_after (turns (limit b) k (wanted ts) d).rows) c)) → Adds k d
  unfolding turns turn
  turns_follow zero d h =
      ([], sym (append-nil d.rows), ends (λ c r. r.missing (has_in (ready_after d.rows) c (h c ((wanted_are ts c).1 r.wanted)))))
  turns_follow (suc k) d h = go (remaining (ready_after made) (wanted ts)) refl (turns_follow k (turn (limit b) (wanted ts) d) h)
    where
      made : List Row
      made = d.rows

      go : (cs : List ℕ) → remaining (ready_after made) (wanted ts) ≡ cs → Adds k (turn (limit b) (wanted ts) d) → Adds (suc k) d
      go [] e (more, q, f) =
          let same : (turn (limit b) (wanted ts) d).rows ≡ made = ap (λ cs. made ++ added (limit b) made cs) e ∙ unfold added in (append-nil made) in
          (more, q ∙ ap (λ x. x ++ more) same, subst (λ x. Follows b ts x more) same f)
      go (c ∷ cs) e (more, q, f) =
          let new = added (limit b) made (c ∷ cs) in
          let same : (turn (limit b) (wanted ts) d).rows ≡ made ++ new = ap (λ cs. made ++ added (limit b) made cs) e in
          (new ++ more, q ∙ ap (λ x. x ++ more) same ∙ append_assoc made new more, goes_on (a_step b ts made c cs e) (subst (λ x. Follows b ts x more) same f))

pub follows : (b : ℕ) (ts : List ℤ) → admitted b ts ≡ Accepted → Follows b ts [] (generated b ts)
unfolding generated
follows b ts e =
    let (more, q, f) = turns_follow b ts (length (wanted ts)) none_yet (all_made b (wanted ts) (all_wanted b ts (admitted_of b ts e))) in
    subst⁻¹ (Follows b ts []) q f
