-- Condition 3 holds. Assumes nothing.
use mathlib.Core.Path.{◌≡◌, refl, sym, ap, ap₂, ◌∙◌, subst⁻¹}
use Rattle.std.specs.Prelude.{Result, Ok, Err}
use mathlib.Core.List.{List, [], ◌∷◌}
use mathlib.Core.Logic.{◌↔◌}
use Prim.Native.Nat.{ℕ, ◌+◌, ◌-◌, ◌*◌, ◌≤◌}
use native.Mathlib.Omega.{arith}
use lib.IntN.{ℤ, nat_abs}
use lib.ListN.{length, drop}
use Rattle.meaning.specs.declared.Far.{Far}
use Rattle.meaning.specs.declared.Refusal.{Refusal}
use Rattle.meaning.specs.Basics.{over, sum_of}
use Rattle.meaning.specs.Limits.{limit}
use Rattle.meaning.specs.Constants.{wanted, Ascending}
use Rattle.meaning.specs.Digits.{Digit, minus, none, plus, worth, is_nonzero, nonzeros, canonic, csd_sum}
use Rattle.meaning.specs.Distance.{distance}
use Rattle.meaning.specs.Graph.{flat}
use Rattle.meaning.specs.Generator.{generated}
use Rattle.meaning.specs.Refusals.{Answer, Accepted, told, drawn_told, first_of, distance_order}
use Rattle.meaning.specs.Calls.{Admits, Distances, Generates}
use Rattle.laws.proofs.Digits.Canonic.{canonic_is, canonic_only}
use Rattle.laws.proofs.Constants.Wanted.{wanted_ascending}
use Rattle.laws.proofs.Graph.Rows.{length_flat}
use Rattle.laws.proofs.Generator.Generated.{drawn_accepts, call_of, call_rows, call_accepted}
use Rattle.laws.proofs.Generator.Remaining.{generated_few}
use Rattle.laws.proofs.Generator.Shortest.{fewest}
use Rattle.laws.proofs.Distance.Distances.{distance_zero, distance_one, distance_two, distance_beyond, distance_same, distance_told_lem, distance_refused}
use Rattle.tender.specs.Condition3.{Condition3}
use Rattle.tender.specs.Words.{Ascends, nonzero_digits, digit_sum, NotRefused}
use Rattle.tender.specs.Rule.{Follows}
use Rattle.tender.proofs.Reach.{wanted_are, one_of, of_one, two_of, of_two}
use Rattle.tender.proofs.Rule.{follows}
use Rattle.tender.proofs.Condition2.{front_kept}

-- ---- the sum

digit_count : (d : Digit) → is_nonzero d ≡ nat_abs (worth d)
digit_count minus = refl
digit_count none = refl
digit_count plus = refl

pub count_is : (ds : List Digit) → nonzeros ds ≡ nonzero_digits ds
unfolding nonzeros
count_is [] = refl
count_is (d ∷ ds) = ap₂ ◌+◌ (digit_count d) (count_is ds)

pub sum_is : (cs : List ℕ) → csd_sum cs ≡ digit_sum cs
unfolding sum_of
sum_is [] = refl
sum_is (c ∷ cs) = ap₂ (λ n m. (n - 1) + m) (count_is (canonic c)) (sum_is cs)

ascends : (cs : List ℕ) → Ascending cs → Ascends cs
unfolding Ascending
ascends [] a = tt
ascends (c ∷ cs) a = (a.0, ascends cs a.1)

-- ---- the call

answered : (b : ℕ) (ts : List ℤ) (r : Result ℕ Refusal) (before after : List ℕ) → Generates b ts r before after → Admits b ts Accepted → 896 ≤ length before
    → (n : ℕ) × (r ≡ Ok n)
unfolding drawn_told
answered b ts r before after d a h =
    (length (generated b ts), d.answers ∙ ap (λ x. told x (length (generated b ts))) (drawn_accepts b ts (length before) (sym a) h))

kept : (b : ℕ) (ts : List ℤ) (n : ℕ) (before after : List ℕ) → Generates b ts (Ok n) before after
    → (length after ≡ length before) × (drop (7 * n) after ≡ drop (7 * n) before)
unfolding over
kept b ts n before after d =
    let k = call_of b ts n before after d in
    front_kept (flat (generated b ts)) before after (7 * n) (length_flat (generated b ts) ∙ ap (λ m. 7 * m) (sym k.count)) (omega (arith, k.room, k.few)) k.writes

-- ---- the distance

module _ (b : ℕ) (vals : List ℕ) (c : ℕ) where
  -- an answer that is no refusal is the distance
  answer : (r : Result Far Refusal) → Distances b vals c r → NotRefused r → r ≡ Ok (distance (limit b) vals c)
  answer r d n = go (first_of (distance_order b vals c)) refl
    where
      go : (a : Answer) → first_of (distance_order b vals c) ≡ a → r ≡ Ok (distance (limit b) vals c)
      go (Ok _) e = d ∙ distance_told_lem b vals c e
      go (Err why) e = absurd (n why (d ∙ distance_refused b vals c why e))

  told_as : (r : Result Far Refusal) (d : Far) (P Q : Type 0) → Distances b vals c r → NotRefused r → (distance (limit b) vals c ≡ d) ↔ P → (P → Q) → (Q → P) → (r ≡ Ok d) ↔ Q
  told_as r d P Q e n q f g = let a = answer r e n in (λ h. f (q.0 (same (sym a ∙ h))), λ p. a ∙ ap Ok (q.1 (g p)))
    where
      same : {x y : Far} → ◌≡◌ {A = Result Far Refusal} (Ok x) (Ok y) → x ≡ y
      same e = cc

pub condition3 : Condition3
condition3 =
    record {
      answered = answered;
      accepted = λ b ts n before after d. sym (call_accepted b ts n before after (call_of b ts n before after d));
      rows_are_generated = λ b ts n before after d. call_rows b ts n before after (call_of b ts n before after d);
      by_the_rule = λ b ts n before after d.
          let k = call_of b ts n before after d in subst⁻¹ (Follows b ts []) (call_rows b ts n before after k) (follows b ts k.admits);
      kept = kept;
      few_rows = λ b ts n before after d.
          let k = call_of b ts n before after d in omega (arith, generated_few b ts k.admits, k.count, sum_is (wanted ts));
      wanted_are = wanted_are;
      wanted_once = λ ts. ascends (wanted ts) (wanted_ascending ts);
      canonic_is = canonic_is;
      canonic_only = canonic_only;
      fewest = λ b ts c n before after d e h m w g.
          omega (arith, fewest b ts c m w e (omega (arith, count_is (canonic c))) (sym g), (call_of b ts n before after d).count);
      zero = λ b vals c r d n. told_as b vals c r _ _ _ d n (distance_zero (limit b) vals c) (λ p. p) (λ p. p);
      one = λ b vals c r d n.
          told_as b vals c r _ _ _ d n (distance_one (limit b) vals c) (λ p. (p.0, one_of b vals c p.1)) (λ p. (p.0, of_one b vals c p.1));
      two = λ b vals c r d n.
          told_as b vals c r _ _ _ d n (distance_two (limit b) vals c)
          (λ p. (p.0, (λ o. p.1 (of_one b vals c o)), two_of b vals c p.2)) (λ p. (p.0, (λ o. p.1 (one_of b vals c o)), of_two b vals c p.2));
      beyond = λ b vals c r d n.
          told_as b vals c r _ _ _ d n (distance_beyond (limit b) vals c)
          (λ p. (p.0, (λ o. p.1 (of_one b vals c o)), (λ o. p.2 (of_two b vals c o)))) (λ p. (p.0, (λ o. p.1 (one_of b vals c o)), (λ o. p.2 (two_of b vals c o))));
      same_values = λ b xs ys c r q d e n m s.
          answer b xs c r d n ∙ ap Ok (distance_same (limit b) xs ys c (λ a i. (s a).0 i) (λ a i. (s a).1 i)) ∙ sym (answer b ys c q e m);
    }
