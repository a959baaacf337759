-- What a turn makes: a constant that remains, at no more rows than its nonzero digits less one. Assumes nothing.
use mathlib.Core.Path.{◌≡◌, refl, sym, subst, subst⁻¹}
use mathlib.Core.Bool.{Bool, true, false, cond}
use mathlib.Core.List.Memᴰ
use mathlib.Core.List.{List, [], ◌∷◌, ◌++◌, append_assoc, append-nil, Memᴰ}
use Rattle.std.specs.Prelude.{Some, None, is_some}
use Prim.Native.Nat.{ℕ, suc, ◌≤◌, ◌<◌}
use native.Mathlib.Omega.{arith}
use lib.Dec.{T}
use lib.ListN.{length}
use Rattle.meaning.specs.declared.Prefix.{Prefix}
use Rattle.meaning.specs.declared.Row.{Row}
use Rattle.meaning.specs.Basics.{has}
use Rattle.meaning.specs.Limits.{limit}
use Rattle.meaning.specs.Operation.{Valid}
use Rattle.meaning.specs.Graph.{values, ready}
use Rattle.meaning.specs.Digits.{cost, prefixes}
use Rattle.meaning.specs.Generator.{row_for, rule_a, rule_b, prefix_row, rule_c, added}
use Rattle.laws.proofs.Lists.Tests.{T_of}
use Rattle.laws.proofs.Graph.Rows.{ready_append}
use Rattle.laws.proofs.Digits.Chain.{Chain, chain_is, length_prefixes, PrefixRow, prefix_row_lem}
use Rattle.laws.proofs.Lists.Has.{in_has, has_in}
use Rattle.laws.proofs.Generator.Choices.{row_got}
use Rattle.laws.proofs.Constants.Wanted.{Wanted, AllWanted}
use Rattle.laws.proofs.Generator.Rules.{a_from, a_got, b_from, added_by}

-- ---- the ready values

pub has_left : (vals more : List ℕ) (c : ℕ) → T (has vals c) → T (has (vals ++ more) c)
has_left vals more c t = in_has (Memᴰ.append_left more (has_in vals c t))

pub has_right : (vals more : List ℕ) (c : ℕ) → Memᴰ c more → T (has (vals ++ more) c)
has_right vals more c i = in_has (Memᴰ.append_right vals i)

-- ---- what a constant costs

chain_some : (ps : List Prefix) (c : ℕ) → 1 < c → Chain 1 ps c → 1 ≤ length ps
unfolding Chain
chain_some [] c h k = absurd (omega arith)
chain_some (p ∷ ps) c h k = omega arith

cost_one : (b c : ℕ) → Wanted b c → 1 ≤ cost c
cost_one b c w = omega (arith, length_prefixes c, chain_some (prefixes c) c w.above (chain_is c w.odd))

-- a constant with one prefix above 1 has a row on the input
one_got : (b c : ℕ) (before : List Row) (p : Prefix) → p.before ≡ 1 → p.value ≡ c → PrefixRow b p → T (is_some (row_for (limit b) before c))
one_got b c before p e q r =
    subst (λ z. T (is_some (row_for (limit b) before z))) q
    (row_got (limit b) before (record { u = 0; v = 0; l1 = p.gap; l2 = 0; s = p.s; r = 0; value = p.value })
    (record {
      first = omega arith;
      second = omega arith;
      operation = subst (λ z. Valid (limit b) z 1 p.gap 0 p.s 0 p.value) e r.valid;
    }))

cost_two : (b c : ℕ) (before : List Row) → Wanted b c → (T (is_some (row_for (limit b) before c)) → ⊥) → 2 ≤ cost c
unfolding Chain
cost_two b c before w n = omega (arith, length_prefixes c, go (prefixes c) (chain_is c w.odd) (λ p i. prefix_row_lem b c p w.odd w.below i))
  where
    go : (ps : List Prefix) → Chain 1 ps c → ((p : Prefix) → Memᴰ p ps → PrefixRow b p) → 2 ≤ length ps
    go [] k r = absurd (let h = w.above in omega arith)
    go (p ∷ []) k r = absurd (n (one_got b c before p k.0.before k.1 (r p (Memᴰ.head refl))))
    go (p ∷ q ∷ ps) k r = omega arith

-- ---- what a turn makes

-- one of the constants, at no more rows than it costs
pub record Makes (before : List Row) (cs : List ℕ) (new : List Row) : Type 0 where
  pub which : ℕ
  pub is_in : Memᴰ which cs
  pub made : T (has (ready (before ++ new)) which)
  pub price : length new ≤ cost which

pub made_new : (before new : List Row) (c : ℕ) → Memᴰ c (values new) → T (has (ready (before ++ new)) c)
made_new before new c i = subst⁻¹ (λ l. T (has l c)) (ready_append before new) (has_right (ready before) (values new) c i)

makes_a : (b : ℕ) (before : List Row) (cs : List ℕ) (new : List Row) → AllWanted b cs → rule_a (limit b) before cs ≡ Some new → Makes before cs new
makes_a b before cs new w e =
    let k = a_from (limit b) before cs new e in
    subst⁻¹ (Makes before cs) k.are
    (record {
      which = k.which;
      is_in = k.is_in;
      made = made_new before (k.row ∷ []) k.which (Memᴰ.head (sym k.makes));
      price = cost_one b k.which (w k.which k.is_in);
    })

makes_b : (b : ℕ) (before : List Row) (cs : List ℕ) (new : List Row) → AllWanted b cs → rule_a (limit b) before cs ≡ None → rule_b (limit b) before cs ≡ Some new
    → Makes before cs new
makes_b b before cs new w n e =
    let k = b_from (limit b) before cs new e in
    subst⁻¹ (Makes before cs) k.are
    (record {
      which = k.which;
      is_in = k.is_in;
      made = made_new before (k.first ∷ k.second ∷ []) k.which (Memᴰ.tail (Memᴰ.head (sym k.makes)));
      price = cost_two b k.which before (w k.which k.is_in) (λ t. subst (λ o. T (is_some o)) n (a_got (limit b) before cs k.which k.is_in t));
    })

-- C: no more rows than prefixes, and the end of their chain is ready afterwards
c_length : (before : List Row) (ps : List Prefix) → length (rule_c before ps) ≤ length ps
unfolding rule_c
c_length before [] = omega arith
c_length before (p ∷ ps) = go (has (ready before) p.value) (c_length before ps) (c_length (before ++ (prefix_row before p ∷ [])) ps)
  where
    more : List Row
    more = before ++ (prefix_row before p ∷ [])

    go : (t : Bool) → length (rule_c before ps) ≤ length ps → length (rule_c more ps) ≤ length ps
        → length (cond t (rule_c before ps) (prefix_row before p ∷ rule_c more ps)) ≤ suc (length ps)
    go true h k = omega arith
    go false h k = omega arith

c_has : (before : List Row) (m k : ℕ) (ps : List Prefix) → T (has (ready before) m) → Chain m ps k → T (has (ready (before ++ rule_c before ps)) k)
unfolding rule_c Chain
c_has before m k [] t c = subst (λ z. T (has (ready (before ++ [])) z)) c (subst⁻¹ (λ l. T (has (ready l) m)) (append-nil before) t)
c_has before m k (p ∷ ps) t c =
    go (has (ready before) p.value) refl (λ h. c_has before p.value k ps h c.1) (λ h. c_has more p.value k ps h c.1)
  where
    more : List Row
    more = before ++ (prefix_row before p ∷ [])

    go : (b : Bool) → has (ready before) p.value ≡ b
        → (T (has (ready before) p.value) → T (has (ready (before ++ rule_c before ps)) k))
        → (T (has (ready more) p.value) → T (has (ready (more ++ rule_c more ps)) k))
        → T (has (ready (before ++ cond b (rule_c before ps) (prefix_row before p ∷ rule_c more ps))) k)
    go true e f g = f (T_of e)
    go false e f g =
        subst (λ l. T (has (ready l) k)) (append_assoc before (prefix_row before p ∷ []) (rule_c more ps))
        (g (made_new before (prefix_row before p ∷ []) p.value (Memᴰ.head refl)))

makes_c : (b : ℕ) (before : List Row) (c : ℕ) (cs : List ℕ) → AllWanted b (c ∷ cs) → Makes before (c ∷ cs) (rule_c before (prefixes c))
makes_c b before c cs w =
    let q = w c (Memᴰ.head refl) in
    record {
      which = c;
      is_in = Memᴰ.head refl;
      made = c_has before 1 c (prefixes c) tt (chain_is c q.odd);
      price = omega (arith, c_length before (prefixes c), length_prefixes c);
    }

pub added_makes : (b : ℕ) (before : List Row) (c : ℕ) (cs : List ℕ) → AllWanted b (c ∷ cs) → Makes before (c ∷ cs) (added (limit b) before (c ∷ cs))
added_makes b before c cs w =
    added_by (Makes before (c ∷ cs)) (limit b) before c cs
    (λ new e. makes_a b before (c ∷ cs) new w e)
    (λ new e f. makes_b b before (c ∷ cs) new w e f)
    (λ e f. makes_c b before c cs w)
