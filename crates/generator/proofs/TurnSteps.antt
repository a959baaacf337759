-- The rows of a turn, step by step: nothing, step A's row, step B's two or step C's, each with room for the next. Assumes nothing.
use mathlib.Core.Path.{◌≡◌, refl, sym, ap, ◌∙◌, subst, subst⁻¹}
use mathlib.Core.Bool.{true, false}
use mathlib.Core.List.{List, [], ◌∷◌, Memᴰ}
use Rattle.std.specs.Prelude.{Option, Some, None, option_to_list, find}
use Prim.Native.Nat.{ℕ, ◌<◌}
use native.Mathlib.Omega.{arith}
use borrow.Author.Tests.{eqb-true}
use lib.Dec.{eqb}
use lib.ListN.{length, get_or}
use Rattle.meaning.specs.declared.Row.{Row}
use Rattle.meaning.specs.Digits.{prefixes}
use Rattle.meaning.specs.Graph.{ready}
use Rattle.meaning.specs.Operation.{Odd}
use Rattle.meaning.specs.Generator.{row_for, rule_a, rule_c, added}
use Rattle.laws.proofs.Lists.Index.{get_or_in}
use Rattle.search.specs.Held.{listed}
use Rattle.search.specs.Marks.{marked}
use Rattle.generator.specs.declared.draft.Draft.{Draft}
use Rattle.generator.specs.declared.rule.Chosen.{Chosen}
use Rattle.generator.specs.Growth.{drawn_rows, Servable, Open, Grown}
use Rattle.generator.specs.Rule.{Serves, Picked, NoneNear, Pickable, Turning}
use Rattle.generator.proofs.DraftLaws.{grown_none, grown_then, drawn_more, open_on, open_less}
use Rattle.generator.proofs.RuleLaws.{Nearest, near_at, near_nothing, added_none, added_a, added_b, added_c, added_two}

-- as the test for an empty list tells it
some : (xs : List ℕ) → eqb (length xs) 0 ≡ false → 0 < length xs
some [] e = absurd cc
some (x ∷ xs) e = omega arith

module _ {d : Draft} {cs : List ℕ} (t : Turning d cs) where
  abbrev its : List Row
  its = drawn_rows d

  odd : (c : ℕ) → Memᴰ c cs → Odd d.limit c
  odd c i = (t.servable c i).odd

  -- rows that the turn adds, by another name
  as_added : {xs : List Row} {new : Draft} → added d.limit its cs ≡ xs → Grown d xs new → Grown d (added d.limit its cs) new
  as_added {new = new} e = subst⁻¹ (λ (xs : List Row). Grown d xs new) e

  -- ---- no constant

  pub turn_none : eqb (length cs) 0 ≡ true → Grown d (added d.limit its cs) d
  turn_none h = as_added (ap (added d.limit its) (none cs (eqb-true (length cs) 0 h)) ∙ added_none d.limit its) (grown_none _ t.room)
    where
      none : (xs : List ℕ) → length xs ≡ 0 → xs ≡ []
      none [] e = refl
      none (x ∷ xs) e = absurd (omega arith)

  -- ---- step A

  module _ (c : ℕ) (e : find (marked d.map.now) cs ≡ Some c) where
    near : Nearest d.limit its cs c
    near = near_at _ _ _ _ t.room.state _ t.room.same _ t.servable _ e

    pub a_open : Open d 1 × Odd d.limit c
    a_open = (open_less _ 1 (omega (arith, ap length (added_a _ _ _ _ near.rows), near.one)) t.room, odd c near.is_in)

    pub a_grown : {new : Draft} → Grown d (option_to_list (row_for d.limit its c)) new → Grown d (added d.limit its cs) new
    a_grown = as_added (added_a _ _ _ _ near.rows)

  -- ---- no constant is near

  module _ (f : find (marked d.map.now) cs ≡ None) where
    far : (rule_a d.limit its cs ≡ None) × NoneNear d.limit (listed d.set) cs
    far = near_nothing _ _ _ _ t.room.state _ t.room.same _ t.servable f

    pub b_asked : Pickable d cs
    b_asked = record { state = t.room.state; limit = t.limit; servable = t.servable; far = far.1 }

    -- what step B found
    module _ {r : Option Chosen} (q : (before : List Row) → ready before ≡ listed d.set → Picked d.limit before cs r) where
      found : {o : Option Chosen} → r ≡ o → Picked d.limit its cs o
      found e = subst (Picked d.limit its cs) e (q its (sym t.room.same))

      -- ---- step B

      module _ (x : Chosen) (e : r ≡ Some x) where
        serves : Serves d.limit its cs x.c x.s
        serves = found e

        two : length (added d.limit its cs) ≡ 2
        two = added_two _ _ _ _ _ far.0 serves

        pub b_open : Open d 1 × Odd d.limit x.s
        b_open = (open_less _ 1 (omega (arith, two)) t.room, serves.odd)

        module _ {mid : Draft} (g : Grown d (option_to_list (row_for d.limit its x.s)) mid) where
          pub b_next : Open mid 1 × Odd mid.limit x.c
          b_next = (open_on _ 1 (omega (arith, two, serves.first)) t.room g, subst⁻¹ (λ L. Odd L x.c) g.limit (odd x.c serves.is_in))

          pub b_grown : {new : Draft} → Grown mid (option_to_list (row_for mid.limit (drawn_rows mid) x.c)) new → Grown d (added d.limit its cs) new
          b_grown {new} h =
              let e = drawn_more _ (omega (arith, two, serves.first)) t.room g in
              let i = subst (λ l. Grown mid (option_to_list (row_for l (drawn_rows mid) x.c)) new) g.limit h in
              as_added (added_b _ _ _ _ far.0 serves.rows) (grown_then _ t.room g (subst (λ ys. Grown mid (option_to_list (row_for d.limit ys x.c)) new) e i))

      -- ---- step C

      module _ (h : eqb (length cs) 0 ≡ false) (e : r ≡ None) where
        by_c : added d.limit its cs ≡ rule_c its (prefixes (get_or cs 0 0))
        by_c = added_c _ _ _ (some cs h) far.0 (found e)

        pub c_open : Open d (length (rule_c its (prefixes (get_or cs 0 0)))) × Servable d.limit (get_or cs 0 0)
        c_open = (subst (λ (xs : List Row). Open d (length xs)) by_c t.room, t.servable _ (get_or_in cs 0 0 (some cs h)))

        pub c_grown : {new : Draft} → Grown d (rule_c its (prefixes (get_or cs 0 0))) new → Grown d (added d.limit its cs) new
        c_grown = as_added by_c
