-- `admit` meets its contract: the first of four refusals. Assumes nothing.
use mathlib.Core.Path.{◌≡◌, sym, ◌∙◌}
use mathlib.Core.Bool.{Bool, true}
use mathlib.Core.List.{List, [], ◌∷◌}
use Prim.Native.Nat.{ℕ, ◌%◌, ◌^◌, ◌≤◌}
use native.Mathlib.Omega.{arith}
use lib.Dec.{eqb, ltb, leb→le}
use lib.ListN.{length}
use Rattle.meaning.specs.declared.Refusal.TheVariants as no
use Rattle.meaning.specs.Basics.{all}
use Rattle.meaning.specs.Limits.{between, bit_tests, most_ready}
use Rattle.meaning.specs.Refusals.{ready_length, ready_values, target, distance_order, first_of}
use Rattle.laws.proofs.Lists.Tests.{pair_all, T_of, all_of}
use Rattle.laws.proofs.Refusals.Stages.{handed_on, stops, passes, last, stops_at, passes_on}
use Rattle.distance.proofs.ready_list.admit.Goals as goal
use Rattle.distance.proofs.ready_list.admit.Goals.{After-odd_below, Else-not-within, Else-not-within-2, In_ok-ready_values, Start}

abbrev lengths : List ℕ → List Bool
lengths vals = between 1 most_ready (length vals)

abbrev odd : ℕ → ℕ → List Bool
odd b c = eqb (c % 2) 1 ∷ ltb c (2 ^ b) ∷ []

bits_hold : (c : Else-not-within) → all (bit_tests c.args.b) ≡ true
bits_hold c = sym c.within.ensures ∙ c.if-not-within.false

small : (c : Else-not-within) → c.args.b ≤ 16
small c = let p = all_of (bit_tests c.args.b) (T_of (bits_hold c)) in leb→le _ _ p.1.0

lengths_hold : (c : Else-not-within-2) → all (lengths c.args.vals.now) ≡ true
lengths_hold c = sym c.within-2.ensures ∙ c.if-not-within-2.false

-- past the bit limit, past the length, and past the values
past_bits : (c : Else-not-within) → let a = c.args in
    first_of (distance_order a.b a.vals.now a.c) ≡ first_of (ready_length a.vals.now ∷ ready_values a.b a.vals.now ∷ target a.b a.c ∷ [])
past_bits c =
    let a = c.args in
    passes no.Bits (bit_tests a.b) (ready_length a.vals.now ∷ ready_values a.b a.vals.now ∷ target a.b a.c ∷ []) (bits_hold c)

past_length : (c : Else-not-within-2) → let a = c.args in
    first_of (distance_order a.b a.vals.now a.c) ≡ first_of (ready_values a.b a.vals.now ∷ target a.b a.c ∷ [])
past_length c =
    let a = c.args in
    past_bits (goal.at.ready_values-requires c).Else-not-within ∙ passes (no.Ready 0) (lengths a.vals.now) (ready_values a.b a.vals.now ∷ target a.b a.c ∷ []) (lengths_hold c)

past_values : (c : In_ok-ready_values) → let a = c.args in
    first_of (distance_order a.b a.vals.now a.c) ≡ first_of (target a.b a.c ∷ [])
past_values c =
    let a = c.args in
    past_length (goal.at.odd_below-requires c).Else-not-within-2
    ∙ passes_on (ready_values a.b a.vals.now ∷ []) (target a.b a.c ∷ []) c.ready_values.result (c.ready_values.ensures ∙ sym (last (ready_values a.b a.vals.now))) c.in_ok-ready_values.was

pub returns-then-not-within : goal.returns-then-not-within
returns-then-not-within c =
    let a = c.args in
    sym (stops no.Bits (bit_tests a.b) (ready_length a.vals.now ∷ ready_values a.b a.vals.now ∷ target a.b a.c ∷ []) (sym c.within.ensures ∙ c.if-not-within.true))

pub returns-then-not-within-2 : goal.returns-then-not-within-2
returns-then-not-within-2 c =
    let a = c.args in
    sym
    (past_bits (goal.at.returns-then-not-within-2 c).Else-not-within
    ∙ stops (no.Ready 0) (lengths a.vals.now) (ready_values a.b a.vals.now ∷ target a.b a.c ∷ []) (sym c.within-2.ensures ∙ c.if-not-within-2.true))

pub ready_values-requires : goal.ready_values-requires
ready_values-requires c =
    let q = all_of (lengths c.args.vals.now) (T_of (lengths_hold c)) in
    (small (goal.at.ready_values-requires c).Else-not-within, leb→le _ _ q.1.0)

pub returns-in_err-ready_values : goal.returns-in_err-ready_values
returns-in_err-ready_values c =
    let a = c.args in
    handed_on _ _ c.from_residual.ensures.1 ∙ sym c.in_err-ready_values.was
    ∙ stops_at (ready_values a.b a.vals.now ∷ []) (target a.b a.c ∷ []) c.ready_values.result _
    (c.ready_values.ensures ∙ sym (last (ready_values a.b a.vals.now))) c.in_err-ready_values.was
    ∙ sym (past_length (goal.at.returns-in_err-ready_values c).Else-not-within-2)

pub odd_below-requires : goal.odd_below-requires
odd_below-requires c = let h = small (goal.at.odd_below-requires c).Else-not-within in omega arith

test_is : (c : After-odd_below) → let a = c.args in
    c.odd_below.result ≡ all (odd a.b a.c)
test_is c =
    let a = c.args in
    c.odd_below.ensures ∙ pair_all (eqb (a.c % 2) 1) (ltb a.c (2 ^ a.b))

pub returns-then-not-odd_below : goal.returns-then-not-odd_below
returns-then-not-odd_below c =
    let a = c.args in
    sym (past_values (goal.at.returns-then-not-odd_below c).In_ok-ready_values ∙ stops no.Target (odd a.b a.c) [] (sym (test_is (goal.at.returns-then-not-odd_below c).After-odd_below) ∙ c.if-not-odd_below.true))

pub returns : goal.returns
returns c =
    let a = c.args in
    sym (past_values (goal.at.returns c).In_ok-ready_values ∙ passes no.Target (odd a.b a.c) [] (sym (test_is (goal.at.returns c).After-odd_below) ∙ c.if-not-odd_below.false))
