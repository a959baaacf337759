-- `admit` meets its contract: the first of three refusals. Assumes nothing.
use mathlib.Core.Path.{◌≡◌, sym, ◌∙◌}
use mathlib.Core.Bool.{Bool, true}
use mathlib.Core.List.{List, [], ◌∷◌}
use lib.Dec.{leb→le}
use lib.IntN.{ℤ}
use lib.ListN.{length}
use Rattle.meaning.specs.declared.Refusal.TheVariants as no
use Rattle.meaning.specs.Basics.{all}
use Rattle.meaning.specs.Limits.{between, bit_tests, most_targets}
use Rattle.meaning.specs.Refusals.{admitted, list_length, odd_parts}
use Rattle.laws.proofs.Lists.Tests.{T_of, all_of}
use Rattle.laws.proofs.Refusals.Stages.{stops, passes, last}
use Rattle.constants.proofs.admit.Goals as goal
use Rattle.constants.proofs.admit.Goals.{Else-not-within, Else-not-within-2}

abbrev lengths : List ℤ → List Bool
lengths ts = between 1 most_targets (length ts)

bits_hold : (c : Else-not-within) → all (bit_tests c.args.b) ≡ true
bits_hold c = sym c.within.ensures ∙ c.if-not-within.false

lengths_hold : (c : Else-not-within-2) → all (lengths c.args.ts.now) ≡ true
lengths_hold c = sym c.within-2.ensures ∙ c.if-not-within-2.false

pub returns-then-not-within : goal.returns-then-not-within
unfolding admitted
returns-then-not-within c =
    let s = c.args in
    sym (stops no.Bits (bit_tests s.b) (list_length s.ts.now ∷ odd_parts s.b s.ts.now ∷ []) (sym c.within.ensures ∙ c.if-not-within.true))

pub returns-then-not-within-2 : goal.returns-then-not-within-2
unfolding admitted
returns-then-not-within-2 c =
    let s = c.args in
    sym
    (passes no.Bits (bit_tests s.b) (list_length s.ts.now ∷ odd_parts s.b s.ts.now ∷ []) (bits_hold (goal.at.returns-then-not-within-2 c).Else-not-within)
    ∙ stops no.List (lengths s.ts.now) (odd_parts s.b s.ts.now ∷ []) (sym c.within-2.ensures ∙ c.if-not-within-2.true))

pub odd_parts-requires : goal.odd_parts-requires
odd_parts-requires c =
    let p = all_of (bit_tests c.args.b) (T_of (bits_hold (goal.at.odd_parts-requires c).Else-not-within)) in
    let q = all_of (lengths c.args.ts.now) (T_of (lengths_hold c)) in
    (leb→le _ _ p.1.0, leb→le _ _ q.1.0)

pub returns : goal.returns
unfolding admitted
returns c =
    let s = c.args in
    c.odd_parts.ensures
    ∙ sym
    (passes no.Bits (bit_tests s.b) (list_length s.ts.now ∷ odd_parts s.b s.ts.now ∷ []) (bits_hold (goal.at.returns c).Else-not-within)
    ∙ passes no.List (lengths s.ts.now) (odd_parts s.b s.ts.now ∷ []) (lengths_hold (goal.at.returns c).Else-not-within-2)
    ∙ last (odd_parts s.b s.ts.now))
