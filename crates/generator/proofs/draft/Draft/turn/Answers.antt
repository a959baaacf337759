-- `turn` meets its contract: step A where the map has a constant, else step B where one has a choice, else step C for the first. Assumes nothing.
use mathlib.Core.Path.{sym, ◌∙◌}
use Rattle.generator.proofs.TurnSteps.{turn_none, a_open, a_grown, b_asked, b_open, b_next, b_grown, c_open, c_grown}
use Rattle.generator.proofs.draft.Draft.turn.Goals as goal

pub returns-then-is_empty : goal.returns-then-is_empty
returns-then-is_empty c = turn_none c.requires (sym c.is_empty.ensures ∙ c.if-is_empty.true)

pub add_first-requires : goal.add_first-requires
add_first-requires c = a_open c.requires _ (sym c.nearest.ensures ∙ c.in-Some.is)

pub returns-in-Some : goal.returns-in-Some
returns-in-Some c = a_grown c.requires _ (sym c.nearest.ensures ∙ c.in-Some.is) c.add_first.ensures

pub pick-requires : goal.pick-requires
pick-requires c = b_asked c.requires (sym c.nearest.ensures ∙ c.in_default.is)

pub add_first-requires-in-Some-pick : goal.add_first-requires-in-Some-pick
add_first-requires-in-Some-pick c = b_open c.requires (sym c.nearest.ensures ∙ c.in_default.is) c.pick.ensures _ c.in-Some-pick.is

pub add_first-requires-in-Some-pick-2 : goal.add_first-requires-in-Some-pick-2
add_first-requires-in-Some-pick-2 c =
    b_next c.requires (sym c.nearest.ensures ∙ c.in_default.is) c.pick.ensures _ c.in-Some-pick.is c.add_first-in-Some-pick.ensures

pub returns-in-Some-pick : goal.returns-in-Some-pick
returns-in-Some-pick c =
    b_grown c.requires (sym c.nearest.ensures ∙ c.in_default.is) c.pick.ensures _ c.in-Some-pick.is c.add_first-in-Some-pick.ensures
    c.add_first-in-Some-pick-2.ensures

pub add_prefixes-requires : goal.add_prefixes-requires
add_prefixes-requires c =
    c_open c.requires (sym c.nearest.ensures ∙ c.in_default.is) c.pick.ensures (sym c.is_empty.ensures ∙ c.if-is_empty.false) c.in_default-pick.is

pub returns : goal.returns
returns c =
    c_grown c.requires (sym c.nearest.ensures ∙ c.in_default.is) c.pick.ensures (sym c.is_empty.ensures ∙ c.if-is_empty.false) c.in_default-pick.is
    c.add_prefixes.ensures
