-- `pick` meets its contract. The loop's invariant: the constants passed have no choice, so that those left decide. 65535 trials are all that 17 bits have.
-- Assumes nothing.
use mathlib.Core.Path.{◌≡◌, sym, ap, ◌∙◌}
use mathlib.Core.List.{List, ◌∷◌, Memᴰ}
use Prim.Native.Nat.{ℕ, ◌+◌}
use native.Mathlib.Numerals.{add-one}
use lib.ListN.{get_or, drop, drop_of_length-le}
use lib.Seq.{drop-cons}
use Rattle.meaning.specs.declared.Row.{Row}
use Rattle.meaning.specs.Graph.{ready}
use Rattle.meaning.specs.Generator.{rule_b}
use Rattle.laws.proofs.Lists.Index.{get_or_in}
use Rattle.search.specs.Held.{listed}
use Rattle.search.specs.Choices.{chosen_in}
use Rattle.search.proofs.RuleB.{b_empty}
use Rattle.generator.proofs.RuleLaws.{picked_at, picked_none, ceiling}
use Rattle.generator.proofs.draft.Draft.pick.Goals as goal
use Rattle.generator.proofs.draft.Draft.pick.Goals.{After-choose-trials, In-loop-c}

-- the constant at the place is one of those kept, and the next one
member : (c : In-loop-c) → Memᴰ (get_or c.args.wanted.now c.loop-c.c-index 0) c.args.wanted.now
member c = get_or_in c.args.wanted.now c.loop-c.c-index 0 c.loop-c-test.true

next : (c : In-loop-c) → let a = c.args in (before : List Row) → ready before ≡ listed a.self.now.set
    → rule_b a.self.now.limit before a.wanted.now ≡ rule_b a.self.now.limit before (get_or a.wanted.now c.loop-c.c-index 0 ∷ drop (c.loop-c.c-index + 1) a.wanted.now)
next c before e =
    let i = c.loop-c.c-index in
    c.loop-c.invariant before e
    ∙ ap (rule_b c.args.self.now.limit before)
    (drop-cons c.args.wanted.now i 0 c.loop-c-test.true ∙ ap (λ (n : ℕ). get_or c.args.wanted.now i 0 ∷ drop n c.args.wanted.now) (sym (add-one i)))

pub choose-trials-requires : goal.choose-trials-requires
choose-trials-requires c =
    let p = c.requires in
    let m = member (goal.at.choose-trials-requires c).In-loop-c in
    (p.state, (p.servable _ m).odd, p.far _ m)

-- the choice on the set's values is that on the rows which have them
chosen : (c : After-choose-trials) → let a = c.args in
    (before : List Row) → ready before ≡ listed a.self.now.set → c.choose-trials.result ≡ chosen_in a.self.now.limit (ready before) (get_or a.wanted.now c.loop-c.c-index 0) 65535
chosen c before e =
    c.choose-trials.ensures ∙ ap (λ (l : List ℕ). chosen_in c.args.self.now.limit l (get_or c.args.wanted.now c.loop-c.c-index 0) 65535) (sym e)

pub returns-in-Some : goal.returns-in-Some
returns-in-Some c before e =
    let a = c.args in
    let g = goal.at.returns-in-Some c in
    picked_at a.self.now.limit before a.wanted.now _ (drop (c.loop-c.c-index + 1) a.wanted.now) (next g.In-loop-c before e) 65535
    c.choose-trials.result (chosen g.After-choose-trials before e) _ (member g.In-loop-c) c.in-Some.is

pub loop-c-preserved : goal.loop-c-preserved
loop-c-preserved c before e =
    let a = c.args in
    let g = goal.at.loop-c-preserved c in
    picked_none a.self.now.limit before a.wanted.now _ (drop (c.loop-c.c-index + 1) a.wanted.now) (next g.In-loop-c before e) 65535
    c.choose-trials.result (chosen g.After-choose-trials before e) (ceiling a.self.now.limit c.requires.limit) c.in_default.is

pub returns : goal.returns
returns c before e =
    let a = c.args in
    c.loop-c.invariant before e
    ∙ ap (rule_b a.self.now.limit before) (drop_of_length-le a.wanted.now c.loop-c-test.false)
    ∙ b_empty a.self.now.limit before
