-- `draw` meets its contract: turn after turn, as many as there are constants. Assumes nothing.
use native.Mathlib.Omega.{arith}
use borrow.Author.Rules.{rules}
use Rattle.generator.proofs.Turns.{turned_open, turned_end, from_front}
use Rattle.generator.proofs.draw.Goals as goal

pub turn-requires : goal.turn-requires
turn-requires c =
    let w = c.requires.0 in
    turned_open w.words c.start-draft.ensures.begun c.loop.invariant (omega arith) w.few (search rules) w.most w.servable

-- what was lent is as the draft leaves it
pub returns : goal.returns
returns c =
    let b = c.start-draft.ensures.begun in
    let g = turned_end c.requires.0.words b c.loop.invariant (omega arith) in
    search (rules, from_front b.started b.words g, g)
