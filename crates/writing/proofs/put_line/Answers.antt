-- `put_line` meets its contract. The loop's invariant: the line of the form's first bytes is written. Assumes nothing.
use native.Mathlib.Omega.{arith}
use Rattle.writing.proofs.Writing.{begin, part_room, part_on, line_done}
use Rattle.writing.proofs.put_line.Goals as goal

pub loop-c-init : goal.loop-c-init
loop-c-init c = rw c.iter-numbers.ensures.rest (begin _ _ _ _ (omega arith))

pub piece-at-requires : goal.piece-at-requires
piece-at-requires c = part_room c.loop-c.invariant c.loop-c-test.true c.requires

pub loop-c-preserved : goal.loop-c-preserved
loop-c-preserved c = rw c.piece-at.ensures.left (part_on c.loop-c.invariant c.loop-c-test.true c.piece-at.ensures.wrote)

pub returns : goal.returns
returns c = line_done c.loop-c.invariant c.loop-c-test.false
