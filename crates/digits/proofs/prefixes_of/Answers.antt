-- `digits::prefixes_of` meets its contract. The loop's invariant: the prefixes of what is left, and those found, the other way round, are all. Assumes nothing.
use Rattle.std.proofs.Common.{arith, ap, ◌∙◌}
use Rattle.few.specs.Places.{in_places}
use Rattle.digits.specs.Held.{nothing}
use Rattle.digits.proofs.Laws.{peel_start, peel_room, peel_step, peel_end}
use Rattle.digits.proofs.prefixes_of.Goals as goal

pub loop-left-init : goal.loop-left-init
loop-left-init c = peel_start _ _ _ c.new-prefixes.ensures (rw c.from.ensures at c.odd_part-left.ensures)

pub push-requires : goal.push-requires
push-requires c = (omega arith, peel_room _ _ _ c.loop-left.invariant _ (omega arith) c.last_prefix-last.ensures (omega arith))

pub loop-left-preserved : goal.loop-left-preserved
loop-left-preserved c = peel_step _ _ _ c.loop-left.invariant _ (omega arith) c.last_prefix-last.ensures _ c.push.ensures.items

pub returns-clause-value : goal.returns-clause-value
returns-clause-value c =
    let found = peel_end _ _ _ c.loop-left.invariant _ (omega arith) (rw c.deref_mut.ensures.value at c.reverse.ensures.after) in
    c.of.ensures.value ∙ ap (in_places nothing 16) found
