use mathlib.Core.Path.{◌≡◌}
use Rattle.meaning.specs.Basics.{up_from, over}
use Rattle.listing.proofs.count_up.Given as goal

abbrev pub invariant-loop-i : goal.invariant-loop-i
invariant-loop-i l = l.order ≡ over (up_from 1 l.i) l.initial.order
