use Rattle.std.proofs.Common.{length}
use Rattle.meaning.specs.Digits.{prefixes}
use Rattle.digits.proofs.Laws.{Peeling}
use Rattle.digits.proofs.prefixes_of.Given as goal

abbrev pub invariant-loop-left : goal.invariant-loop-left
invariant-loop-left l = Peeling l.n l.left l.prefixes.items

abbrev pub decreases-loop-left : goal.decreases-loop-left
decreases-loop-left l = length (prefixes l.left)
