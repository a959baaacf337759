use mathlib.Core.Path.{◌≡◌}
use mathlib.Core.List.{map}
use lib.ListN.{take}
use Rattle.meaning.specs.Basics.{over_at}
use Rattle.meaning.specs.Widths.{output_width}
use Rattle.widths.proofs.output_widths.Given as goal

abbrev pub invariant-loop-i : goal.invariant-loop-i
invariant-loop-i l = l.out ≡ over_at l.from (map (output_width l.input) (take l.i l.ts)) l.initial.out
