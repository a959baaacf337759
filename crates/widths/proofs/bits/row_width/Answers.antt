-- `row_width` meets its contract: 32 bits of input and at most 32 more. Assumes nothing.
use native.Mathlib.Omega.{arith}
use Rattle.laws.proofs.Widths.Extra.{extra_small}
use Rattle.widths.proofs.bits.row_width.Goals as goal

pub overflow_add-result : goal.overflow_add-result
overflow_add-result c = omega (arith, c.extra_bits.ensures, extra_small c.args.value (omega arith))
