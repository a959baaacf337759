-- `extra_bits` meets its contract. Assumes nothing.
use mathlib.Core.Path.{sym, ap}
use native.Mathlib.Omega.{arith}
use lib.Count.{leading_le}
use Rattle.meaning.specs.Widths.{least_from, extra_bits}
use Rattle.laws.proofs.Widths.Extra.{machine_bits}
use Rattle.widths.proofs.bits.extra_bits.Goals as goal

pub returns-then-value-eq0 : goal.returns-then-value-eq0
unfolding extra_bits least_from
returns-then-value-eq0 c = sym (ap extra_bits c.if-value-eq0.true)

pub overflow_sub-result-2 : goal.overflow_sub-result-2
overflow_sub-result-2 c = leading_le 32 _

pub returns : goal.returns
returns c = machine_bits c.args.value (omega (arith, c.if-value-eq0.false)) (omega arith)
