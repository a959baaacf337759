use Rattle.std.specs.Slice.Iter.{iter_rest}
use Rattle.writing.proofs.Writing.{Begun}
use Rattle.writing.proofs.put_line.Given as goal

abbrev pub invariant-loop-c : goal.invariant-loop-c
invariant-loop-c l = Begun l.form l.fn.numbers l.initial.out l.from l.out l.at (iter_rest l.numbers) l.c-index
