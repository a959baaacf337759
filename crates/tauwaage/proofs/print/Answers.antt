-- `print` is safe and ends. Assumes nothing.
use mathlib.Core.Path.{sym}
use lib.Seq.{length-take-le}
use Rattle.tauwaage.proofs.print.Goals as goal

pub slice_bounds-write-end-then-n-out : goal.slice_bounds-write-end-then-n-out
slice_bounds-write-end-then-n-out c = sym (length-take-le _ _ c.if-n-out.true)
