-- `size_of` meets its contract: the sum, or how far the two are apart. Assumes nothing.
use mathlib.Core.Path.{◌≡◌}
use Prim.Native.Nat.{suc, ◌-◌}
use native.Mathlib.Omega.{arith}
use Rattle.generator.proofs.first_choice.size_of.Goals as goal

pub returns : goal.returns
returns c =
    let e : c.args.s ≡ suc (c.args.s - 1) = omega arith in rw e (omega arith)
