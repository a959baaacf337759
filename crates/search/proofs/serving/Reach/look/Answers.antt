-- `look` meets its contract: 0 gives nothing, and anything else its odd part. Assumes nothing.
use mathlib.Core.Path.{ap, ◌∙◌}
use Prim.Native.Nat.{ℕ, ◌%◌}
use native.Mathlib.Omega.{arith}
use Rattle.laws.proofs.Whole.Zeros.{zeros_left}
use Rattle.search.proofs.Least.{look_none, look_one}
use Rattle.search.proofs.serving.Reach.look.Goals as goal

pub returns-then-n-eq0 : goal.returns-then-n-eq0
returns-then-n-eq0 c = let a = c.args in look_none a.self.limit a.self.map.now a.self.low a.n c.if-n-eq0.true

pub lower-requires : goal.lower-requires
lower-requires c =
    ap (λ (x : ℕ). x % 2) c.odd_part.ensures ∙ zeros_left c.args.n (omega arith)

pub returns : goal.returns
returns c =
    let o = c.odd_part in
    look_one c.args.self.limit c.args.self.map.now c.args.self.low c.args.n o.result o.ensures (omega arith) c.requires c.lower.ensures
