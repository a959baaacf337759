-- `left` meets its contract. Assumes nothing.
use mathlib.Core.Path.{sym, ap, ◌∙◌, subst⁻¹}
use mathlib.Core.List.{List}
use Prim.Native.Nat.{ℕ, ◌+◌}
use native.Mathlib.Omega.{arith}
use Rattle.search.specs.Held.{listed}
use Rattle.generator.proofs.RemainingLaws.{Sifted, sift_ready, sift_left}
use Rattle.generator.proofs.remaining.left.Goals as goal
use Rattle.generator.proofs.remaining.left.Goals.{then-not-has, else-not-has}

pub loop-c-preserved : goal.loop-c-preserved
loop-c-preserved c =
    let a = c.args in
    let l = c.loop-c in
    elim c.if-not-has.branch [
      | then-not-has w ↦
          subst⁻¹ (λ (r : List ℕ). Sifted (listed a.set) a.wanted.now r (l.c-index + 1)) (ap (λ r. r.items) w.left-is ∙ w.push.ensures.items)
          (sift_left (listed a.set) a.wanted.now _ l.c-index l.invariant (omega arith) (sym c.has.ensures ∙ w.if-not-has.true))
      | else-not-has w ↦
          subst⁻¹ (λ (r : List ℕ). Sifted (listed a.set) a.wanted.now r (l.c-index + 1)) (ap (λ r. r.items) w.left-is)
          (sift_ready (listed a.set) a.wanted.now _ l.c-index l.invariant (omega arith) (sym c.has.ensures ∙ w.if-not-has.false))
    ]
