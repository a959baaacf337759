-- `Results::next` meets its contract: the first of the pairs to come, or none. Assumes nothing.
use mathlib.Core.Path.{◌≡◌, ap, ap₂, ◌∙◌}
use mathlib.Core.List.{◌∷◌}
use Prim.Native.Nat.{ℕ, ◌+◌, ◌-◌, ◌*◌, ◌^◌}
use native.Mathlib.Omega.{arith}
use lib.ListN.{length}
use Rattle.std.proofs.Common.{rules}
use Rattle.search.specs.Walk.{pairs_from, to_come}
use Rattle.search.proofs.Walk.{pairs_end, pairs_far, pairs_next}
use Rattle.search.proofs.results.ResultsIterator.next.Goals as goal
use Rattle.search.proofs.results.ResultsIterator.next.Goals.{After-difference}

pub returns-then-self-clause-steps : goal.returns-then-self-clause-steps
returns-then-self-clause-steps c =
    let s = c.args.self.now in
    let e = pairs_end s.a s.v s.far s.l s.end c.if-self.true in (e, e)

pub returns-then-w-self-clause-steps : goal.returns-then-w-self-clause-steps
returns-then-w-self-clause-steps c =
    let s = c.args.self.now in
    let e = pairs_far s.a s.v s.far s.l (s.end - s.l) (omega (arith, c.if-w-self.true, c.shifted-w.ensures)) in (e, e)

next : (c : After-difference) → let s = c.args.self.now in
    to_come s ≡ (s.a + c.shifted-w.result, c.difference.result) ∷ pairs_from s.a s.v s.far (s.l + 1) (s.end - (s.l + 1))
next c =
    let s = c.args.self.now in
    let w : 2 ^ s.l * s.v ≡ c.shifted-w.result = omega (arith, c.shifted-w.ensures) in
    pairs_next s.a s.v s.far s.l s.end c.if-self.false (omega (arith, c.if-w-self.false, w))
    ∙ ap₂ (λ (x y : ℕ). (x, y) ∷ pairs_from s.a s.v s.far (s.l + 1) (s.end - (s.l + 1))) (omega (arith, w)) (omega (arith, w, c.difference.ensures))

pub returns-clause-steps : goal.returns-clause-steps
returns-clause-steps c = next (goal.at.returns-clause-steps c).After-difference

pub returns-clause-goes : goal.returns-clause-goes
returns-clause-goes c =
    let e = ap length (next (goal.at.returns-clause-goes c).After-difference) in
    record { on = λ h. (search rules, search rules, omega (arith, e)); keeps = search rules; rests = λ h. search rules }
