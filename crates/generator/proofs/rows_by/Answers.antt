-- `rows_by` meets its contract: all rows of the rule and their count. Assumes nothing.
use mathlib.Core.Path.{◌≡◌, ap, ◌∙◌, subst⁻¹}
use mathlib.Core.List.{List}
use Prim.Native.Nat.{ℕ, ◌-◌, ◌≤◌}
use native.Mathlib.Omega.{arith}
use lib.Seq.{take_all}
use lib.ListN.{length}
use Rattle.meaning.specs.Constants.{wanted}
use Rattle.meaning.specs.Limits.{most_targets, limit, most_rows}
use Rattle.meaning.specs.Graph.{flat}
use Rattle.meaning.specs.Basics.{over}
use Rattle.meaning.specs.declared.Row.{Row}
use Rattle.meaning.specs.Generator.{generated}
use Rattle.laws.proofs.Refusals.Checked.{admitted_of}
use Rattle.laws.proofs.Constants.Wanted.{wanted_length}
use Rattle.laws.proofs.Generator.Generated.{few_rows_lem, drawn_accepts}
use Rattle.few.proofs.Lent.{values_of}
use Rattle.generator.specs.Rule.{AllServable, turned, Drawable}
use Rattle.generator.proofs.Answers.{all_servable, told_rows, its_turns}
use Rattle.generator.proofs.rows_by.Goals as goal
use Rattle.generator.proofs.rows_by.Goals.{After-deref}

-- the wanted set handed to `draw`: no target is left out
its_list : (c : After-deref) → c.deref.result.now ≡ wanted c.args.ts.now
its_list c =
    let g = admitted_of c.args.b c.args.ts.now c.requires.1 in
    values_of 0 c.deref.ensures c.wanted_of.ensures.value ∙ ap wanted (take_all most_targets c.args.ts.now g.list.1)

its_rows : (c : After-deref) → let a = c.args in turned c.limit-limit.result c.deref.result.now ≡ generated a.b a.ts.now
its_rows c = ap (λ (L : ℕ). turned L c.deref.result.now) c.limit-limit.ensures ∙ its_turns _ _ _ (its_list c)

pub limit-limit-requires : goal.limit-limit-requires
limit-limit-requires c = (admitted_of c.args.b c.args.ts.now c.requires.1).bits.1

-- the turns may begin, under the limit of b
ready_for : (c : After-deref) → let a = c.args in Drawable (limit a.b) a.map.now a.out.now c.deref.result.now
ready_for c =
    let g = admitted_of c.args.b c.args.ts.now c.requires.1 in
    let h = g.bits in
    record {
      least = omega arith;
      most = omega arith;
      state = c.requires.0;
      servable = subst⁻¹ (AllServable (limit c.args.b)) (its_list c) (all_servable _ _ g);
      few = subst⁻¹ (λ (xs : List Row). length xs ≤ most_rows) (its_turns _ _ _ (its_list c)) (few_rows_lem _ _ c.requires.1);
      words = c.requires.2;
    }

pub draw-set-requires : goal.draw-set-requires
draw-set-requires c =
    let a = c.args in
    let g = admitted_of a.b a.ts.now c.requires.1 in (
      subst⁻¹ (λ (L : ℕ). Drawable L a.map.now a.out.now c.deref.result.now) c.limit-limit.ensures (ready_for c),
      omega (arith, ap length (its_list c), wanted_length a.ts.now, g.list),
    )

pub overflow_cast-result : goal.overflow_cast-result
overflow_cast-result c =
    omega (arith, c.draw-set.ensures.0, ap length (its_rows (goal.at.overflow_cast-result c).After-deref), few_rows_lem _ _ c.requires.1)

pub returns : goal.returns
returns c =
    let a = c.args in
    let rows = its_rows (goal.at.returns c).After-deref in
    let done =
    told_rows a.b a.ts.now (length a.out.now) (c.draw-set.result.count - 1) _ _ (drawn_accepts _ _ _ c.requires.1 c.requires.2)
    (omega (arith, c.draw-set.ensures.0, ap length rows))
    (c.draw-set.ensures.1 ∙ ap (λ (xs : List Row). over (flat xs) a.out.now) rows) in
    record { answers = done.answers; writes = done.writes }
