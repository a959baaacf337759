-- `side` meets its contract. The loop's invariant: the results that came are marked, and nothing else is new. Assumes nothing.
use mathlib.Core.Path.{ap, ◌∙◌}
use Rattle.search.specs.Walk.{to_come}
use Rattle.search.proofs.Walk.{came_more, came_all}
use Rattle.search.proofs.Marks.{among_start, among_more, among_all}
use Rattle.search.proofs.side.Goals as goal

pub loop-sum-init : goal.loop-sum-init
loop-sum-init c =
    record {
      walk = ap to_come c.into_iter-sum-iterator.ensures.into_iter_gives ∙ c.new-sum-items.ensures;
      adds = among_start c.args.limit c.args.map.now;
    }

pub loop-sum-preserved : goal.loop-sum-preserved
loop-sum-preserved c =
    let l = c.loop-sum in
    record {
      walk = came_more l.yielded (to_come l.sum-iterator) (to_come c.next.new.self) _ _ l.invariant.walk c.in-Some.ensures.steps;
      adds = among_more c.args.limit l.yielded _ _ l.invariant.adds c.mark.ensures c.mark-in-loop-sum.ensures;
    }

pub returns : goal.returns
returns c =
    let a = c.args in
    let l = c.loop-sum in
    among_all a.limit a.u a.v l.yielded c.requires.1 c.requires.2 (came_all l.yielded _ _ l.invariant.walk c.in-None.ensures.steps.0) l.invariant.adds
