-- `look_side` meets its contract. The loop's invariant: the results that came are looked at. Assumes nothing.
use mathlib.Core.Path.{ap, ◌∙◌}
use Rattle.search.specs.Walk.{to_come}
use Rattle.search.proofs.Walk.{came_more, came_all}
use Rattle.search.proofs.Least.{among_start, among_more, among_all}
use Rattle.search.proofs.serving.Reach.look_side.Goals as goal

pub loop-sum-init : goal.loop-sum-init
loop-sum-init c =
    let a = c.args in
    record {
      walk = ap to_come c.into_iter-sum-iterator.ensures.into_iter_gives ∙ c.new-sum-items.ensures;
      lowers = among_start a.self.limit a.self.map.now a.self.low a.best;
    }

pub loop-sum-preserved : goal.loop-sum-preserved
loop-sum-preserved c =
    let a = c.args in
    let l = c.loop-sum in
    record {
      walk = came_more l.yielded (to_come l.sum-iterator) (to_come c.next.new.self) _ _ l.invariant.walk c.in-Some.ensures.steps;
      lowers = among_more a.self.limit a.self.map.now a.self.low l.yielded _ _ l.invariant.lowers c.look-least.ensures c.look-least-in-loop-sum.ensures;
    }

pub returns : goal.returns
returns c =
    let a = c.args in
    let l = c.loop-sum in
    among_all a.self.limit a.self.map.now a.self.low a.u a.v l.yielded c.requires.0 c.requires.1
    (came_all l.yielded _ _ l.invariant.walk c.in-None.ensures.steps.0) l.invariant.lowers
