-- `look_factor` meets its contract: what f does not divide is no multiple of it. Assumes nothing.
use Rattle.search.proofs.Least.{factor_none}
use Rattle.search.proofs.serving.Reach.look_factor.Goals as goal

pub returns-then-c-f-ne0 : goal.returns-then-c-f-ne0
returns-then-c-f-ne0 c = let a = c.args in factor_none a.c a.f c.requires.1 a.self.map.now a.self.low c.if-c-f-ne0.true
