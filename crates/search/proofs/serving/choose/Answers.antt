-- `choose` meets its contract; what the search asks for: the ready values are odd, and its bound is not above 2 ^ limit. Assumes nothing.
use Rattle.search.proofs.Choosing.{odds_taken, bound_least}
use Rattle.search.proofs.serving.choose.Goals as goal

pub least_partner-s-requires : goal.least_partner-s-requires
least_partner-s-requires c =
    let a = c.args in (
      odds_taken a.limit a.ready.now a.n c.requires.0.values,
      c.requires.1,
      bound_least a.limit a.c c.last-end.result _ c.requires.1 c.last-end.ensures,
    )
