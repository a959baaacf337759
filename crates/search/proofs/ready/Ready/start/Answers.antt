-- `Ready::start` meets its contract: the set is the one that starts. Assumes nothing.
use Rattle.search.specs.Held.{started}
use Rattle.search.proofs.ReadyLaws.{start_is}
use Rattle.search.proofs.ready.Ready.start.Goals as goal

pub returns : goal.returns
unfolding started
returns c = start_is
