-- `Ready::with` meets its contract: a full set comes back, any other with the value in its first free place. Assumes nothing.
use mathlib.Core.Path.{◌≡◌}
use native.Mathlib.Omega.{arith}
use borrow.Author.Rules.{rules}
use lib.ListN.{length}
use Rattle.meaning.specs.Limits.{most_ready}
use Rattle.search.proofs.ReadyLaws.{added_room}
use Rattle.search.proofs.ready.Ready.with.Goals as goal
use Rattle.search.proofs.ready.Ready.with.Goals.{Start}

places : (c : Start) → length c.args.self.values ≡ most_ready
places c = search rules

pub returns : goal.returns
returns c = added_room _ _ (places (goal.at.returns c).Start) (omega arith)
