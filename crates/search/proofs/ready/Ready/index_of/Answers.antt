-- `Ready::index_of` meets its contract: an index among 129 places is a word. Assumes nothing.
use mathlib.Core.Path.{◌≡◌}
use Prim.Native.Nat.{ℕ, ◌≤◌}
use native.Mathlib.Omega.{arith}
use borrow.Author.Rules.{rules}
use lib.ListN.{length}
use Rattle.meaning.specs.Basics.{index_from}
use Rattle.meaning.specs.Limits.{most_ready}
use Rattle.laws.proofs.Lists.Index.{index_most}
use Rattle.search.specs.declared.ready.Ready.{Ready}
use Rattle.search.specs.Held.{listed}
use Rattle.search.proofs.ReadyLaws.{list_length_lem}
use Rattle.search.proofs.ready.Ready.index_of.Goals as goal
use Rattle.search.proofs.ready.Ready.index_of.Goals.{After-index_from, Start}

places : (c : Start) → length c.args.self.values ≡ most_ready
places c = search rules

few : (r : Ready) (v : ℕ) → length r.values ≡ most_ready → index_from 0 (listed r) v ≤ most_ready
few r v e = omega (arith, index_most (listed r) v, list_length_lem r e)

its_index : (c : After-index_from) → c.index_from.result ≡ index_from 0 (listed c.args.self) c.args.v
its_index c = c.index_from.ensures

pub overflow_cast-result : goal.overflow_cast-result
overflow_cast-result c = omega (arith, its_index c, few c.args.self c.args.v (places (goal.at.overflow_cast-result c).Start))
