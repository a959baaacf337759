-- `add` meets its contract: what one operation reaches with v is what it reached, what v makes with each ready value, and what it makes with
-- itself. Assumes nothing.
use mathlib.Core.Path.{◌∙◌}
use lib.ListN.{take}
use Rattle.search.proofs.Choosing.{odds_taken}
use Rattle.search.proofs.Marks.{reach_more}
use Rattle.search.proofs.add.Goals as goal

pub with_each-requires : goal.with_each-requires
with_each-requires c =
    let s = c.requires.0 in
    (s.wide, odds_taken c.args.limit c.args.ready.now c.args.n s.values, c.requires.1)

pub returns : goal.returns
returns c =
    let one = c.with_each.ensures in
    let two = c.side.ensures in
    let a = c.args in
    record { map_len_unchanged = two.long ∙ one.long; holds = reach_more a.limit (take a.n a.ready.now) a.v c.requires.0.reach one two }
