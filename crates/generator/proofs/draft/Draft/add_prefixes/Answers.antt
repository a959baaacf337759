-- `add_prefixes` meets its contract: the slice that is gone through holds the prefixes of c. Assumes nothing.
use mathlib.Core.Path.{◌≡◌}
use Rattle.few.proofs.Lent.{values_of}
use Rattle.digits.specs.Held.{nothing}
use Rattle.meaning.specs.Digits.{prefixes}
use Rattle.laws.proofs.Lists.Index.{get_or_in}
use Rattle.generator.proofs.DraftLaws.{part_start, part_open, part_odd, part_more, part_end}
use Rattle.generator.proofs.draft.Draft.add_prefixes.Goals as goal
use Rattle.generator.proofs.draft.Draft.add_prefixes.Goals.{After-deref-p-items}

its : (c : After-deref-p-items) → c.deref-p-items.result.now ≡ prefixes c.args.c
its c = values_of nothing c.deref-p-items.ensures c.prefixes_of-prefixes.ensures.value

pub loop-p-init : goal.loop-p-init
loop-p-init c = part_start c.requires.0

pub add_prefix-requires : goal.add_prefix-requires
add_prefix-requires c =
    let e = its (goal.at.add_prefix-requires c).After-deref-p-items in
    let h = rw e at c.loop-p-test.true in
    rw e (part_open c.requires.0 c.loop-p.invariant _ h, part_odd c.requires.0 c.loop-p.invariant _ (c.requires.1.steps _ (get_or_in (prefixes c.args.c) c.loop-p.p-index _ h)))

pub loop-p-preserved : goal.loop-p-preserved
loop-p-preserved c =
    let e = its (goal.at.loop-p-preserved c).After-deref-p-items in
    let h = rw e at c.loop-p-test.true in
    part_more c.requires.0 c.loop-p.invariant _ h (rw e at c.add_prefix.ensures)

pub returns : goal.returns
returns c = part_end c.requires.0 c.loop-p.invariant (rw (its (goal.at.returns c).After-deref-p-items) at c.loop-p-test.false)
