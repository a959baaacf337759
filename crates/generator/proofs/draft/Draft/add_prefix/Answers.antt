-- `add_prefix` meets its contract. Assumes nothing.
use mathlib.Core.Path.{sym, ◌∙◌}
use Rattle.generator.proofs.DraftLaws.{prefix_none, prefix_open, prefix_one}
use Rattle.generator.proofs.draft.Draft.add_prefix.Goals as goal

pub returns-then-has : goal.returns-then-has
returns-then-has c = prefix_none c.args.p c.requires.0 (sym c.has.ensures ∙ c.if-has.true)

pub add_row-requires : goal.add_row-requires
add_row-requires c = (prefix_open c.args.p c.requires.0 (sym c.has.ensures ∙ c.if-has.false), c.requires.1)

pub returns : goal.returns
returns c = prefix_one c.args.p c.requires.0 (sym c.has.ensures ∙ c.if-has.false) c.index_of.ensures c.add_row.ensures
