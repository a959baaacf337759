-- `add_first` meets its contract. Assumes nothing.
use mathlib.Core.Path.{sym, ◌∙◌}
use Rattle.generator.proofs.DraftLaws.{first_is, grown_none}
use Rattle.generator.proofs.draft.Draft.add_first.Goals as goal

pub returns-in_default : goal.returns-in_default
returns-in_default c = first_is c.args.c c.requires.0 (sym c.in_default.is ∙ c.choice_for.ensures) (grown_none 1 c.requires.0)

pub returns : goal.returns
returns c = first_is c.args.c c.requires.0 (sym c.in-Some.is ∙ c.choice_for.ensures) (rw c.row_of.ensures at c.add_row.ensures)
