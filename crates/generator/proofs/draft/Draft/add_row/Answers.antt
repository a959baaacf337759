-- `add_row` meets its contract. Assumes nothing.
use mathlib.Core.Path.{refl}
use Rattle.generator.proofs.DraftLaws.{grown_one}
use Rattle.generator.proofs.draft.Draft.add_row.Goals as goal

pub returns : goal.returns
returns c =
    grown_one c.args.x c.requires.0 c.requires.1 refl refl refl c.add.ensures.map_len_unchanged c.add.ensures.holds c.with-self.ensures c.put_row.ensures
