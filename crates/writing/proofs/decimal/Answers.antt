-- `decimal` meets its contract: what `io::decimal` writes is the number's text. Assumes nothing.
use mathlib.Core.Path.{◌≡◌, ◌∙◌}
use lib.ListN.{take}
use Rattle.meaning.specs.Text.{unsigned_text}
use Rattle.writing.proofs.Io.{unsigned_io}
use Rattle.writing.proofs.Writing.{same_text}
use Rattle.writing.proofs.decimal.Goals as goal
use Rattle.writing.proofs.decimal.Goals.{After-decimal-k}

written : (c : After-decimal-k) → take c.decimal-k.result c.decimal-k.new.out ≡ unsigned_text c.args.n
written c =
    c.decimal-k.ensures.digits ∙ unsigned_io c.decimal-k.result c.args.n c.decimal-k.ensures.len c.ranges.n.fits

pub put-requires : goal.put-requires
put-requires c = rw (written (goal.at.put-requires c).After-decimal-k) c.requires

pub returns : goal.returns
returns c = same_text (written (goal.at.returns c).After-decimal-k) c.put.ensures
