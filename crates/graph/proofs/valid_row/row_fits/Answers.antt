-- `row_fits` meets its contract. Assumes nothing.
use Rattle.graph.proofs.ValidRowLaws.{fits_first, fits_second, fits_read}
use Rattle.graph.proofs.valid_row.row_fits.Goals as goal
use Rattle.graph.proofs.valid_row.row_fits.Goals.{then-i-first-via-then-i-first, then-i-first-via-else-i-first+then-i-second}

pub returns-then-i-first : goal.returns-then-i-first
returns-then-i-first c =
    let e = c.after-x.ensures in
    elim c.then-i-first.branch [ then-i-first-via-then-i-first w ↦ fits_first _ _ _ (rw e at w.if-i-first.true) | then-i-first-via-else-i-first+then-i-second w ↦ fits_second _ _ _ (rw e at w.if-i-first.false) (rw e at w.if-i-second.true) ]

pub returns : goal.returns
returns c =
    fits_read _ _ _ c.after-x.result c.value_at-u.result c.value_at-v.result c.agrees.result c.requires.0 c.after-x.ensures
    c.if-i-first.false c.if-i-second.false c.value_at-u.ensures c.value_at-v.ensures c.agrees.ensures
