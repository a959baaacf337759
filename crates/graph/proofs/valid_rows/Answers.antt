-- `valid_rows` meets its contract. Assumes nothing.
use mathlib.Core.Path.{◌≡◌, sym, ap₂, ◌∙◌}
use native.Mathlib.Omega.{arith}
use lib.ListN.{get_or, take}
use Rattle.meaning.specs.declared.Refusal.TheVariants as no
use Rattle.meaning.specs.Limits.{limit}
use Rattle.meaning.specs.Graph.{row_after, rows, does_fit}
use Rattle.laws.proofs.Graph.Rows.{length_rows, rows_take, row_of}
use Rattle.laws.proofs.Refusals.Members.{each_miss, each_hit, each_end}
use Rattle.graph.proofs.valid_rows.Goals as goal
use Rattle.graph.proofs.valid_rows.Goals.{After-row_fits}

-- the turn's test is the definition's
test_is : (c : After-row_fits) → let a = c.args in let xs = rows a.graph.count a.graph.words.now in
    c.row_fits.result ≡ does_fit (limit a.b) (take c.loop-i.i xs) (get_or xs c.loop-i.i (row_after a.graph.words.now 0))
test_is c =
    let a = c.args in
    c.row_fits.ensures
    ∙ sym (ap₂ (does_fit (limit a.b)) (rows_take a.graph.count a.graph.words.now c.loop-i.i (omega arith)) (row_of a.graph.count a.graph.words.now c.loop-i.i _ (omega arith)))

pub returns-then-not-row_fits : goal.returns-then-not-row_fits
returns-then-not-row_fits c =
    let a = c.args in
    sym
    (c.loop-i.invariant
    ∙ each_hit no.Row (does_fit (limit a.b)) (row_after a.graph.words.now 0) c.loop-i.i (rows a.graph.count a.graph.words.now)
    (omega (arith, length_rows a.graph.count a.graph.words.now)) (sym (test_is (goal.at.returns-then-not-row_fits c).After-row_fits) ∙ c.if-not-row_fits.true))

pub loop-i-preserved : goal.loop-i-preserved
loop-i-preserved c =
    let a = c.args in
    c.loop-i.invariant
    ∙ each_miss no.Row (does_fit (limit a.b)) (row_after a.graph.words.now 0) c.loop-i.i (rows a.graph.count a.graph.words.now)
    (omega (arith, length_rows a.graph.count a.graph.words.now)) (sym (test_is (goal.at.loop-i-preserved c).After-row_fits) ∙ c.if-not-row_fits.false)

pub returns : goal.returns
returns c =
    let a = c.args in
    sym
    (c.loop-i.invariant
    ∙ each_end no.Row (does_fit (limit a.b)) (row_after a.graph.words.now 0) c.loop-i.i (rows a.graph.count a.graph.words.now) (omega (arith, length_rows a.graph.count a.graph.words.now)))
