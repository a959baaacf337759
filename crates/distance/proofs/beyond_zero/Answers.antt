-- `beyond_zero` meets its contract: each map of zeros has a byte for each odd number, and is that of no value. Assumes nothing.
use mathlib.Core.Path.{sym, ◌∙◌}
use native.Mathlib.Omega.{arith}
use lib.Dec.{leb→le}
use Rattle.laws.proofs.Lists.Tests.{T_of}
use Rattle.search.specs.Marks.{short_limit, long_limit}
use Rattle.search.proofs.Marks.{start_of}
use Rattle.distance.proofs.beyond_zero.Goals as goal

pub beyond_by-requires : goal.beyond_by-requires
beyond_by-requires c =
    let a = c.args in
    let short = leb→le a.limit short_limit (T_of (sym c.short_serves.ensures ∙ c.if-short_serves.true)) in
    (start_of a.limit short_limit 4096 a.vals.now short (omega arith) (omega arith), c.requires.1)

pub beyond_by-requires-2 : goal.beyond_by-requires-2
beyond_by-requires-2 c =
    let a = c.args in
    (start_of a.limit long_limit 65536 a.vals.now c.requires.0 (omega arith) (omega arith), c.requires.1)
