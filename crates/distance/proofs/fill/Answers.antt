-- `fill` meets its contract. The loop's invariant: the map holds what one operation on the values passed reaches. Assumes nothing.
use mathlib.Core.Path.{subst}
use mathlib.Core.List.{List}
use Prim.Native.Nat.{ℕ, ◌+◌}
use lib.ListN.{get_or}
use lib.Seq.{set-get_or}
use Rattle.search.specs.Marks.{State}
use Rattle.search.proofs.Marks.{include_is}
use Rattle.distance.proofs.fill.Goals as goal

pub add-requires : goal.add-requires
add-requires c = (c.loop-n.invariant, c.requires.1.1 c.loop-n.n c.loop-n-test.true)

pub loop-n-preserved : goal.loop-n-preserved
loop-n-preserved c =
    let a = c.args in
    let n = c.loop-n.n in
    let h = c.loop-n-test.true in
    let o = c.requires.1.1 n h in
    subst (λ (xs : List ℕ). State a.limit c.add.new.map xs (n + 1)) (set-get_or a.vals.now n 0)
    (include_is a.limit c.loop-n.map c.add.new.map a.vals.now n (get_or a.vals.now n 0) c.loop-n.invariant h o.0 o.1 c.add.ensures.map_len_unchanged c.add.ensures.holds)
