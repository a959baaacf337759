-- `start` meets its contract: the map holds what nothing ready reaches, and `add` makes it hold what 1 reaches. Assumes nothing.
use mathlib.Core.Path.{refl}
use mathlib.Core.List.{[]}
use Prim.Native.Nat.{◌^◌, ◌≤◌}
use native.Mathlib.Omega.{arith}
use lib.Pow.{pow_mono}
use Rattle.search.proofs.Marks.{none_ready}
use Rattle.generator.proofs.Turns.{start_state}
use Rattle.generator.proofs.draft.Draft.start.Goals as goal

pub add-requires : goal.add-requires
add-requires c =
    let m : 2 ≤ 2 ^ c.args.limit = pow_mono {i = 1} {j = c.args.limit} c.requires.0 in
    (none_ready c.args.limit c.args.map.now [] _ c.requires.1, (refl, omega arith))

pub returns-clause-begun : goal.returns-clause-begun
returns-clause-begun c =
    let w = c.requires.1.wide in
    record {
      started = c.start-set.ensures;
      limit = refl;
      state =
          start_state c.args.limit c.add.new.map c.start-set.result c.requires.0 c.start-set.ensures
          (w.0, omega (arith, w.1, c.add.ensures.map_len_unchanged)) c.add.ensures.holds;
      words = refl;
    }
