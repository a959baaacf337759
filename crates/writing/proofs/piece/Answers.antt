-- `piece` meets its contract: a number, or the byte. Assumes nothing.
use mathlib.Core.Path.{ap}
use native.Mathlib.Omega.{arith}
use lib.IntN.{pos}
use lib.ListN.{length, length-set, get_or}
use mir.Syntax.{w64}
use mir.Val.{SFits}
use mir.ValLaws.{to_z-of_z}
use borrow.Author.Rules.{rules}
use Rattle.std.specs.Slice.Iter.{iter_rest}
use Rattle.writing.proofs.Writing.{same_text, byte, piece_number, piece_byte}
use Rattle.writing.proofs.piece.Goals as goal

pub number-requires : goal.number-requires
number-requires c =
    let h : SFits w64 c.next.result = search rules in
    rw (to_z-of_z w64 _ h, c.next.ensures.value, piece_number c.args.c (get_or (iter_rest c.args.numbers.now) 0 (pos 0)) (omega arith)) c.requires

pub bounds-out-at : goal.bounds-out-at
bounds-out-at c = omega (arith, ap length (piece_byte c.args.c (get_or (iter_rest c.args.numbers.now) 0 (pos 0)) (λ h. omega arith)), c.requires)

pub shape_of-out : goal.shape_of-out
shape_of-out c = simp length-set

pub returns-clause-wrote : goal.returns-clause-wrote
returns-clause-wrote c = same_text (piece_byte c.args.c _ (λ h. omega arith)) (byte _ _ _ (bounds-out-at c))
