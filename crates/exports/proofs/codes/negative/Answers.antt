-- `negative` meets its contract: k is below 2^63, so it and -k fit. Assumes nothing.
use mathlib.Core.Path.{◌∙◌}
use lib.IntN.{+ℤ_idl}
use mir.Syntax.{w64}
use mir.ValLaws.{to_z-of_z, to_z_pos}
use Rattle.exports.specs.Codes.{minus}
use Rattle.exports.proofs.Fits.{minus_fits}
use Rattle.exports.proofs.codes.negative.Goals as goal

pub overflow_sub-result : goal.overflow_sub-result
overflow_sub-result c = rw (to_z_pos w64 c.args.k c.requires) (minus_fits c.args.k c.requires)

pub returns : goal.returns
unfolding minus
returns c = to_z-of_z w64 _ (overflow_sub-result c) ∙ rw (to_z_pos w64 c.args.k c.requires) (+ℤ_idl _)
