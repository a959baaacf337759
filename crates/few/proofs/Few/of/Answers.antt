-- `of` meets its contract; `take-length` is for the control of the edit `blanks_for_values`. Assumes nothing.
use Rattle.std.proofs.Common.{rules}
use lib.Seq.{take-length}
use Rattle.std.proofs.lemmas.List.{drop-replicate}
use Rattle.few.proofs.Few.of.Goals as goal

pub returns-clause-value : goal.returns-clause-value
returns-clause-value g c = search (rules, drop-replicate, take-length)
