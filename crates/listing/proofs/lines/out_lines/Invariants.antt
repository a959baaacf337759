use lib.ListN.{take}
use Rattle.meaning.specs.Forms.{lines_of, out_form}
use Rattle.meaning.specs.Listing.{outs_from}
use Rattle.writing.specs.Wrote.{Wrote}
use Rattle.listing.proofs.lines.out_lines.Given as goal

abbrev pub invariant-loop-k : goal.invariant-loop-k
invariant-loop-k l = Wrote l.initial.out l.from (lines_of out_form (take l.k (outs_from l.input l.values 1 l.ts))) l.out l.at
