use Rattle.meaning.specs.Digits.{prefixes}
use Rattle.generator.proofs.DraftLaws.{Part}
use Rattle.generator.proofs.draft.Draft.add_prefixes.Given as goal

abbrev pub invariant-loop-p : goal.invariant-loop-p
invariant-loop-p l = Part l.initial.self (prefixes l.c) l.p-index l.self
