use Rattle.std.proofs.Common.{◌≡◌, ◌≤◌, length, drop}
use Rattle.meaning.specs.Forms.{line_at}
use Rattle.text.specs.Held.{held, behind}
use Rattle.text.proofs.forms.line_at.Given as goal

abbrev pub invariant-loop-c : goal.invariant-loop-c
invariant-loop-c l = (length l.numbers.items ≤ 16) × (held 16 (line_at l.form l.s l.from) ≡ behind 16 l.numbers.items (line_at (drop l.c-index l.form) l.s l.at))
