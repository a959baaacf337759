use Rattle.std.proofs.Common.{◌≡◌, ℕ, ◌+◌, ◌-◌, ◌≤◌, length}
use Rattle.meaning.specs.Job.{numbers}
use Rattle.text.specs.Held.{held, behind}
use Rattle.job.proofs.numbers.Given as goal

-- as many numbers may come as bytes are left
abbrev pub invariant-loop-z : goal.invariant-loop-z
invariant-loop-z l =
    (length l.numbers.items ≤ 128)
    × ((most : ℕ) × (length l.s ≤ l.at + most) × (held 128 (numbers (length l.s) l.s l.from) ≡ behind 128 l.numbers.items (numbers most l.s l.at)))

abbrev pub decreases-loop-z : goal.decreases-loop-z
decreases-loop-z l = length l.s - l.at
