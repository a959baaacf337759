use Rattle.std.proofs.Common.{◌≡◌, ◌^◌, ◌<◌, length, drop}
use Rattle.meaning.specs.Text.{span, value_of}
use Rattle.text.proofs.decimal.value_of.Given as goal

abbrev pub invariant-loop-c : goal.invariant-loop-c
invariant-loop-c l =
    (span (drop l.c-index l.digits) ≡ length (drop l.c-index l.digits)) × (l.v < 10 ^ l.c-index) × (value_of 0 l.digits ≡ value_of l.v (drop l.c-index l.digits))
