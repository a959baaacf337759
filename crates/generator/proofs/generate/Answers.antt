-- `generate` meets its contract: refusals 1, 2, 3 and 4, else what `rows_by` makes by a map of zeros with a byte for each odd number.
-- Assumes nothing.
use mathlib.Core.Path.{◌≡◌, sym, ap, ◌∙◌}
use mathlib.Core.List.{[]}
use Prim.Native.Nat.{ℕ, ◌≤◌}
use native.Mathlib.Omega.{arith}
use Rattle.meaning.specs.declared.Refusal.TheVariants as no
use Rattle.meaning.specs.Limits.{limit}
use Rattle.meaning.specs.Refusals.{Accepted, admitted}
use lib.Dec.{leb, leb→le}
use Rattle.laws.proofs.Lists.Tests.{T_of}
use lib.ListN.{length}
use Rattle.laws.proofs.Refusals.Stages.{handed_on}
use Rattle.laws.proofs.Refusals.Checked.{admitted_of}
use Rattle.search.specs.Marks.{short_limit, long_limit}
use Rattle.search.proofs.Marks.{start_of}
use Rattle.generator.proofs.Answers.{drawn_stops, drawn_short, told_refused}
use Rattle.generator.proofs.generate.Goals as goal
use Rattle.generator.proofs.generate.Goals.{After-short_serves, Else-out-lt-FULL_LENGTH, In_ok-admit}

accepts : (c : In_ok-admit) → let a = c.args in admitted a.b a.ts.now ≡ Accepted
accepts c = sym c.admit.ensures ∙ c.in_ok-admit.was

pub returns-in_err-admit : goal.returns-in_err-admit
returns-in_err-admit c =
    let a = c.args in
    let refused = told_refused a.b a.ts.now (length a.out.now) _ a.out.now (drawn_stops _ _ _ _ (sym c.admit.ensures ∙ c.in_err-admit.was)) in
    record { answers = handed_on _ _ c.from_residual.ensures.1 ∙ refused.answers; writes = refused.writes }

pub returns-then-out-lt-FULL_LENGTH : goal.returns-then-out-lt-FULL_LENGTH
returns-then-out-lt-FULL_LENGTH c = told_refused _ _ _ no.Buffer _ (drawn_short _ _ _ (accepts (goal.at.returns-then-out-lt-FULL_LENGTH c).In_ok-admit) (omega (arith, c.if-out-lt-FULL_LENGTH.true)))

bits : (c : Else-out-lt-FULL_LENGTH) → let a = c.args in (2 ≤ a.b) × (a.b ≤ 16)
bits c = (admitted_of _ _ (accepts (goal.at.limit-requires c).In_ok-admit)).bits

pub limit-requires : goal.limit-requires
limit-requires c = (bits c).1

-- the limit that was tested
tested : (c : After-short_serves) → let a = c.args in c.short_serves.result ≡ leb (limit a.b) short_limit
tested c = c.short_serves.ensures ∙ ap (λ (L : ℕ). leb L short_limit) c.limit.ensures

pub rows_by-requires : goal.rows_by-requires
rows_by-requires c =
    let b = c.args.b in
    let short = leb→le (limit b) short_limit (T_of (sym (tested (goal.at.rows_by-requires c).After-short_serves) ∙ c.if-short_serves.true)) in
    (start_of (limit b) short_limit 4096 [] short (omega arith) (omega arith), accepts (goal.at.rows_by-requires c).In_ok-admit, omega (arith, c.if-out-lt-FULL_LENGTH.false))

pub rows_by-requires-2 : goal.rows_by-requires-2
rows_by-requires-2 c =
    let b = c.args.b in
    let long : limit b ≤ long_limit = omega (arith, bits (goal.at.rows_by-requires-2 c).Else-out-lt-FULL_LENGTH) in
    (start_of (limit b) long_limit 65536 [] long (omega arith) (omega arith), accepts (goal.at.rows_by-requires-2 c).In_ok-admit, omega (arith, c.if-out-lt-FULL_LENGTH.false))
