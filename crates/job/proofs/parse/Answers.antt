-- `parse` meets its contract: the lines that were good so far decide the definition's steps, and the next one what is answered. Assumes nothing.
use Rattle.std.proofs.Common.{◌≡◌, ◌∙◌, sym, ap, rules, Some, arith}
use Rattle.std.specs.Option.{ok_or}
use mir.Syntax.{w32}
use mir.ValLaws.{to_z-of_z}
use Rattle.meaning.specs.declared.Refusal.TheVariants as no
use Rattle.meaning.specs.Forms.{line_at, bits_form, input_form}
use Rattle.meaning.specs.Job.{only, report_at}
use Rattle.job.proofs.Lines.{refusal_is, bad_1, bad_2, bad_3, bad_4, bad_5, job_read}
use Rattle.job.proofs.parse.Goals as goal
use Rattle.job.proofs.parse.Goals.{In_ok-bits, In_ok-input, In_ok-by_width}

-- what the three lines say
line1 : (c : In_ok-bits) → only (line_at bits_form c.args.s.now 0) ≡ Some (c.in_ok-bits.bits, c.in_ok-bits.at)
line1 c = sym c.number_line.ensures ∙ c.in_ok-bits.ensures.ok_part

line2 : (c : In_ok-input) → only (line_at input_form c.args.s.now c.in_ok-bits.at) ≡ Some (c.in_ok-input.input, c.in_ok-input.at)
line2 c = sym c.number_line-2.ensures ∙ c.in_ok-input.ensures.ok_part

line3 : (c : In_ok-by_width) → report_at c.args.s.now c.in_ok-input.at ≡ Some (c.in_ok-by_width.by_width, c.in_ok-by_width.at)
line3 c = sym c.report_line.ensures ∙ c.in_ok-by_width.ensures.ok_part

pub returns-in_err-bits : goal.returns-in_err-bits
returns-in_err-bits c =
    let e = c.in_err-bits.ensures in
    refusal_is c.from_residual.result c.from_residual.ensures.1 (e.value ∙ ap (λ o. ok_or o (no.Job 1)) e.ok_part)
    ∙ bad_1 c.args.s.now (omega arith) (sym c.number_line.ensures ∙ e.ok_part)

pub returns-in_err-input : goal.returns-in_err-input
returns-in_err-input c =
    let e = c.in_err-input.ensures in
    let at = goal.at.returns-in_err-input c in
    refusal_is c.from_residual-in_err-input.result c.from_residual-in_err-input.ensures.1 (e.value ∙ ap (λ o. ok_or o (no.Job 2)) e.ok_part)
    ∙ bad_2 c.args.s.now (omega arith) (line1 at.In_ok-bits) (sym c.number_line-2.ensures ∙ e.ok_part)

pub returns-in_err-by_width : goal.returns-in_err-by_width
returns-in_err-by_width c =
    let e = c.in_err-by_width.ensures in
    let at = goal.at.returns-in_err-by_width c in
    refusal_is c.from_residual-in_err-by_width.result c.from_residual-in_err-by_width.ensures.1 (e.value ∙ ap (λ o. ok_or o (no.Job 3)) e.ok_part)
    ∙ bad_3 c.args.s.now (omega arith) (line1 at.In_ok-bits) (line2 at.In_ok-input) (sym c.report_line.ensures ∙ e.ok_part)

pub returns-in_err-targets : goal.returns-in_err-targets
returns-in_err-targets c =
    let e = c.in_err-targets.ensures in
    let at = goal.at.returns-in_err-targets c in
    refusal_is c.from_residual-in_err-targets.result c.from_residual-in_err-targets.ensures.1 (e.value ∙ ap (λ o. ok_or o (no.Job 4)) e.ok_part)
    ∙ bad_4 c.args.s.now (omega arith) (line1 at.In_ok-bits) (line2 at.In_ok-input) (line3 at.In_ok-by_width) (sym c.targets_line.ensures ∙ e.ok_part)

pub returns-then-at-s : goal.returns-then-at-s
returns-then-at-s c =
    let at = goal.at.returns-then-at-s c in
    bad_5 c.args.s.now (omega arith) (line1 at.In_ok-bits) (line2 at.In_ok-input) (line3 at.In_ok-by_width) (sym c.targets_line.ensures ∙ c.in_ok-targets.ensures.ok_part) c.if-at-s.true

pub returns : goal.returns
returns c =
    let at = goal.at.returns c in
    rw (to_z-of_z w32 c.in_ok-bits.bits (search rules), to_z-of_z w32 c.in_ok-input.input (search rules), c.of.ensures.value)
    (job_read c.args.s.now (omega arith) (line1 at.In_ok-bits) (line2 at.In_ok-input) (line3 at.In_ok-by_width) (sym c.targets_line.ensures ∙ c.in_ok-targets.ensures.ok_part) c.if-at-s.false)
