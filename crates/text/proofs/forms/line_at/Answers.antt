-- `line_at` meets its contract. The loop's invariant: what is left of the form decides the rest. Assumes nothing.
use Rattle.std.proofs.Common.{◌∙◌, ap, sym, Some, arith}
use mir.Syntax.{w32}
use mir.ValLaws.{to_z-of_z}
use Rattle.laws.proofs.Text.Bytes.{stands_within}
use Rattle.laws.proofs.Text.Numerals.{number_read}
use Rattle.text.specs.Held.{behind, handed}
use Rattle.text.proofs.Held.{push_on, behind_all, takes, takes_none, line_ends, number_bad, number_good, byte_bad, byte_good}
use Rattle.text.proofs.forms.line_at.Goals.{then-taken-gt0+in_ok-z, else-taken-gt0+then-is}
use Rattle.text.proofs.forms.line_at.Goals as goal

pub returns-in_err-z : goal.returns-in_err-z
returns-in_err-z c =
    c.from_residual.ensures
    ∙ ap (handed 16) (sym (c.loop-c.invariant.1 ∙ ap (behind 16 _) (number_bad _ _ _ _ c.loop-c-test.true (takes _ c.taken.ensures c.if-taken-gt0.true) (sym (c.in_err-z.ensures)))))

pub overflow_add-at : goal.overflow_add-at
overflow_add-at c = omega (arith, stands_within _ _ _ (sym c.is.ensures ∙ c.if-is.true))

pub returns-else-is : goal.returns-else-is
returns-else-is c =
    ap (handed 16) (sym (c.loop-c.invariant.1 ∙ ap (behind 16 _) (byte_bad _ _ _ _ c.loop-c-test.true (takes_none _ c.taken.ensures c.if-taken-gt0.false) (sym c.is.ensures ∙ c.if-is.false))))

pub loop-c-preserved : goal.loop-c-preserved
loop-c-preserved c =
    let i = c.loop-c.invariant in
    let t = c.loop-c-test.true in
    elim c.if-taken-gt0.branch [
      | then-taken-gt0+in_ok-z w ↦
          let p = w.try_push.ensures in
          let k = sym w.in_ok-z.ensures in
          let ok = rw (to_z-of_z w32 w.in_ok-z.z ((number_read _ _ _ _ k).1)) at p.ok in
          let (n, e) = push_on 16 w.try_push.result c.loop-c.numbers w.try_push.new.self w.in_ok-z.z _ p.variant ok p.err p.full in
          rw (w.numbers-is, w.at-is) (n, i.1 ∙ ap (behind 16 _) (number_good _ _ _ _ t (takes _ c.taken.ensures w.if-taken-gt0.true) k) ∙ e)
      | else-taken-gt0+then-is w ↦
          rw (w.numbers-is, w.at-is) (i.0, i.1 ∙ ap (behind 16 _) (byte_good _ _ _ _ t (takes_none _ c.taken.ensures w.if-taken-gt0.false) (sym w.is.ensures ∙ w.if-is.true)))
    ]

pub returns : goal.returns
returns c =
    ap (λ v. Some (v, c.loop-c.at)) c.of.ensures.value
    ∙ ap (handed 16) (sym (c.loop-c.invariant.1 ∙ ap (behind 16 _) (line_ends _ _ _ _ c.loop-c-test.false) ∙ behind_all 16 _ _ c.loop-c.invariant.0))
