-- `numbers` meets its contract. The loop's invariant: the answer is that of the numbers from the place reached on, behind those that are held; as many
-- more may come as bytes are left. What is left of the text falls. Assumes nothing.
use Rattle.std.proofs.Common.{◌∙◌, ap, sym, refl, ◌+◌, ◌-◌, ◌≡◌, ◌<◌, List, ℕ, true, ◌∷◌, [], Some, length, arith}
use Rattle.meaning.specs.Text.{stands}
use Rattle.laws.proofs.Text.Bytes.{stands_within}
use mir.Syntax.{w32}
use mir.ValLaws.{to_z-of_z}
use Rattle.laws.proofs.Text.Numerals.{number_read}
use Rattle.laws.proofs.Text.Lines.{numbers_none}
use Rattle.text.specs.Held.{behind}
use Rattle.text.proofs.Held.{push_on, behind_all}
use Rattle.job.proofs.Lines.{numbers_open, numbers_last, numbers_more}
use Rattle.job.proofs.numbers.Goals as goal

pub loop-z-init : goal.loop-z-init
loop-z-init c = rw c.new-numbers.ensures (omega arith, (length c.args.s.now, omega arith, refl))

pub returns-in_err-z : goal.returns-in_err-z
returns-in_err-z c =
    let i = c.loop-z.invariant.1 in
    c.from_residual.ensures ∙ sym (i.2 ∙ ap (behind 128 _) (numbers_none _ _ i.0 (sym c.in_err-z.ensures)))

-- how far the text goes where a byte stands behind the number
within : (s : List ℕ) (p b : ℕ) → stands (b ∷ []) s p ≡ true → p < length s
within s p b e = omega (arith, stands_within (b ∷ []) s p e)

pub overflow_add-result : goal.overflow_add-result
overflow_add-result c = omega (arith, within _ _ _ (sym c.is.ensures ∙ c.if-is.true))

pub returns-then-is : goal.returns-then-is
returns-then-is c =
    let e = sym c.in_ok-z.ensures in
    let (k, f) = number_read _ _ _ _ e in
    let feed = sym c.is.ensures ∙ c.if-is.true in
    let h = within _ _ _ feed in
    let i = c.loop-z.invariant.1 in
    let l = i.1 in
    let p = c.try_push.ensures in
    let (n, q) = push_on 128 c.try_push.result c.loop-z.numbers c.try_push.new.self c.in_ok-z.z (Some ([], c.in_ok-z.next + 1)) p.variant (rw (to_z-of_z w32 c.in_ok-z.z f) at p.ok) p.err p.full in
    sym (i.2 ∙ ap (behind 128 _) (numbers_last _ _ _ _ e i.0 (omega arith) feed) ∙ q ∙ behind_all 128 _ _ n)

pub returns-then-not-is : goal.returns-then-not-is
returns-then-not-is c =
    let i = c.loop-z.invariant.1 in
    sym (i.2 ∙ ap (behind 128 _) (numbers_open _ _ _ _ (sym c.in_ok-z.ensures) i.0 (sym c.is-in-loop-z.ensures ∙ c.if-not-is.true) (sym c.is.ensures ∙ c.if-is.false)))

pub overflow_add-at : goal.overflow_add-at
overflow_add-at c = omega (arith, within _ _ _ (sym c.is-in-loop-z.ensures ∙ c.if-not-is.false))

pub loop-z-smaller : goal.loop-z-smaller
loop-z-smaller c =
    let k = (number_read _ _ _ _ (sym c.in_ok-z.ensures)).0 in
    let h = within _ _ _ (sym c.is-in-loop-z.ensures ∙ c.if-not-is.false) in
    omega arith

pub loop-z-preserved : goal.loop-z-preserved
loop-z-preserved c =
    let e = sym c.in_ok-z.ensures in
    let (k, f) = number_read _ _ _ _ e in
    let comma = sym c.is-in-loop-z.ensures ∙ c.if-not-is.false in
    let h = within _ _ _ comma in
    let i = c.loop-z.invariant.1 in
    let l = i.1 in
    let p = c.try_push.ensures in
    let (n, q) = push_on 128 c.try_push.result c.loop-z.numbers c.try_push.new.self c.in_ok-z.z _ p.variant (rw (to_z-of_z w32 c.in_ok-z.z f) at p.ok) p.err p.full in
    (n, (i.0 - 1, omega arith, i.2 ∙ ap (behind 128 _) (numbers_more _ _ _ _ e i.0 (omega arith) comma) ∙ q))
