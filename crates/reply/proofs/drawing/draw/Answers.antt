-- `draw` meets its contract: the generator's refusal, refusal 9, or the listing of the rows that were drawn. Assumes nothing.
use mathlib.Core.Path.{◌≡◌, refl, sym, ap, ◌∙◌, subst}
use Prim.Native.Nat.{ℕ}
use native.Mathlib.Omega.{arith}
use lib.Dec.{leb→le}
use mir.Syntax.{w32}
use mir.Val.{SFits}
use mir.ValLaws.{to_z-of_z}
use borrow.Author.Rules.{rules}
use Rattle.meaning.specs.Job.{Asked, bits_of, input_of}
use Rattle.meaning.specs.Limits.{width_tests}
use Rattle.meaning.specs.Refusals.{admitted}
use Rattle.laws.proofs.Generator.Generated.{call_of, call_rows, call_accepted, call_refused}
use Rattle.laws.proofs.Lists.Tests.{T_of, all_of}
use Rattle.writing.proofs.Writing.{same_text}
use Rattle.reply.specs.Drawing.{Drawing}
use Rattle.reply.proofs.Orders.{all_tests, drawn_listing, drawn_listable, lists_refused, reply_refused, reply_width, reply_listing}
use Rattle.reply.proofs.drawing.draw.Goals as goal
use Rattle.reply.proofs.drawing.draw.Goals.{After-within, In_ok-n, Start}

abbrev job : Start → Asked
job f = record { head = f.args.head; targets = f.args.ts.now }

drawing : (c : In_ok-n) → Drawing (bits_of c.args.head) c.args.ts.now c.generate.new.out c.in_ok-n.n
drawing c =
    let h : SFits w32 c.args.head.bits = search rules in
    let bits = rw (to_z-of_z w32 _ h) at c.natural.ensures in
    let k = call_of c.natural.result c.args.ts.now c.in_ok-n.n _ c.generate.new.out c.in_ok-n.ensures in
    subst (λ (m : ℕ). Drawing m c.args.ts.now c.generate.new.out c.in_ok-n.n) bits
    (record { admits = k.admits; accepted = call_accepted _ _ _ _ _ k; rows_are = call_rows _ _ _ _ _ k })

-- the input width is tested
tested : (c : After-within) → c.within.result ≡ all_tests (input_of c.args.head)
tested c =
    let h : SFits w32 c.args.head.input = search rules in
    let e = rw (to_z-of_z w32 _ h) at c.natural-2.ensures in
    c.within.ensures ∙ ap all_tests e

pub returns-in_err-n : goal.returns-in_err-n
returns-in_err-n c =
    let h : SFits w32 c.args.head.bits = search rules in
    let bits = rw (to_z-of_z w32 _ h) at c.natural.ensures in
    let e = call_refused _ c.args.ts.now 896 _ (omega arith) c.in_err-n.ensures.answers in
    lists_refused _ _ c.from_residual.result _ c.from_residual.ensures.1
    (reply_refused (job (goal.at.returns-in_err-n c).Start) _ (ap (λ (b : ℕ). admitted b c.args.ts.now) (sym bits) ∙ e))

pub returns-then-not-within : goal.returns-then-not-within
returns-then-not-within c =
    let at = goal.at.returns-then-not-within c in
    (reply_width (job at.Start) (drawing at.In_ok-n).admits (sym (tested at.After-within) ∙ c.if-not-within.true), refl)

pub write-requires : goal.write-requires
write-requires c =
    let at = goal.at.write-requires c in
    let (low, (high, _)) = all_of (width_tests (input_of c.args.head)) (T_of (sym (tested at.After-within) ∙ c.if-not-within.false)) in
    drawn_listable c.args.head c.args.ts.now c.generate.new.out c.in_ok-n.n (drawing at.In_ok-n) (leb→le _ _ low) (leb→le _ _ high) c.requires.1 _ c.requires.0

pub returns : goal.returns
returns c =
    let a = c.args in
    let at = goal.at.returns c in
    let d = drawing at.In_ok-n in
    same_text
    (drawn_listing a.head a.ts.now c.generate.new.out c.in_ok-n.n d
    ∙ sym (reply_listing (job at.Start) d.admits (sym (tested at.After-within) ∙ c.if-not-within.false)))
    c.write.ensures
