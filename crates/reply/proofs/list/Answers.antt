-- `list` meets its contract: a malformed text's refusal, or what its job gives. Assumes nothing.
use mathlib.Core.Path.{sym, ap, ◌∙◌, subst}
use lib.IntN.{pos}
use Rattle.few.proofs.Lent.{values_of}
use Rattle.meaning.specs.Job.{job_of}
use Rattle.meaning.specs.Listing.{refused_line, reply_to}
use Rattle.laws.proofs.Text.Asked.{targets_fit}
use Rattle.laws.proofs.Text.Jobs.{malformed_text, asked_text}
use Rattle.job.proofs.Lines.{job_asked, job_malformed}
use Rattle.reply.specs.Drawing.{Narrow, Lists}
use Rattle.reply.proofs.Orders.{lists_refused}
use Rattle.reply.proofs.list.Goals as goal

pub returns-in_err-job : goal.returns-in_err-job
returns-in_err-job c =
    let s = c.args.s.now in
    let (line, e, i) = job_malformed (job_of s) c.in_err-job.ensures in
    lists_refused _ _ c.from_residual.result _ c.from_residual.ensures.1 (malformed_text s line e ∙ ap refused_line (sym i))

pub draw-requires : goal.draw-requires
draw-requires c =
    let s = c.args.s.now in
    let (j, e, v) = job_asked (job_of s) c.in_ok-job.ensures in
    let k = values_of (pos 0) c.deref.ensures (ap (λ x. x.targets) v) in
    (c.requires, subst Narrow (sym k) (targets_fit s j e))

pub returns : goal.returns
returns c =
    let s = c.args.s.now in
    let (j, e, v) = job_asked (job_of s) c.in_ok-job.ensures in
    let k = values_of (pos 0) c.deref.ensures (ap (λ x. x.targets) v) in
    let i = ap (λ x. x.head) v in
    subst (λ t. Lists t c.draw.result c.args.out.now c.draw.new.out)
    ((λ n. reply_to (record { head = i n; targets = k n })) ∙ sym (asked_text s j e)) c.draw.ensures
