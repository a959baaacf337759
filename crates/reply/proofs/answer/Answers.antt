-- `answer` meets its contract: refusal 4 for a short buffer, else the job's text over the front. Assumes nothing.
use mathlib.Core.Path.{refl}
use native.Mathlib.Omega.{arith}
use Rattle.reply.proofs.Printing.{print_short, print_text}
use Rattle.reply.proofs.answer.Goals as goal

pub returns-then-out-lt-TEXT_ROOM : goal.returns-then-out-lt-TEXT_ROOM
returns-then-out-lt-TEXT_ROOM c = print_short _ _ (omega arith)

pub returns-in-Ok : goal.returns-in-Ok
returns-in-Ok c = print_text c.args.s.now _ _ _ _ (omega arith) refl c.in-Ok.ensures
