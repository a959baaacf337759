-- What the call prints: nothing into a short buffer, else a job's text over the front. Assumes nothing.
use mathlib.Core.Path.{◌≡◌, refl, sym, ap, ◌∙◌}
use Rattle.std.specs.Prelude.{Ok, Err}
use mathlib.Core.List.{List, ◌++◌}
use Prim.Native.Nat.{ℕ, ◌+◌, ◌≤◌, ◌<◌}
use native.Mathlib.Omega.{arith}
use borrow.Author.Tests.{le-leb, lt-leb}
use lib.ListN.{length, drop}
use lib.Seq.{sets, sets-eq}
use Rattle.meaning.specs.declared.Refusal.TheVariants as no
use Rattle.meaning.specs.Basics.{over}
use Rattle.meaning.specs.Listing.{job_text, printed_told, text_written, text_room}
use Rattle.meaning.specs.Refusals.{Done}
use Rattle.laws.proofs.Refusals.Stages.{over_none}
use Rattle.writing.specs.Wrote.{Wrote}

module _ (s : List ℕ) where
  pub print_short : (old : List ℕ) → length old < text_room → Done (printed_told s (length old)) (text_written s (length old)) (Err no.Buffer) old old
  unfolding printed_told text_written
  print_short old h = record { answers = rw (lt-leb _ _ h); writes = rw (lt-leb _ _ h) (sym (over_none old)) }

  -- what is told and written where there is room
  pub told_is : (room : ℕ) → text_room ≤ room → printed_told s room ≡ Ok (length (job_text s))
  unfolding printed_told
  told_is room h = rw (le-leb text_room room h) refl

  pub written_is : (before : List ℕ) → text_room ≤ length before → over (text_written s (length before)) before ≡ job_text s ++ drop (length (job_text s)) before
  unfolding text_written over
  written_is before h = rw (le-leb text_room (length before) h) refl

-- a text from the front
pub front_is : (text before : List ℕ) → 0 + length text ≤ length before → sets before 0 text ≡ text ++ drop (length text) before
front_is text before h = let k : 0 + length text ≡ length text = omega arith in sets-eq text before 0 h ∙ ap (λ j. text ++ drop j before) k

pub print_text : (s text before now : List ℕ) (n : ℕ) → text_room ≤ length before → job_text s ≡ text → Wrote before 0 text now n
    → Done (printed_told s (length before)) (text_written s (length before)) (Ok n) before now
print_text s text before now n h e w = grind (arith, told_is, written_is, front_is)
