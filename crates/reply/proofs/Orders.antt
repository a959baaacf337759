-- A job that is not malformed: a graph that was drawn for it and its listing, and the replies. Assumes nothing.
use mathlib.Core.Path.{◌≡◌, refl, ap, sym, ◌∙◌}
use Rattle.std.specs.Prelude.{Result, Ok, Err, IsErrAnd}
use mathlib.Core.Bool.{Bool, true, false}
use mathlib.Core.List.{List, []}
use Prim.Native.Nat.{ℕ, ◌≤◌}
use native.Mathlib.Omega.{arith}
use lib.IntN.{ℤ, pos}
use lib.ListN.{get_or}
use mir.Syntax.{w32}
use mir.Val.{SFits}
use Rattle.meaning.specs.declared.Head.{Head}
use Rattle.meaning.specs.declared.Refusal.{Refusal}
use Rattle.meaning.specs.declared.Refusal.TheVariants as no
use Rattle.meaning.specs.declared.Row.{Row}
use Rattle.meaning.specs.Basics.{all}
use Rattle.meaning.specs.Job.{Asked, bits_of, input_of}
use Rattle.meaning.specs.Listing.{graph_in, listing_of, refused_line, reply_to, listing, text_room}
use Rattle.meaning.specs.Limits.{width_tests}
use Rattle.meaning.specs.Refusals.{Accepted, admitted}
use Rattle.laws.proofs.Refusals.Checked.{good_of}
use Rattle.laws.proofs.Text.Jobs.{reply_by, job_stops, job_passes}
use Rattle.laws.proofs.Text.Room.{graph_room}
use Rattle.laws.proofs.Refusals.Stages.{stops, passes}
use Rattle.listing.specs.Parts.{Listable}
use Rattle.reply.specs.Drawing.{Drawing, Lists}

-- ---- a graph that was drawn

module _ (h : Head) (ts : List ℤ) (w : List ℕ) (n : ℕ) (d : Drawing (bits_of h) ts w n) where
  -- its listing is the job's
  pub drawn_listing : listing_of (graph_in h ts n w) ≡ listing (record { head = h; targets = ts })
  unfolding listing
  drawn_listing = ap (λ (xs : List Row). listing_of (record { head = h; rows = xs; targets = ts })) d.rows_are

  module _ (low : 2 ≤ input_of h) (high : input_of h ≤ 32) (fit : (i : ℕ) → SFits w32 (get_or ts i (pos 0))) where
    -- and there is room for it
    pub drawn_listable : (room : ℕ) → text_room ≤ room → Listable h ts n w room
    drawn_listable room r =
        let g = good_of (bits_of h) ts n w d.accepted in
        let l = graph_room h ts n w (record { good = g; width = (low, high) }) fit in
        record { few = g.room.0; within = g.room.1; targets = g.admits.list.1; fits = omega arith }

-- ---- a text that is listed, or refused

pub lists_refused : (text before : List ℕ) (r : Result ℕ Refusal) (why : Refusal) → IsErrAnd r (λ y. y ≡ why) → text ≡ refused_line why → Lists text r before before
lists_refused text before (Ok end) why h e = absurd h
lists_refused text before (Err y) why h e = (e ∙ ap refused_line (sym h), refl)

-- ---- the replies

abbrev pub all_tests : ℕ → Bool
all_tests w = all (width_tests w)

module _ (j : Asked) (e : admitted (bits_of j.head) j.targets ≡ Accepted) where
  pub reply_width : (all_tests (input_of j.head) ≡ false) → reply_to j ≡ refused_line no.Width
  reply_width h = reply_by j (Err no.Width) (job_passes j e ∙ stops no.Width (width_tests (input_of j.head)) [] h)

  pub reply_listing : all_tests (input_of j.head) ≡ true → reply_to j ≡ listing j
  reply_listing h = reply_by j Accepted (job_passes j e ∙ passes no.Width (width_tests (input_of j.head)) [] h)

pub reply_refused : (j : Asked) (why : Refusal) → admitted (bits_of j.head) j.targets ≡ Err why → reply_to j ≡ refused_line why
reply_refused j why e = reply_by j (Err why) (job_stops j why e)
