-- What a ready set lists: how many values and which, of the set that starts, and of the set with one value more. Assumes nothing.
use mathlib.Core.Path.{◌≡◌, refl, sym, ap, ◌∙◌}
use Prim.Native.Nat.{ℕ, ◌+◌, ◌≤◌, ◌<◌, min}
use native.Mathlib.Numerals.{add-one}
use native.Mathlib.Omega.{arith}
use borrow.Author.Tests.{lt-ltb, le-ltb}
use lib.ListN.{length, get_or, set, length-set, length-take}
use lib.Seq.{get_or-take, take-suc-set}
use Rattle.meaning.specs.Limits.{most_ready}
use Rattle.search.specs.declared.ready.Ready.{Ready}
use Rattle.search.specs.Held.{listed, started, grown, Started, Added}

-- ---- what is listed

pub list_length_lem : (r : Ready) → length r.values ≡ most_ready → length (listed r) ≡ min r.count most_ready
list_length_lem r h = length-take r.count r.values ∙ ap (min r.count) h

pub list_at : (r : Ready) (i : ℕ) → i < r.count → get_or (listed r) i 0 ≡ get_or r.values i 0
list_at r i h = get_or-take r.count r.values i 0 h

-- ---- the start

pub start_is : Started started
unfolding started
start_is = record { is = refl; fit = record { places = refl; bound = omega arith }; one = refl; list = refl }

-- ---- one more

pub grown_room : (r : Ready) (v : ℕ) → r.count < most_ready → grown r v ≡ record { values = set r.values r.count v; count = r.count + 1 }
unfolding grown
grown_room r v h = rw (lt-ltb r.count most_ready h)

grown_full : (r : Ready) (v : ℕ) → most_ready ≤ r.count → grown r v ≡ r
unfolding grown
grown_full r v h = rw (le-ltb r.count most_ready h)

pub added_full : (r : Ready) (v : ℕ) → most_ready ≤ r.count → Added r v r
added_full r v h = record { is = sym (grown_full r v h); fit = λ f. f; more = λ l. absurd (omega arith); list = λ l. absurd (omega arith) }

pub added_room : (r : Ready) (v : ℕ) → length r.values ≡ most_ready → r.count < most_ready
    → Added r v (record { values = set r.values r.count v; count = r.count + 1 })
added_room r v e h =
    let l : r.count < length r.values = rw e h in
    record {
      is = sym (grown_room r v h);
      fit = λ f. record { places = length-set r.values r.count v ∙ e; bound = omega arith };
      more = λ _. refl;
      list = λ _. rw (add-one, take-suc-set);
    }
