-- No text that is printed is longer than text_room: neither a listing nor the line of a refusal. Assumes nothing.
use mathlib.Core.Path.{◌≡◌, refl, sym, ap, ◌∙◌, subst, subst⁻¹}
use Rattle.std.specs.Prelude.{Ok, Err}
use mathlib.Core.Bool.{Bool, false}
use mathlib.Core.List.{List, [], ◌∷◌, ◌++◌}
use Prim.Native.Nat.{ℕ, ◌^◌, ◌≤◌}
use native.Mathlib.Omega.{arith}
use lib.Dec.{T, ltb, leb→le}
use lib.IntN.{ℤ, pos}
use lib.ListN.{length, get_or, length-append}
use mir.Syntax.{w32}
use mir.Val.{SFits}
use Rattle.meaning.specs.declared.Head.{Head}
use Rattle.meaning.specs.declared.Refusal.{Refusal}
use Rattle.meaning.specs.declared.Refusal.TheVariants as no
use Rattle.meaning.specs.declared.Row.{Row}
use Rattle.meaning.specs.Constants.{odd_of}
use Rattle.meaning.specs.Graph.{flat}
use Rattle.meaning.specs.Job.{Asked, Job, asks, malformed, job_of, bits_of, input_of, rows_of, job_order}
use Rattle.meaning.specs.Limits.{bit_tests, between, most_targets, width_tests}
use Rattle.meaning.specs.Listing.{graph_in, listing_of, listing, refused_line, or_refused, reply_to, job_text, text_room}
use Rattle.meaning.specs.Refusals.{Answer, Accepted, place_of, first_of, bit_limit, list_length, odd_parts, input_width, admitted}
use Rattle.laws.proofs.Generator.Generated.{generated_accepted}
use Rattle.laws.proofs.Graph.Rows.{rows_flat}
use Rattle.laws.proofs.Refusals.Checked.{GoodWidth, good_of}
use Rattle.laws.proofs.Refusals.Members.{each_refuses}
use Rattle.laws.proofs.Refusals.Stages.{never_both, refused_same, need_accepts, need_refuses, last}
use Rattle.laws.proofs.Text.Asked.{targets_fit, malformed_most}
use Rattle.laws.proofs.Text.Jobs.{malformed_text, asked_text, reply_by, positive, job_stops, job_passes}
use Rattle.laws.proofs.Text.Listings.{listing_room, refused_room}

-- ---- a listing

-- of a graph that is not refused, for an input width that is not
pub graph_room : (h : Head) (ts : List ℤ) (n : ℕ) (w : List ℕ) → GoodWidth (bits_of h) ts n w (input_of h) → ((i : ℕ) → SFits w32 (get_or ts i (pos 0)))
    → length (listing_of (graph_in h ts n w)) ≤ text_room
graph_room h ts n w good fit =
    let b = good.good.admits.bits in
    let input = good.width in
    let e : ◌≡◌ {A = Head} (record { bits = pos (bits_of h); input = pos (input_of h); by_width = h.by_width }) h =
    λ i. record { bits = positive h.bits (omega arith) i; input = positive h.input (omega arith) i; by_width = h.by_width } in
    subst (λ (k : Head). length (listing_of (graph_in k ts n w)) ≤ text_room) e (listing_room (bits_of h) ts n w (input_of h) h.by_width good fit)

-- ---- the line of a refusal

-- no place is above the number of targets
place_most : (b : ℕ) (ts : List ℤ) (why : Refusal) → admitted b ts ≡ Err why → place_of why ≤ most_targets
unfolding admitted
place_most b ts why e = go (bit_limit b) refl (list_length ts) refl (odd_parts b ts) refl e
  where
    none : (y : Refusal) → place_of y ≡ 0 → y ≡ why → place_of why ≤ most_targets
    none y h e = omega (arith, ap place_of e)

    go : (p : Answer) → bit_limit b ≡ p → (q : Answer) → list_length ts ≡ q → (r : Answer) → odd_parts b ts ≡ r → first_of (p ∷ q ∷ r ∷ []) ≡ Err why
        → place_of why ≤ most_targets
    go (Err y) f q g r h e = none no.Bits refl ((need_refuses no.Bits y (bit_tests b) f).1 ∙ refused_same y why e)
    go (Ok _) f (Err y) g r h e = none no.List refl ((need_refuses no.List y (between 1 most_targets (length ts)) g).1 ∙ refused_same y why e)
    go (Ok _) f (Ok _) g (Err y) h e =
        let test : List ℤ → ℤ → Bool = λ _ t. ltb (odd_of t) (2 ^ b) in
        let (p, first, q) = each_refuses no.OddPart test (λ l t. test l t ≡ false) (λ _ _ t k. subst T k t) (λ _ _ k. k) ts y h in
        let few = leb→le (length ts) most_targets (need_accepts no.List (between 1 most_targets (length ts)) g).1.0 in
        omega (arith, ap place_of (sym q ∙ refused_same y why e), first.place, ap length first.split, length-append first.before (first.there ∷ first.behind))
    go (Ok _) f (Ok _) g (Ok _) h e = never_both why e

refused_most : (why : Refusal) → place_of why ≤ most_targets → length (refused_line why) ≤ text_room
refused_most why h = omega (arith, refused_room why (omega arith))

-- ---- what is printed

module _ (s : List ℕ) where
  listed_room_lem : (j : Asked) → job_of s ≡ asks j → admitted (bits_of j.head) j.targets ≡ Accepted → input_width (input_of j.head) ≡ Accepted → length (listing j) ≤ text_room
  unfolding listing
  listed_room_lem j e a k =
      let b = bits_of j.head in
      let ts = j.targets in
      let xs = rows_of j in
      let tests = need_accepts no.Width (width_tests (input_of j.head)) k in
      let good : GoodWidth b ts (length xs) (flat xs ++ []) (input_of j.head) =
      record {
        good = good_of b ts (length xs) (flat xs ++ []) (generated_accepted b ts a []);
        width = (leb→le _ _ tests.0, leb→le _ _ tests.1.0);
      } in
      subst (λ (ys : List Row). length (listing_of (record { head = j.head; rows = ys; targets = ts })) ≤ text_room) (rows_flat xs [])
      (graph_room j.head ts (length xs) (flat xs ++ []) good (targets_fit s j e))

  reply_room : (j : Asked) → job_of s ≡ asks j → length (reply_to j) ≤ text_room
  reply_room j e = go (admitted (bits_of j.head) j.targets) refl (input_width (input_of j.head)) refl
    where
      by : (a : Answer) → first_of (job_order j) ≡ a → length (or_refused a (listing j)) ≤ text_room → length (reply_to j) ≤ text_room
      by a f h = subst⁻¹ (λ (l : List ℕ). length l ≤ text_room) (reply_by j a f) h

      go : (a : Answer) → admitted (bits_of j.head) j.targets ≡ a → (w : Answer) → input_width (input_of j.head) ≡ w → length (reply_to j) ≤ text_room
      go (Err why) f w g = by (Err why) (job_stops j why f) (refused_most why (place_most (bits_of j.head) j.targets why f))
      go (Ok _) f (Ok _) g = by Accepted (job_passes j f ∙ last (input_width (input_of j.head)) ∙ g) (listed_room_lem j e f g)
      go (Ok _) f (Err why) g =
          by (Err why) (job_passes j f ∙ last (input_width (input_of j.head)) ∙ g)
          (refused_most why (omega (arith, ap place_of (need_refuses no.Width why (width_tests (input_of j.head)) g).1)))

  pub text_room_lem : length (job_text s) ≤ text_room
  text_room_lem = go (job_of s) refl
    where
      go : (k : Job) → job_of s ≡ k → length (job_text s) ≤ text_room
      go (malformed line) e = subst⁻¹ (λ (l : List ℕ). length l ≤ text_room) (malformed_text s line e) (refused_most (no.Job line) (omega (arith, malformed_most s line e)))
      go (asks j) e = subst⁻¹ (λ (l : List ℕ). length l ≤ text_room) (asked_text s j e) (reply_room j e)
