-- `head_lines` meets its contract: five lines, one after the other. Assumes nothing.
use mathlib.Core.Path.{◌≡◌, ◌∙◌}
use mathlib.Core.List.{List, [], ◌∷◌, ◌++◌}
use Prim.Native.Nat.{ℕ, ◌+◌, ◌≤◌}
use native.Mathlib.Omega.{arith}
use lib.IntN.{pos}
use lib.ListN.{length}
use mir.Syntax.{w32, w64}
use mir.Val.{SFits, to_z, of_z}
use mir.ValLaws.{to_z-of_z, to_z_pos}
use borrow.Author.Rules.{rules}
use Rattle.meaning.specs.Forms.{line_of, bits_form, input_form, report_text, adders_form, csd_form}
use Rattle.meaning.specs.declared.Head.{Head}
use Rattle.meaning.specs.Listing.{head_text}
use Rattle.writing.specs.Wrote.{Wrote}
use Rattle.writing.proofs.Writing.{◌⨾◌, room, front_fits}
use Rattle.listing.proofs.head.head_lines.Goals as goal
use Rattle.listing.proofs.head.head_lines.Goals.{After-from, After-from-2, After-from-3, After-number_line-at, After-number_line-at-2, After-number_line-at-3, After-report-at, Start}

-- the texts, up to each line
abbrev bits : Head → List ℕ
bits h = line_of bits_form (h.bits ∷ [])

abbrev input : Head → List ℕ
input h = bits h ++ line_of input_form (h.input ∷ [])

abbrev order : Head → List ℕ
order h = input h ++ report_text h.by_width

abbrev adders : Head → ℕ → List ℕ
adders h n = order h ++ line_of adders_form (pos n ∷ [])

abbrev csd : Head → ℕ → ℕ → List ℕ
csd h n k = adders h n ++ line_of csd_form (pos k ∷ [])

-- there is room for each
module _ (h : Head) (n k places : ℕ) (whole_fits : length (head_text h n k) ≤ places) where
  fits5 : 0 + length (csd h n k) ≤ places
  unfolding head_text
  fits5 = omega arith

  fits4 : 0 + length (adders h n) ≤ places
  fits4 = front_fits 0 (adders h n) (line_of csd_form (pos k ∷ [])) fits5

  fits3 : 0 + length (order h) ≤ places
  fits3 = front_fits 0 (order h) (line_of adders_form (pos n ∷ [])) fits4

  fits2 : 0 + length (input h) ≤ places
  fits2 = front_fits 0 (input h) (report_text h.by_width) fits3

  fits1 : 0 + length (bits h) ≤ places
  fits1 = front_fits 0 (bits h) (line_of input_form (h.input ∷ [])) fits2

-- the numbers, in 64 bits
bits_is : (c : After-from) → to_z w64 (of_z w64 c.from.result) ≡ c.args.head.bits
bits_is c =
    let h : SFits w64 c.from.result = search rules in
    let k : SFits w32 c.args.head.bits = search rules in
    to_z-of_z w64 _ h ∙ c.from.ensures ∙ to_z-of_z w32 _ k

input_is : (c : After-from-2) → to_z w64 (of_z w64 c.from-2.result) ≡ c.args.head.input
input_is c =
    let h : SFits w64 c.from-2.result = search rules in
    let k : SFits w32 c.args.head.input = search rules in
    to_z-of_z w64 _ h ∙ c.from-2.ensures ∙ to_z-of_z w32 _ k

adders_is : (f : Start) → to_z w64 f.args.adders ≡ pos f.args.adders
adders_is f = to_z_pos w64 _ (omega (arith, f.requires.0))

csd_is : (c : After-from-3) → to_z w64 (of_z w64 c.from-3.result) ≡ pos c.args.csd
csd_is c = let h : SFits w64 c.from-3.result = search rules in to_z-of_z w64 _ h ∙ c.from-3.ensures

-- what is written up to each line
wrote1 : (c : After-number_line-at) → Wrote c.args.out.now 0 (bits c.args.head) c.number_line-at.new.out c.number_line-at.result
wrote1 c =
    let h : SFits w64 c.from.result = search rules in
    let k : SFits w32 c.args.head.bits = search rules in
    rw (to_z-of_z w64 _ h, c.from.ensures, to_z-of_z w32 _ k) at c.number_line-at.ensures

wrote2 : (c : After-number_line-at-2) → Wrote c.args.out.now 0 (bits c.args.head) c.number_line-at.new.out c.number_line-at.result
    → Wrote c.args.out.now 0 (input c.args.head) c.number_line-at-2.new.out c.number_line-at-2.result
wrote2 c w =
    let h : SFits w64 c.from-2.result = search rules in
    let k : SFits w32 c.args.head.input = search rules in
    w ⨾ rw (to_z-of_z w64 _ h, c.from-2.ensures, to_z-of_z w32 _ k) at c.number_line-at-2.ensures

wrote3 : (c : After-report-at) → Wrote c.args.out.now 0 (input c.args.head) c.number_line-at-2.new.out c.number_line-at-2.result
    → Wrote c.args.out.now 0 (order c.args.head) c.report-at.new.out c.report-at.result
wrote3 c w = w ⨾ c.report-at.ensures

wrote4 : (c : After-number_line-at-3) → Wrote c.args.out.now 0 (order c.args.head) c.report-at.new.out c.report-at.result
    → Wrote c.args.out.now 0 (adders c.args.head c.args.adders) c.number_line-at-3.new.out c.number_line-at-3.result
wrote4 c w =
    let e : to_z w64 c.args.adders ≡ pos c.args.adders = to_z_pos w64 _ (omega (arith, c.requires.0)) in
    w ⨾ rw e at c.number_line-at-3.ensures

pub number_line-at-requires : goal.number_line-at-requires
number_line-at-requires c =
    rw (bits_is c) (fits1 c.args.head c.args.adders c.args.csd _ c.requires.1)

pub number_line-at-requires-2 : goal.number_line-at-requires-2
number_line-at-requires-2 c =
    let w1 = wrote1 (goal.at.number_line-at-requires-2 c).After-number_line-at in
    rw (input_is c) (room _ w1 (fits2 c.args.head c.args.adders c.args.csd _ c.requires.1))

pub report-at-requires : goal.report-at-requires
report-at-requires c =
    let w1 = wrote1 (goal.at.report-at-requires c).After-number_line-at in
    let w2 = wrote2 (goal.at.report-at-requires c).After-number_line-at-2 w1 in
    room _ w2 (fits3 c.args.head c.args.adders c.args.csd _ c.requires.1)

pub number_line-at-requires-3 : goal.number_line-at-requires-3
number_line-at-requires-3 c =
    let w1 = wrote1 (goal.at.number_line-at-requires-3 c).After-number_line-at in
    let w2 = wrote2 (goal.at.number_line-at-requires-3 c).After-number_line-at-2 w1 in
    let w3 = wrote3 (goal.at.number_line-at-requires-3 c).After-report-at w2 in
    rw (adders_is (goal.at.number_line-at-requires-3 c).Start) (room _ w3 (fits4 c.args.head c.args.adders c.args.csd _ c.requires.1))

pub number_line-requires : goal.number_line-requires
number_line-requires c =
    let w1 = wrote1 (goal.at.number_line-requires c).After-number_line-at in
    let w2 = wrote2 (goal.at.number_line-requires c).After-number_line-at-2 w1 in
    let w3 = wrote3 (goal.at.number_line-requires c).After-report-at w2 in
    let w4 = wrote4 (goal.at.number_line-requires c).After-number_line-at-3 w3 in
    rw (csd_is c) (room _ w4 (fits5 c.args.head c.args.adders c.args.csd _ c.requires.1))

pub returns : goal.returns
unfolding head_text
returns c =
    let w1 = wrote1 (goal.at.returns c).After-number_line-at in
    let w2 = wrote2 (goal.at.returns c).After-number_line-at-2 w1 in
    let w3 = wrote3 (goal.at.returns c).After-report-at w2 in
    let w4 = wrote4 (goal.at.returns c).After-number_line-at-3 w3 in
    w4 ⨾ rw (csd_is (goal.at.returns c).After-from-3) at c.number_line.ensures
