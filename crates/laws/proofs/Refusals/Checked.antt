-- What acceptance by the check means: both ways. Assumes nothing.
use mathlib.Core.Path.{◌≡◌}
use mathlib.Core.List.{List, [], Memᴰ}
use Prim.Native.Nat.{ℕ, ◌^◌, ◌≤◌, ◌<◌}
use native.Mathlib.Omega.{arith}
use lib.Dec.{T, ltb, leb→le, le→leb, ltb→lt, lt→ltb}
use lib.IntN.{ℤ}
use lib.ListN.{length}
use Rattle.meaning.specs.declared.Refusal.TheVariants as no
use Rattle.meaning.specs.Limits.{between, bit_tests, limit, most_targets, width_tests}
use Rattle.meaning.specs.Constants.{odd_of}
use Rattle.meaning.specs.Graph.{RowsIn, row_tests, rows, values, Sound, is_served}
use Rattle.meaning.specs.Refusals.{Accepted, admit_order, check_order, admitted, checked, sized_order, sized}
use Rattle.laws.proofs.Refusals.Stages.{first_accepts, all_accept, need_accepts, of_need}
use Rattle.laws.proofs.Refusals.Members.{each_accepts, of_each, pass_in, in_pass}
use Rattle.laws.proofs.Graph.Rows.{sound_of_pass, pass_of_sound}

-- a list and bit limit that are not refused
pub record Admitted (b : ℕ) (ts : List ℤ) : Type 0 where
  pub bits : (2 ≤ b) × (b ≤ 16)
  pub list : (1 ≤ length ts) × (length ts ≤ most_targets)
  pub small : (t : ℤ) → Memᴰ t ts → odd_of t < 2 ^ b

-- a graph that is not refused
pub record Good (b : ℕ) (ts : List ℤ) (n : ℕ) (w : List ℕ) : Type 0 where
  pub admits : Admitted b ts
  pub room : RowsIn n w
  pub sound : Sound (limit b) [] (rows n w)
  pub serves : (t : ℤ) → Memᴰ t ts → T (is_served (values (rows n w)) t)

pub admitted_of : (b : ℕ) (ts : List ℤ) → admitted b ts ≡ Accepted → Admitted b ts
unfolding admitted
admitted_of b ts e =
    let (s1, (s2, (s3, _))) = first_accepts (admit_order b ts) e in
    let q1 = need_accepts no.Bits (bit_tests b) s1 in
    let q2 = need_accepts no.List (between 1 most_targets (length ts)) s2 in
    record {
      bits = omega (arith, leb→le);
      list = omega (arith, leb→le);
      small = λ t i. ltb→lt _ _ (pass_in (λ t. ltb (odd_of t) (2 ^ b)) [] ts (each_accepts no.OddPart _ [] ts s3) i);
    }

pub good_of : (b : ℕ) (ts : List ℤ) (n : ℕ) (w : List ℕ) → checked b ts n w ≡ Accepted → Good b ts n w
unfolding checked
good_of b ts n w e =
    let (s1, (s2, (s3, (s5, (s6, (s7, _)))))) = first_accepts (check_order b ts n w) e in
    let q1 = need_accepts no.Bits (bit_tests b) s1 in
    let q2 = need_accepts no.List (between 1 most_targets (length ts)) s2 in
    let q5 = need_accepts no.RowCount (row_tests n w) s5 in
    record {
      admits =
          record {
            bits = omega (arith, leb→le);
            list = omega (arith, leb→le);
            small = λ t i. ltb→lt _ _ (pass_in (λ t. ltb (odd_of t) (2 ^ b)) [] ts (each_accepts no.OddPart _ [] ts s3) i);
          };
      room = omega (arith, leb→le);
      sound = sound_of_pass (limit b) [] (rows n w) (each_accepts no.Row _ [] (rows n w) s6);
      serves = λ t i. pass_in (is_served (values (rows n w))) [] ts (each_accepts no.Unserved _ [] ts s7) i;
    }

pub of_good : (b : ℕ) (ts : List ℤ) (n : ℕ) (w : List ℕ) → Good b ts n w → checked b ts n w ≡ Accepted
unfolding checked
of_good b ts n w g =
    let a = g.admits in
    all_accept (check_order b ts n w) (
      of_need no.Bits (bit_tests b) (omega (arith, le→leb)),
      (
        of_need no.List (between 1 most_targets (length ts)) (omega (arith, le→leb)),
        (
          of_each no.OddPart _ [] ts (in_pass (λ t. ltb (odd_of t) (2 ^ b)) [] ts (λ t i. lt→ltb _ _ (a.small t i))),
          (
            of_need no.RowCount (row_tests n w) (omega (arith, le→leb)),
            (
              of_each no.Row _ [] (rows n w) (pass_of_sound (limit b) [] (rows n w) g.sound),
              (of_each no.Unserved _ [] ts (in_pass (is_served (values (rows n w))) [] ts g.serves), tt),
            ),
          ),
        ),
      ),
    )

-- ---- an input width besides

pub record GoodWidth (b : ℕ) (ts : List ℤ) (n : ℕ) (w : List ℕ) (input : ℕ) : Type 0 where
  pub good : Good b ts n w
  pub width : (2 ≤ input) × (input ≤ 32)

pub sized_of : (b : ℕ) (ts : List ℤ) (n : ℕ) (w : List ℕ) (input : ℕ) → sized b ts n w input ≡ Accepted → GoodWidth b ts n w input
unfolding sized checked
sized_of b ts n w input e =
    let (s1, (s2, (s3, (s5, (s6, (s7, (s9, _))))))) = first_accepts (sized_order b ts n w input) e in
    let q9 = need_accepts no.Width (width_tests input) s9 in
    record {
      good = good_of b ts n w (all_accept (check_order b ts n w) (s1, (s2, (s3, (s5, (s6, (s7, tt)))))));
      width = omega (arith, leb→le);
    }
