-- `distance` meets its contract: the refusal, or the distance under the limit. What is not refused has odd values below 2^(b+1) and an odd target
-- below 2^b, and b at most 16, as `beyond_zero` asks. Assumes nothing.
use mathlib.Core.Path.{◌≡◌, sym, ap, ◌∙◌}
use mathlib.Core.Bool.{Bool, true}
use mathlib.Core.List.{List}
use Prim.Native.Nat.{ℕ, ◌^◌, ◌≤◌}
use native.Mathlib.Omega.{arith}
use lib.ListN.{length, take}
use lib.Seq.{take-length}
use lib.Pow.{pow_mono}
use Rattle.std.specs.Prelude.{Ok}
use Rattle.meaning.specs.declared.Far.TheVariants.{Zero}
use Rattle.meaning.specs.Basics.{has}
use Rattle.meaning.specs.Distance.{distance}
use Rattle.meaning.specs.Limits.{limit}
use Rattle.meaning.specs.Refusals.{distance_told}
use Rattle.laws.proofs.Lists.Index.{get_or_in}
use Rattle.laws.proofs.Refusals.Stages.{handed_on}
use Rattle.laws.proofs.Distance.Distances.{distance_told_lem, distance_refused, Askable, askable_of}
use Rattle.search.specs.Marks.{OddsIn}
use Rattle.distance.proofs.distance.Goals as goal
use Rattle.distance.proofs.distance.Goals.{In_ok-admit}

ready : (b : ℕ) (vals : List ℕ) (c : ℕ) → Askable b vals c → OddsIn (limit b) vals (length vals)
ready b vals c q = (omega arith, λ i h. q.values _ (get_or_in vals i 0 h))

zero_is : (L : ℕ) (vals : List ℕ) (c : ℕ) → has vals c ≡ true → Zero ≡ distance L vals c
unfolding distance
zero_is L vals c e = rw e

-- what is asked of the first so many is asked of all
found : (r : Bool) (vals : List ℕ) (c : ℕ) → r ≡ has (take (length vals) vals) c → has vals c ≡ r
found r vals c e = sym (e ∙ ap (λ (xs : List ℕ). has xs c) (take-length vals))

-- past the refusals
asked : (c : In_ok-admit) → let a = c.args in Askable a.b a.vals.now a.c
asked c = askable_of _ _ _ (sym c.admit.ensures ∙ c.in_ok-admit.was)

told : (c : In_ok-admit) → let a = c.args in
    distance_told a.b a.vals.now a.c ≡ Ok (distance (limit a.b) a.vals.now a.c)
told c = distance_told_lem _ _ _ (sym c.admit.ensures ∙ c.in_ok-admit.was)

pub returns-in_err-admit : goal.returns-in_err-admit
returns-in_err-admit c =
    handed_on _ _ c.from_residual.ensures.1 ∙ sym (distance_refused _ _ _ _ (sym c.admit.ensures ∙ c.in_err-admit.was))

pub returns-then-has : goal.returns-then-has
returns-then-has c =
    let a = c.args in
    ap Ok (zero_is (limit a.b) a.vals.now a.c (found _ a.vals.now a.c c.has.ensures ∙ c.if-has.true)) ∙ sym (told (goal.at.returns-then-has c).In_ok-admit)

pub limit-requires : goal.limit-requires
limit-requires c = let q = (asked (goal.at.limit-requires c).In_ok-admit).bits in omega arith

pub beyond_zero-requires : goal.beyond_zero-requires
beyond_zero-requires c =
    let a = c.args in
    let q = asked (goal.at.beyond_zero-requires c).In_ok-admit in
    let m : 2 ^ a.b ≤ 2 ^ limit a.b = pow_mono {i = a.b} {j = limit a.b} (omega arith) in
    rw c.limit.ensures (
      omega (arith, q.bits),
      record {
        ready = ready a.b a.vals.now a.c q;
        odd = (q.target.0, omega (arith, q.target.1));
        absent = found _ a.vals.now a.c c.has.ensures ∙ c.if-has.false;
      },
    )

pub returns : goal.returns
returns c =
    let a = c.args in
    ap Ok (c.beyond_zero.ensures ∙ ap (λ L. distance L a.vals.now a.c) c.limit.ensures) ∙ sym (told (goal.at.returns c).In_ok-admit)
