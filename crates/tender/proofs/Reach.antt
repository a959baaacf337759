-- One and two operations on a list of values, and the wanted constants: the definitions' statements are the buyer's words. Assumes nothing.
use mathlib.Core.Path.{sym, subst}
use mathlib.Core.List.{List, ◌∷◌, Memᴰ}
use mathlib.Core.Logic.{◌↔◌}
use Prim.Native.Nat.{ℕ, ◌<◌}
use lib.IntN.{ℤ}
use Rattle.meaning.specs.Limits.{limit}
use Rattle.meaning.specs.Constants.{wanted}
use Rattle.meaning.specs.Distance.{Reached, ReachedTwice}
use Rattle.laws.proofs.Constants.Wanted.{wanted_in, in_wanted}
use Rattle.tender.specs.Words.{WantedPart, ByOne, ByTwo}
use Rattle.tender.proofs.Rows.{operation_of, valid_of}

pub wanted_are : (ts : List ℤ) (c : ℕ) → Memᴰ c (wanted ts) ↔ WantedPart ts c
wanted_are ts c = (
  λ i. let (t, j, e, h) = wanted_in ts c i in record { target = t; listed = j; part = e; above = h },
  λ o. subst (λ z. Memᴰ z (wanted ts)) o.part (in_wanted ts o.target o.listed (subst (λ z. 1 < z) (sym o.part) o.above)),
)

module _ (b : ℕ) (vals : List ℕ) (c : ℕ) where
  pub one_of : Reached (limit b) vals c → ByOne b vals c
  one_of r =
      let v = r.gives.valid in
      record {
        u = r.u;
        v = r.v;
        l1 = r.gives.l1;
        l2 = r.gives.l2;
        s = r.gives.s;
        r = r.gives.r;
        first = r.first;
        second = r.second;
        operation = operation_of b _ _ _ _ _ _ _ v;
      }

  pub of_one : ByOne b vals c → Reached (limit b) vals c
  of_one o =
      record {
        u = o.u;
        v = o.v;
        first = o.first;
        second = o.second;
        gives = record { l1 = o.l1; l2 = o.l2; s = o.s; r = o.r; valid = valid_of b _ _ _ _ _ _ _ o.operation };
      }

module _ (b : ℕ) (vals : List ℕ) (c : ℕ) where
  pub two_of : ReachedTwice (limit b) vals c → ByTwo b vals c
  two_of r = record { s = r.s; first = one_of b vals r.s r.first; second = one_of b (r.s ∷ vals) c r.second }

  pub of_two : ByTwo b vals c → ReachedTwice (limit b) vals c
  of_two o = record { s = o.s; first = of_one b vals o.s o.first; second = of_one b (o.s ∷ vals) c o.second }
