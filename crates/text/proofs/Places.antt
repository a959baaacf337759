-- What stands at a place, as std's words say it. Assumes nothing.
use Rattle.std.proofs.Common.{◌≡◌, refl, Bool, true, false, cond, ◌&&◌, List, [], ◌∷◌, ℕ, ◌+◌, length, drop, get_or, eqb, ltb, arith}
use lib.ListN.{drop_of_length-le}
use borrow.Author.Tests.{ltb-true, ltb-false}
use Rattle.std.specs.List.{starts_with}
use Rattle.std.proofs.lemmas.Bool.Decides.{nat_tests}
use Rattle.meaning.specs.Text.{stands}
use Rattle.laws.proofs.Text.Numerals.{rest_cons}

starts_more : (c x : ℕ) (cs xs : List ℕ) → starts_with eqb (x ∷ xs) (c ∷ cs) ≡ cond (eqb x c) (starts_with eqb xs cs) false
starts_more c x cs xs = go (eqb c x) (eqb x c) (grind (arith, nat_tests))
  where
    go : (a b : Bool) → a ≡ b → (a && starts_with eqb xs cs) ≡ cond b (starts_with eqb xs cs) false
    go true true e = refl
    go false false e = refl
    go true false e = absurd (cc)
    go false true e = absurd (cc)

pub starts_is : (text s : List ℕ) (at : ℕ) → starts_with eqb (drop at s) text ≡ stands text s at
unfolding stands
starts_is [] s at = refl
starts_is (c ∷ cs) s at = go (ltb at (length s)) refl (starts_is cs s (at + 1))
  where
    go : (b : Bool) → ltb at (length s) ≡ b → starts_with eqb (drop (at + 1) s) cs ≡ stands cs s (at + 1)
        → starts_with eqb (drop at s) (c ∷ cs) ≡ cond b (cond (eqb (get_or s at 0) c) (stands cs s (at + 1)) false) false
    go true e h = rw (rest_cons s (ltb-true at (length s) e), ← h) (starts_more c (get_or s at 0) cs (drop (at + 1) s))
    go false e h = rw (drop_of_length-le s {i = at} (ltb-false at (length s) e)) refl
