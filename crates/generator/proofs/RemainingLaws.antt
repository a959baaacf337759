-- Which of the constants are left, as the code passes them one after the other. Assumes nothing.
use mathlib.Core.Path.{◌≡◌, refl, sym, ap, ◌∙◌}
use mathlib.Core.Bool.{Bool, true, false, cond}
use mathlib.Core.List.{List, [], ◌∷◌, ◌++◌, append-nil, append_assoc}
use Prim.Native.Nat.{ℕ, suc, ◌+◌, ◌≤◌, ◌<◌}
use native.Mathlib.Omega.{arith}
use lib.ListN.{length, get_or, drop, length-append}
use Rattle.meaning.specs.Basics.{has}
use Rattle.meaning.specs.Generator.{remaining}
use Rattle.laws.proofs.Generator.Steps.{remaining_ready, remaining_left, remaining_end}

-- the constants before place i are passed, and r holds those of them that are not ready
pub record Sifted (vals cs r : List ℕ) (i : ℕ) : Type 0 where
  pub bound : length r ≤ i
  pub list : r ++ remaining vals (drop i cs) ≡ remaining vals cs

module _ (vals cs : List ℕ) where
  pub sift_start : Sifted vals cs [] 0
  sift_start = record { bound = omega arith; list = refl }

  module _ (r : List ℕ) (i : ℕ) (s : Sifted vals cs r i) where
    pub sift_ready : i < length cs → has vals (get_or cs i 0) ≡ true → Sifted vals cs r (i + 1)
    sift_ready h e = record { bound = omega (arith, s.bound); list = rw (remaining_ready vals cs i h e) at s.list }

    pub sift_left : i < length cs → has vals (get_or cs i 0) ≡ false → Sifted vals cs (r ++ (get_or cs i 0 ∷ [])) (i + 1)
    sift_left h e =
        let c = get_or cs i 0 in
        record {
          bound = omega (arith, s.bound, length-append r (c ∷ []));
          list =
              append_assoc r (c ∷ []) (remaining vals (drop (i + 1) cs))
              ∙ ap (λ (xs : List ℕ). r ++ xs) (sym (remaining_left vals cs i h e))
              ∙ s.list;
        }

    pub sift_end : length cs ≤ i → r ≡ remaining vals cs
    sift_end h = sym (append-nil r) ∙ (rw (remaining_end vals cs i h) at s.list)

-- no more are left than there were
pub few_left : (vals cs : List ℕ) → length (remaining vals cs) ≤ length cs
unfolding remaining
few_left vals [] = omega arith
few_left vals (c ∷ cs) = go (has vals c) (few_left vals cs)
  where
    go : (b : Bool) → length (remaining vals cs) ≤ length cs → length (cond b (remaining vals cs) (c ∷ remaining vals cs)) ≤ suc (length cs)
    go true h = omega arith
    go false h = omega arith
