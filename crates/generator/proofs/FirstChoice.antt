-- The search for the first row, step by step: one choice, the one or else the other, and a loop that leaves at the first. Assumes nothing.
use mathlib.Core.Path.{◌≡◌, refl, sym, ap, ap₂, ◌∙◌, subst}
use mathlib.Core.Bool.{Bool, cond}
use mathlib.Core.List.{List, map}
use Rattle.std.specs.Prelude.{Option, Some, None, MatchOption}
use Rattle.std.specs.Option.{option_or}
use Prim.Native.Nat.{ℕ, ◌+◌, ◌/◌, ◌^◌, ◌≤◌, ◌<◌, min}
use lib.ListN.{length}
use Rattle.meaning.specs.declared.Choice.{Choice}
use Rattle.meaning.specs.Basics.{up_from, zeros, first_some}
use Rattle.meaning.specs.Operation.{size, Valid, Outcome}
use Rattle.meaning.specs.Distance.{does_give, shift_pairs}
use Rattle.meaning.specs.Generator.{chosen, choice_for}
use Rattle.laws.proofs.Lists.Tests.{true_of, false_of}
use Rattle.laws.proofs.Distance.Reach.{gives_of_test, test_of_gives}
use Rattle.laws.proofs.Lists.First.{first_append, first_map}
use Rattle.generator.specs.declared.first_choice.Pair.{Pair}
use Rattle.generator.specs.Search.{choice_of, sign_choice, right_choice, left_choice, pair_choice, from_choice}

-- ---- one choice

-- its row, whose r is that of |n| = m
abbrev pub choice_made : Pair → (l1 l2 s m : ℕ) → Choice
choice_made p l1 l2 s m = record { u = p.i; v = p.j; l1 = l1; l2 = l2; s = s; r = zeros m }

module _ (p : Pair) (l1 l2 s m : ℕ) (e : m ≡ size p.u p.v l1 l2 s) where
  abbrev n : ℕ
  n = size p.u p.v l1 l2 s

  abbrev is : Bool
  is = does_give p.limit p.u p.v l1 l2 s p.c

  abbrev answer : Bool → Option Choice
  answer b = cond b (Some (choice_made p l1 l2 s n)) None

  pub choice_miss : (0 < m → m / 2 ^ zeros m ≡ p.c → ⊥) → None ≡ choice_of p l1 l2 s
  unfolding choice_of
  choice_miss h = sym (ap answer (false_of is (λ t. no (gives_of_test p.limit p.u p.v l1 l2 s p.c t).outcome)))
    where
      no : Outcome p.limit n (zeros n) p.c → ⊥
      no k = h (rw e k.nonzero) (ap (λ x. x / 2 ^ zeros x) e ∙ sym k.value)

  pub choice_hit : l1 ≤ p.limit → l2 ≤ p.limit → min l1 l2 ≡ 0 → s ≤ 1 → 0 < m → m / 2 ^ zeros m ≡ p.c → p.c < 2 ^ p.limit
      → Some (choice_made p l1 l2 s m) ≡ choice_of p l1 l2 s
  unfolding choice_of
  choice_hit a b d g h q l =
      ap (λ x. Some (choice_made p l1 l2 s x)) e ∙ sym (ap answer (true_of is (test_of_gives p.limit p.u p.v l1 l2 s (zeros n) p.c valid)))
    where
      valid : Valid p.limit p.u p.v l1 l2 s (zeros n) p.c
      valid =
          record {
            left = a;
            right = b;
            unshifted = d;
            sign = g;
            outcome = record { nonzero = rw e at h; shift = refl; value = sym (ap (λ x. x / 2 ^ zeros x) (sym e) ∙ q); below = l };
          }

-- ---- the one or else the other

pub or_else_is : {A : Type 0} {first r : Option A} (o p : Option A) (P : Type 0) → first ≡ o → MatchOption first P (λ x. r ≡ Some x) → (P → r ≡ p) → r ≡ option_or o p
or_else_is {r = r} None p P e m h = h (subst (λ q. MatchOption q P (λ x. r ≡ Some x)) e m)
or_else_is {r = r} (Some x) p P e m h = subst (λ q. MatchOption q P (λ x. r ≡ Some x)) e m

pub sign_is : (p : Pair) (l1 l2 : ℕ) → option_or (choice_of p l1 l2 0) (choice_of p l1 l2 1) ≡ sign_choice p l1 l2
unfolding sign_choice first_some
sign_is p l1 l2 = ap (option_or (choice_of p l1 l2 0)) (end (choice_of p l1 l2 1))
  where
    end : (o : Option Choice) → o ≡ option_or o None
    end None = refl
    end (Some x) = refl

pub pair_is : (p : Pair) → option_or (right_choice p) (left_choice p) ≡ pair_choice p
unfolding pair_choice right_choice left_choice shift_pairs
pair_is p =
    let f : ℕ × ℕ → Option Choice = λ q. sign_choice p q.0 q.1 in
    sym
    (first_append f (map (λ l. (0, l)) (up_from 0 (p.limit + 1))) (map (λ l. (l, 0)) (up_from 1 p.limit))
    ∙ ap₂ option_or (first_map f (λ l. (0, l)) (up_from 0 (p.limit + 1))) (first_map f (λ l. (l, 0)) (up_from 1 p.limit)))

-- the first choice by the u index
pub choice_is : (L : ℕ) (vals : List ℕ) (c : ℕ) → first_some (λ i. from_choice L vals c i) (up_from 0 (length vals)) ≡ choice_for L vals c
unfolding choice_for chosen from_choice pair_choice sign_choice choice_of
choice_is L vals c = refl
