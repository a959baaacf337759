-- The last prefix of a number in the code's words, and all of them, found from the longest down. Assumes nothing.
use mathlib.Core.Path.{◌≡◌, refl, sym, ap, ◌∙◌, subst⁻¹}
use mathlib.Core.Bool.{Bool, true, false, cond}
use mathlib.Core.List.{List, [], ◌∷◌, ◌++◌, reverse, append-nil}
use Prim.Native.Nat.{ℕ, zero, suc, ◌+◌, ◌-◌, ◌%◌, ◌^◌, ◌≤◌, ◌<◌}
use native.Mathlib.Nat.{div-le_self}
use native.Mathlib.Omega.{arith}
use borrow.Author.Tests.{eqb-true, eqb-false}
use lib.Dec.{eqb}
use Rattle.std.specs.List.{refill}
use lib.ListN.{length, drop, length-append, length-reverse}
use lib.Seq.{append_snoc, take_at}
use Rattle.std.proofs.lemmas.List.{reverse-append}
use Rattle.meaning.specs.declared.Prefix.{Prefix}
use Rattle.meaning.specs.Basics.{zeros}
use Rattle.meaning.specs.Digits.{prefixes}
use Rattle.laws.proofs.Whole.Zeros.{zeros_left}
use Rattle.laws.proofs.Digits.Prefixes.{peel_plus, peel_minus, prefixes_zero, prefixes_one, prefixes_odd}
use Rattle.laws.proofs.Digits.Count.{few_seventeen}
use Rattle.laws.proofs.Digits.Chain.{length_prefixes}
use Rattle.digits.specs.Held.{near, odd_part, last_prefix}

odd_le : (n : ℕ) → odd_part n ≤ n
odd_le n = div-le_self n (2 ^ zeros n)

-- an odd part of a number up to 2 ^ 32 is a word
pub odd_word : (m : ℕ) → 0 < m → m ≤ 2 ^ 32 → odd_part m < 2 ^ 32
odd_word m h l = omega (arith, zeros_left m h, odd_le m)

near_positive : (n : ℕ) → 1 < n → 0 < near n
near_positive n h = go (eqb (n % 4) 3)
  where
    go : (b : Bool) → 0 < cond b (n + 1) (n - 1)
    go true = omega arith
    go false = omega arith

-- the last prefix splits off
prefixes_last : (n : ℕ) → 1 < n → n % 2 ≡ 1 → prefixes n ≡ prefixes (last_prefix n).before ++ (last_prefix n ∷ [])
unfolding last_prefix
prefixes_last n h o = go (eqb (n % 4) 3) refl
  where
    go : (b : Bool) → eqb (n % 4) 3 ≡ b → prefixes n ≡ prefixes (last_prefix n).before ++ (last_prefix n ∷ [])
    go true e = rw e (peel_minus n (eqb-true (n % 4) 3 e)).list
    go false e = rw e (peel_plus n h (let f = eqb-false (n % 4) 3 e in omega arith)).list

last_odd : (n : ℕ) → 1 < n → (last_prefix n).before % 2 ≡ 1
unfolding last_prefix
last_odd n h = zeros_left (near n) (near_positive n h)

-- ---- the prefixes found from the longest down: those of what is left stand before them

pub record Peeling (n left : ℕ) (found : List Prefix) : Type 0 where
  pub whole : prefixes n ≡ prefixes left ++ reverse found
  pub odd : 1 < left → left % 2 ≡ 1

pub peel_start : (n left : ℕ) (found : List Prefix) → found ≡ [] → left ≡ odd_part n → Peeling n left found
peel_start n left found g e = record {
  whole = prefixes_odd n ∙ ap prefixes (sym e) ∙ sym (ap (λ ps. prefixes left ++ reverse ps) g ∙ append-nil _);
  odd = λ h. ap (λ x. x % 2) e ∙ start n (omega arith);
}
  where
    start : (n : ℕ) → 1 < odd_part n → odd_part n % 2 ≡ 1
    start n h = zeros_left n (omega (arith, odd_le n))

module _ (n left : ℕ) (found : List Prefix) (f : Peeling n left found) where
  module _ (last : Prefix) (h : 1 < left) (e : last ≡ last_prefix left) where
    split : prefixes left ≡ prefixes last.before ++ (last ∷ [])
    split = subst⁻¹ (λ p. prefixes left ≡ prefixes p.before ++ (p ∷ [])) e (prefixes_last left h (f.odd h))

    pub peel_falls : length (prefixes last.before) < length (prefixes left)
    peel_falls = let long = simp length-append at (ap length split) in omega arith

    pub peel_room : n < 2 ^ 32 → length found < 16
    peel_room l =
        let most : length (prefixes n) ≤ 16 = omega (arith, length_prefixes n, few_seventeen n l) in
        let all = simp (length-append, length-reverse) at (ap length f.whole) in
        omega (arith, peel_falls)

    pub peel_step : (more : List Prefix) → more ≡ found ++ (last ∷ []) → Peeling n last.before more
    peel_step more g = record {
      whole = f.whole ∙ ap (λ ps. ps ++ reverse found) split ∙ append_snoc (prefixes last.before) last (reverse found) ∙ ap (λ ps. prefixes last.before ++ ps) (sym (ap reverse g ∙ reverse-append found (last ∷ [])));
      odd = λ _. ap (λ p. p.before % 2) e ∙ last_odd left h;
    }

  -- at the end those found are turned, in their own places
  pub peel_end : (turned : List Prefix) → left ≤ 1 → turned ≡ reverse found → refill (length found) found turned ≡ prefixes n
  peel_end turned h g =
      take_at turned (drop (length turned) found) (length found) (ap length g ∙ length-reverse found)
      ∙ g ∙ sym (f.whole ∙ ap (λ ps. ps ++ reverse found) (none left h))
    where
      none : (k : ℕ) → k ≤ 1 → prefixes k ≡ []
      none zero l = prefixes_zero
      none (suc zero) l = prefixes_one
      none (suc (suc k)) l = absurd (omega arith)
