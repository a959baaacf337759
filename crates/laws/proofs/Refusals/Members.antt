-- A stage that looks at each member, seen after those before it: it accepts exactly if every member passes, and refuses exactly at the first that does
-- not; and as a loop meets it, the answer for all is the answer for what is left. Assumes nothing.
use mathlib.Core.Path.{◌≡◌, refl, sym, ap, ◌∙◌, subst, subst⁻¹}
use Rattle.std.specs.Prelude.{Err}
use mathlib.Core.Bool.{Bool, true, false, cond}
use mathlib.Core.List.Memᴰ
use mathlib.Core.List.{List, [], ◌∷◌, ◌++◌, append_assoc, append-nil, Memᴰ}
use mathlib.Core.Logic.{⊎_elim}
use Prim.Native.Nat.{ℕ, ◌+◌, ◌≤◌, ◌<◌}
use native.Mathlib.Numerals.{add-one}
use native.Mathlib.Omega.{arith}
use lib.Dec.{T}
use lib.ListN.{length, get_or, take, drop, length-append, drop_of_length-le}
use lib.Seq.{drop-cons, take-suc, length-take-le}
use Rattle.meaning.specs.declared.Refusal.{Refusal}
use Rattle.meaning.specs.Basics.{NoneOf, First}
use Rattle.meaning.specs.Refusals.{Accepted, need_each}
use Rattle.laws.proofs.Lists.Tests.{T_of, false_of}
use Rattle.laws.proofs.Refusals.Stages.{never_both, refused_same, branch, of_branch}

-- every member passes, seen after those before it
unfoldable pub AllPass : {A : Type 0} → (List A → A → Bool) → List A → List A → Type 0
AllPass test before [] = Unit {0}
AllPass test before (x ∷ xs) = T (test before x) × AllPass test (before ++ (x ∷ [])) xs

module _ {A : Type 0} (why : ℕ → Refusal) (test : List A → A → Bool) where
  pub each_accepts : (before xs : List A) → need_each why test before xs ≡ Accepted → AllPass test before xs
  unfolding need_each AllPass
  each_accepts before [] e = tt
  each_accepts before (x ∷ xs) e =
      let p = branch (test before x) (need_each why test (before ++ (x ∷ [])) xs) (why (length before + 1)) e in
      (p.0, each_accepts (before ++ (x ∷ [])) xs p.1)

  pub of_each : (before xs : List A) → AllPass test before xs → need_each why test before xs ≡ Accepted
  unfolding need_each AllPass
  of_each before [] t = refl
  of_each before (x ∷ xs) t =
      of_branch (test before x) (need_each why test (before ++ (x ∷ [])) xs) (why (length before + 1)) t.0 (of_each (before ++ (x ∷ [])) xs t.1)

-- a test that looks at the member alone
module _ {A : Type 0} (f : A → Bool) where
  pub pass_in : (before xs : List A) → AllPass (λ _ x. f x) before xs → {x : A} → Memᴰ x xs → T (f x)
  unfolding AllPass
  pass_in before [] t i = absurd (Memᴰ.not-nil i)
  pass_in before (y ∷ xs) t i =
      ⊎_elim (λ e. subst⁻¹ (λ z. T (f z)) e t.0) (λ j. pass_in (before ++ (y ∷ [])) xs t.1 j) (Memᴰ.cases_cons i)

  pub in_pass : (before xs : List A) → ((x : A) → Memᴰ x xs → T (f x)) → AllPass (λ _ x. f x) before xs
  unfolding AllPass
  in_pass before [] g = tt
  in_pass before (y ∷ xs) g = (g y (Memᴰ.head refl), in_pass (before ++ (y ∷ [])) xs (λ x i. g x (Memᴰ.tail i)))

-- ---- the first that fails

-- P holds of a member after some others, and of none between
record From {A : Type 0} (P : List A → A → Type 0) (done xs : List A) (p : ℕ) : Type 0 where
  between : List A
  there : A
  behind : List A
  split : xs ≡ between ++ (there ∷ behind)
  none_between : NoneOf P done between
  holds : P (done ++ between) there
  place : p ≡ length done + length between + 1

-- a test that fails exactly where P holds
module _ {A : Type 0} (why : ℕ → Refusal) (test : List A → A → Bool) (P : List A → A → Type 0)
    (no : (b : List A) (x : A) → T (test b x) → ¬ (P b x)) (yes : (b : List A) (x : A) → test b x ≡ false → P b x) where
  from_refused : (done xs : List A) (y : Refusal) → need_each why test done xs ≡ Err y → (p : ℕ) × From P done xs p × (y ≡ why p)
  unfolding need_each NoneOf
  from_refused done [] y e = never_both y e
  from_refused done (x ∷ xs) y e = go (test done x) refl e (λ q. from_refused (done ++ (x ∷ [])) xs y q)
    where
      go : (b : Bool) → test done x ≡ b → cond b (need_each why test (done ++ (x ∷ [])) xs) (Err (why (length done + 1))) ≡ Err y
          → (need_each why test (done ++ (x ∷ [])) xs ≡ Err y → (p : ℕ) × From P (done ++ (x ∷ [])) xs p × (y ≡ why p))
          → (p : ℕ) × From P done (x ∷ xs) p × (y ≡ why p)
      go true t e rest =
          let (p, f, q) = rest e in (
            p,
            record {
              between = x ∷ f.between;
              there = f.there;
              behind = f.behind;
              split = ap (λ l. x ∷ l) f.split;
              none_between = (no done x (T_of t), f.none_between);
              holds = subst (λ l. P l f.there) (append_assoc done (x ∷ []) f.between) f.holds;
              place = f.place ∙ omega (arith, length-append done (x ∷ []));
            },
            q,
          )
      go false t e rest = (
        length done + 1,
        record {
          between = [];
          there = x;
          behind = xs;
          split = refl;
          none_between = tt;
          holds = subst⁻¹ (λ l. P l x) (append-nil done) (yes done x t);
          place = omega arith;
        },
        sym (refused_same (why (length done + 1)) y e),
      )

  passed : (b : List A) (x : A) → ¬ (P b x) → test b x ≡ true
  passed b x n = go (test b x) refl
    where
      go : (t : Bool) → test b x ≡ t → t ≡ true
      go true e = refl
      go false e = absurd (n (yes b x e))

  refused_at : (done between : List A) (there : A) (behind : List A) → NoneOf P done between → P (done ++ between) there
      → need_each why test done (between ++ (there ∷ behind)) ≡ Err (why (length done + length between + 1))
  unfolding need_each NoneOf
  refused_at done [] there behind n h =
      rw (false_of (test done there) (λ t. no done there t (subst (λ l. P l there) (append-nil done) h))) (ap (λ k. Err (why k)) (omega arith))
  refused_at done (x ∷ xs) there behind n h =
      rw (passed done x n.0)
      (refused_at (done ++ (x ∷ [])) xs there behind n.1 (subst⁻¹ (λ l. P l there) (append_assoc done (x ∷ []) xs) h)
      ∙ ap (λ k. Err (why k)) (omega (arith, length-append done (x ∷ []))))

  pub each_refuses : (xs : List A) (y : Refusal) → need_each why test [] xs ≡ Err y → (p : ℕ) × First P xs p × (y ≡ why p)
  each_refuses xs y e =
      let (p, f, q) = from_refused [] xs y e in (
        p,
        record {
          before = f.between;
          there = f.there;
          behind = f.behind;
          split = f.split;
          none_before = f.none_between;
          holds = f.holds;
          place = f.place ∙ omega arith;
        },
        q,
      )

  pub refuses_each : (xs : List A) (p : ℕ) → First P xs p → need_each why test [] xs ≡ Err (why p)
  refuses_each xs p f =
      ap (need_each why test []) f.split ∙ refused_at [] f.before f.there f.behind f.none_before f.holds
      ∙ ap (λ k. Err (why k)) (let e = f.place in omega arith)

-- ---- as a loop over the list meets it

module _ {A : Type 0} (why : ℕ → Refusal) (test : List A → A → Bool) (d : A) where
  pub each_miss : (i : ℕ) (xs : List A) → i < length xs → test (take i xs) (get_or xs i d) ≡ true
      → need_each why test (take i xs) (drop i xs) ≡ need_each why test (take (i + 1) xs) (drop (i + 1) xs)
  unfolding need_each
  each_miss i xs h e = rw (drop-cons xs i d h, e, add-one i, take-suc xs i d h)

  pub each_hit : (i : ℕ) (xs : List A) → i < length xs → test (take i xs) (get_or xs i d) ≡ false
      → need_each why test (take i xs) (drop i xs) ≡ Err (why (i + 1))
  unfolding need_each
  each_hit i xs h e = rw (drop-cons xs i d h, e, length-take-le i xs (omega arith))

  pub each_end : (i : ℕ) (xs : List A) → length xs ≤ i → need_each why test (take i xs) (drop i xs) ≡ Accepted
  unfolding need_each
  each_end i xs h = rw (drop_of_length-le xs h)
