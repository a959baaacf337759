-- The stages of a call: it accepts exactly if each stage does, and refuses exactly by the first stage that refuses; what a stage of one condition
-- says; and stages followed by a lent buffer's. Assumes nothing.
use mathlib.Core.Path.{◌≡◌, refl, sym, ap, ◌∙◌, subst}
use Rattle.std.specs.Prelude.{Result, Ok, Err, IsErrAnd}
use mathlib.Core.Bool.{Bool, true, false, cond}
use mathlib.Core.List.{List, [], ◌∷◌, ◌++◌}
use Prim.Native.Nat.{ℕ, ◌≤◌, ◌<◌}
use native.Mathlib.Omega.{arith}
use borrow.Author.Tests.{le-leb, lt-leb}
use lib.Dec.{T}
use lib.ListN.{length}
use Rattle.meaning.specs.declared.Refusal.{Refusal}
use Rattle.meaning.specs.declared.Refusal.TheVariants as no
use Rattle.meaning.specs.Basics.{all, over}
use Rattle.meaning.specs.Refusals.{Answer, Accepted, need, buffer, first_of, Done, told, given}
use Rattle.laws.proofs.Lists.Tests.{All, all_of, of_all}

-- a contract that says what an answer equals allows one answer
pub one_answer : {A : Type 0} (d x y : A) → x ≡ d → y ≡ d → x ≡ y
one_answer d x y a b = a ∙ sym b

pub one_done : {R A : Type 0} (a : R) (w before : List A) (r r' : R) (after after' : List A)
    → Done a w r before after → Done a w r' before after' → (r ≡ r') × (after ≡ after')
one_done a w before r r' after after' d e = (d.answers ∙ sym e.answers, d.writes ∙ sym e.writes)

-- nothing is written on refusal
pub over_none : {A : Type 0} (old : List A) → over [] old ≡ old
unfolding over
over_none old = refl

-- what a call that writes does: a refusal leaves the slice as it was, and acceptance writes over its front
pub refused_done : {A : Type 0} (a r : Answer) (why : Refusal) (ws old : List A) → r ≡ a → r ≡ Err why → Done a (given a ws) r old old
refused_done a r why ws old e f =
    record { answers = e; writes = sym (over_none old) ∙ ap (λ b. over (given b ws) old) (sym f ∙ e) }

pub accepted_done : {A : Type 0} (a : Answer) (ws before after : List A) → a ≡ Accepted → after ≡ over ws before → Done a (given a ws) Accepted before after
accepted_done a ws before after e f =
    record { answers = sym e; writes = f ∙ ap (λ b. over (given b ws) before) (sym e) }

-- an answer is not both
pub never_both : {A : Type 0} (why : Refusal) → Accepted ≡ Err why → A
never_both why e = absurd (let z : ◌≡◌ {A = ℕ} 0 1 = cc in omega arith)

pub refused_same : {A : Type 0} (a b : Refusal) → ◌≡◌ {A = Result A Refusal} (Err a) (Err b) → a ≡ b
refused_same a b e = cc

-- a refusal that `?` hands on is the one that it was given
pub handed_on : {A : Type 0} (r : Result A Refusal) (why : Refusal) → IsErrAnd r (λ x. x ≡ why) → r ≡ Err why
handed_on (Ok x) why h = absurd h
handed_on (Err x) why h = ap Err h

-- what is told is the value of a call that accepts, or the refusal of one that refuses
pub told_accepts : {A : Type 0} (a : Answer) (x y : A) → Ok y ≡ told a x → (a ≡ Accepted) × (y ≡ x)
told_accepts (Ok _) x y e = (refl, cc)
told_accepts (Err why) x y e = absurd (let z : ◌≡◌ {A = ℕ} 0 1 = cc in omega arith)

pub told_refuses : {A : Type 0} (a : Answer) (x : A) (why : Refusal) → Err why ≡ told a x → a ≡ Err why
told_refuses (Ok _) x why e = absurd (let z : ◌≡◌ {A = ℕ} 0 1 = cc in omega arith)
told_refuses (Err y) x why e = cc

-- ---- a list of stages

abbrev pub AllAccept : List Answer → Type 0
AllAccept [] = Unit {0}
AllAccept (a ∷ rest) = (a ≡ Accepted) × AllAccept rest

pub first_accepts : (stages : List Answer) → first_of stages ≡ Accepted → AllAccept stages
first_accepts [] e = tt
first_accepts (Ok _ ∷ rest) e = (refl, first_accepts rest e)
first_accepts (Err why ∷ rest) e = never_both why (sym e)

pub all_accept : (stages : List Answer) → AllAccept stages → first_of stages ≡ Accepted
all_accept [] t = refl
all_accept (Ok _ ∷ rest) t = all_accept rest t.1
all_accept (Err why ∷ rest) t = never_both why (sym t.0)

-- the stages before the one that refuses accept
pub record FirstRefuses (stages : List Answer) (why : Refusal) : Type 0 where
  pub before : List Answer
  pub after : List Answer
  pub split : stages ≡ before ++ (Err why ∷ after)
  pub passed : AllAccept before

pub first_refuses : (stages : List Answer) (why : Refusal) → first_of stages ≡ Err why → FirstRefuses stages why
first_refuses [] why e = never_both why e
first_refuses (Ok _ ∷ rest) why e =
    let r = first_refuses rest why e in
    record { before = Accepted ∷ r.before; after = r.after; split = ap (λ l. Accepted ∷ l) r.split; passed = (refl, r.passed) }
first_refuses (Err y ∷ rest) why e = record { before = []; after = rest; split = ap (λ a. a ∷ rest) e; passed = tt }

pub refuses_first : (stages : List Answer) (why : Refusal) → FirstRefuses stages why → first_of stages ≡ Err why
refuses_first stages why r = ap first_of r.split ∙ go r.before r.passed
  where
    go : (b : List Answer) → AllAccept b → first_of (b ++ (Err why ∷ r.after)) ≡ Err why
    go [] p = refl
    go (Ok _ ∷ b) p = go b p.1
    go (Err y ∷ b) p = never_both y (sym p.0)

-- as code meets them: a condition that fails stops there, one that holds passes on, and the last stage is the answer
pub stops : (why : Refusal) (tests : List Bool) (rest : List Answer) → all tests ≡ false → first_of (need why tests ∷ rest) ≡ Err why
stops why tests rest e = rw e

pub passes : (why : Refusal) (tests : List Bool) (rest : List Answer) → all tests ≡ true → first_of (need why tests ∷ rest) ≡ first_of rest
passes why tests rest e = rw e

pub last : (a : Answer) → first_of (a ∷ []) ≡ a
last (Ok _) = refl
last (Err why) = refl

-- several stages before others: a refusal among them stops there, and their acceptance passes on
stop : (xs ys : List Answer) (why : Refusal) → first_of xs ≡ Err why → Err why ≡ first_of (xs ++ ys)
stop [] ys why e = never_both why e
stop (Ok _ ∷ xs) ys why e = stop xs ys why e
stop (Err y ∷ xs) ys why e = sym e

pub stops_at : (xs ys : List Answer) (a : Answer) (why : Refusal) → a ≡ first_of xs → a ≡ Err why → a ≡ first_of (xs ++ ys)
stops_at xs ys a why f e = e ∙ stop xs ys why (sym f ∙ e)

pub passes_on : (xs ys : List Answer) (a : Answer) → a ≡ first_of xs → a ≡ Accepted → first_of (xs ++ ys) ≡ first_of ys
passes_on xs ys a f e = go xs (sym f ∙ e)
  where
    go : (xs : List Answer) → first_of xs ≡ Accepted → first_of (xs ++ ys) ≡ first_of ys
    go [] e = refl
    go (Ok _ ∷ xs) e = go xs e
    go (Err why ∷ xs) e = never_both why (sym e)

-- ---- one condition

pub branch : (b : Bool) (a : Answer) (why : Refusal) → cond b a (Err why) ≡ Accepted → T b × (a ≡ Accepted)
branch true a why e = (tt, e)
branch false a why e = never_both why (sym e)

pub of_branch : (b : Bool) (a : Answer) (why : Refusal) → T b → a ≡ Accepted → cond b a (Err why) ≡ Accepted
of_branch true a why t e = e
of_branch false a why t e = absurd t

pub need_accepts : (why : Refusal) (tests : List Bool) → need why tests ≡ Accepted → All tests
need_accepts why tests e = all_of tests (branch (all tests) Accepted why e).0

pub of_need : (why : Refusal) (tests : List Bool) → All tests → need why tests ≡ Accepted
of_need why tests p = of_branch (all tests) Accepted why (of_all tests p) refl

pub need_refuses : (why y : Refusal) (tests : List Bool) → need why tests ≡ Err y → (all tests ≡ false) × (why ≡ y)
need_refuses why y tests e = go (all tests) e
  where
    go : (b : Bool) → cond b Accepted (Err why) ≡ Err y → (b ≡ false) × (why ≡ y)
    go true e = never_both y e
    go false e = (refl, refused_same why y e)

-- of a lent buffer
pub short_room : (needed room : ℕ) → room < needed → buffer needed room ≡ Err no.Buffer
short_room needed room h = rw (lt-leb needed room h)

pub enough_room : (needed room : ℕ) → needed ≤ room → buffer needed room ≡ Accepted
enough_room needed room h = rw (le-leb needed room h)

-- ---- stages, then a lent buffer: what a call that writes has done where a stage refuses, where the buffer is too short, and where all is well

module _ {A : Type 0} (stages : List Answer) (needed : ℕ) (ws old : List A) (r : Answer) (e : r ≡ first_of stages) where
  abbrev answer : Answer
  answer = first_of (stages ++ (buffer needed (length old) ∷ []))

  pub stage_refused : (why : Refusal) → r ≡ Err why → Done answer (given answer ws) r old old
  stage_refused why f = refused_done answer r why ws old (stops_at stages (buffer needed (length old) ∷ []) r why e f) f

  -- the same of the answer that `?` hands on
  pub stage_handed : (q : Answer) (why : Refusal) → r ≡ Err why → IsErrAnd q (λ x. x ≡ why) → Done answer (given answer ws) q old old
  stage_handed q why f h = subst (λ a. Done answer (given answer ws) a old old) (f ∙ sym (handed_on q why h)) (stage_refused why f)

  past : r ≡ Accepted → answer ≡ first_of (buffer needed (length old) ∷ [])
  past f = passes_on stages (buffer needed (length old) ∷ []) r e f

  pub buffer_refused : r ≡ Accepted → length old < needed → Done answer (given answer ws) (Err no.Buffer) old old
  buffer_refused f h = refused_done answer (Err no.Buffer) no.Buffer ws old (sym (past f ∙ ap (λ a. first_of (a ∷ [])) (short_room needed (length old) h))) refl

  pub all_written : (after : List A) → r ≡ Accepted → needed ≤ length old → after ≡ over ws old → Done answer (given answer ws) Accepted old after
  all_written after f h w = accepted_done answer ws old after (past f ∙ ap (λ a. first_of (a ∷ [])) (enough_room needed (length old) h)) w
