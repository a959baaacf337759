-- `beyond_by` meets its contract: the filled map says what one operation reaches, and `served` what two do. Assumes nothing.
use mathlib.Core.Path.{◌≡◌, sym, ap, subst, ◌∙◌}
use mathlib.Core.Bool.{true, false}
use mathlib.Core.List.{List, ◌∷◌}
use Prim.Native.Nat.{ℕ}
use lib.ListN.{length}
use lib.Seq.{take-length}
use Rattle.meaning.specs.declared.Far.TheVariants.{One, Two, Beyond}
use Rattle.meaning.specs.Basics.{any, has}
use Rattle.meaning.specs.Distance.{does_reach, does_serve, candidates, distance}
use Rattle.search.proofs.Marks.{reached_is}
use Rattle.distance.proofs.beyond_by.Goals as goal
use Rattle.distance.proofs.beyond_by.Goals.{After-reached, After-served}

-- the three answers for a value that is not in the list
module _ (L : ℕ) (vals : List ℕ) (c : ℕ) (away : has vals c ≡ false) where
  one : does_reach L vals c ≡ true → One ≡ distance L vals c
  unfolding distance
  one e = rw (away, e)

  two : does_reach L vals c ≡ false → any (does_serve L vals c) (1 ∷ candidates L) ≡ true → Two ≡ distance L vals c
  unfolding distance
  two e f = rw (away, e, f)

  beyond : does_reach L vals c ≡ false → any (does_serve L vals c) (1 ∷ candidates L) ≡ false → Beyond ≡ distance L vals c
  unfolding distance
  beyond e f = rw (away, e, f)

-- what the calls say of the whole list
one_is : (c : After-reached) → let a = c.args in c.reached.result ≡ does_reach a.limit a.vals.now a.c
one_is c =
    let a = c.args in
    c.reached.ensures
    ∙ reached_is a.limit c.fill.new.map a.vals.now (length a.vals.now) a.c c.fill.ensures c.requires.1.odd.0 c.requires.1.odd.1
    ∙ ap (λ (xs : List ℕ). does_reach a.limit xs a.c) (take-length a.vals.now)

two_is : (c : After-served) → let a = c.args in c.served.result ≡ any (does_serve a.limit a.vals.now a.c) (1 ∷ candidates a.limit)
two_is c =
    let a = c.args in
    subst (λ (xs : List ℕ). c.served.result ≡ any (does_serve a.limit xs a.c) (1 ∷ candidates a.limit)) (take-length a.vals.now) c.served.ensures

pub fill-requires : goal.fill-requires
fill-requires c = (c.requires.0, c.requires.1.ready)

pub returns-then-reached : goal.returns-then-reached
returns-then-reached c =
    let a = c.args in
    one a.limit a.vals.now a.c c.requires.1.absent (sym (one_is (goal.at.returns-then-reached c).After-reached) ∙ c.if-reached.true)

pub served-requires : goal.served-requires
served-requires c =
    let a = c.args in (
      c.fill.ensures,
      c.requires.1.odd,
      ap (λ (xs : List ℕ). does_reach a.limit xs a.c) (take-length a.vals.now) ∙ sym (one_is (goal.at.served-requires c).After-reached) ∙ c.if-reached.false,
    )

pub returns-then-served : goal.returns-then-served
returns-then-served c =
    let a = c.args in
    two a.limit a.vals.now a.c c.requires.1.absent (sym (one_is (goal.at.returns-then-served c).After-reached) ∙ c.if-reached.false) (sym (two_is (goal.at.returns-then-served c).After-served) ∙ c.if-served.true)

pub returns : goal.returns
returns c =
    let a = c.args in
    beyond a.limit a.vals.now a.c c.requires.1.absent (sym (one_is (goal.at.returns c).After-reached) ∙ c.if-reached.false) (sym (two_is (goal.at.returns c).After-served) ∙ c.if-served.false)
