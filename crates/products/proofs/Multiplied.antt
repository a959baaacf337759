-- What the call has done where a stage refuses and where all accept. Assumes nothing.
use mathlib.Core.Path.{◌≡◌, refl, ap₂, ◌∙◌, sym, subst₂}
use mathlib.Core.List.{List}
use Prim.Native.Nat.{ℕ, ◌≤◌, ◌<◌}
use native.Mathlib.Omega.{arith}
use lib.Dec.{T}
use lib.IntN.{ℤ}
use lib.ListN.{length}
use Rattle.std.specs.Prelude.{Err, IsErrAnd}
use Rattle.meaning.specs.declared.Refusal.{Refusal}
use Rattle.meaning.specs.declared.Refusal.TheVariants as no
use Rattle.meaning.specs.Basics.{every, over}
use Rattle.meaning.specs.Limits.{limit}
use Rattle.meaning.specs.Graph.{rows, values, is_served}
use Rattle.meaning.specs.Products.{target_products}
use Rattle.meaning.specs.Calls.{Checks}
use Rattle.meaning.specs.Refusals.{Answer, Accepted, Done, check_order, checked, multiplied, products_written}
use Rattle.laws.proofs.Lists.Tests.{in_every}
use Rattle.laws.proofs.Refusals.Checked.{good_of}
use Rattle.laws.proofs.Refusals.Stages.{stage_handed, buffer_refused, all_written}
use Rattle.products.specs.Worked.{Graph}

module _ (b : ℕ) (ts : List ℤ) (n : ℕ) (w : List ℕ) where
  module _ (count : ℕ) (words : List ℕ) (g : (count ≡ n) × (words ≡ w) × Checks b ts n w Accepted) where
    -- accepted rows are valid, and serve the targets
    pub rows_valid : Graph (rows count words)
    rows_valid =
        let good = good_of b ts n w (sym g.2) in
        subst₂ (λ k v. Graph (rows k v)) (sym g.0) (sym g.1)
        record {
          limit = limit b;
          least = let h = good.admits.bits in omega arith;
          most = let h = good.admits.bits in omega arith;
          sound = good.sound;
        }

    pub rows_serve : T (every (is_served (values (rows count words))) ts)
    rows_serve =
        subst₂ (λ k v. T (every (is_served (values (rows k v))) ts)) (sym g.0) (sym g.1) (in_every (is_served (values (rows n w))) ts (good_of b ts n w (sym g.2)).serves)

  module _ (x : ℤ) (old : List ℤ) where
    abbrev told : Answer
    told = multiplied b ts n w (length old)

    abbrev written : List ℤ
    written = products_written b ts n w x (length old)

    pub graph_refused : (q : Answer) (why : Refusal) → Checks b ts n w (Err why) → IsErrAnd q (λ x. x ≡ why) → Done told written q old old
    unfolding checked multiplied products_written
    graph_refused q why e h = stage_handed (check_order b ts n w) (length ts) _ old (checked b ts n w) refl q why (sym e) h

    pub short_buffer : Checks b ts n w Accepted → length old < length ts → Done told written (Err no.Buffer) old old
    unfolding checked multiplied products_written
    short_buffer e h = buffer_refused (check_order b ts n w) (length ts) _ old (checked b ts n w) refl (sym e) h

    pub all_multiplied : (count : ℕ) (words : List ℕ) (new : List ℤ) → (count ≡ n) × (words ≡ w) × Checks b ts n w Accepted → length ts ≤ length old
        → new ≡ over (target_products (rows count words) x ts) old → Done told written Accepted old new
    unfolding checked multiplied products_written
    all_multiplied count words new g h f =
        all_written (check_order b ts n w) (length ts) _ old (checked b ts n w) refl new (sym g.2) h
        (f ∙ ap₂ (λ k v. over (target_products (rows k v) x ts) old) g.0 g.1)
