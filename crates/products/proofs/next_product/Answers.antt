-- `next_product` meets its contract. Assumes nothing.
use mathlib.Core.Path.{◌≡◌, sym, ◌∙◌, subst₂}
use Prim.Native.Nat.{ℕ, ◌≤◌}
use native.Mathlib.Omega.{arith}
use borrow.Author.Rules.{rules}
use lib.IntN.{ℤ, pos}
use lib.ListN.{get_or}
use mir.Syntax.{w64}
use mir.Val.{SFits, to_z, of_z}
use mir.ValLaws.{to_z-of_z}
use Rattle.products.specs.RowProductWorked.{Narrow}
use Rattle.products.proofs.Laws.{next_read, read_of}
use Rattle.products.proofs.next_product.Goals as goal
use Rattle.products.proofs.next_product.Goals.{After-p-1, After-q-1, After-after-x, After-row_product}

-- what is known of the row that was read
known : (c : After-after-x) → let s = c.args in let y = c.after-x.result in
    (y.u ≤ s.i) × (y.v ≤ s.i) × Narrow (get_or s.before.now y.u (pos 0)) (get_or s.before.now y.v (pos 0)) y
known c = read_of _ _ _ _ c.requires.1 c.after-x.ensures

abbrev before_at : After-after-x → ℕ → ℤ
before_at c k = get_or c.args.before.now k (pos 0)

p_is : (c : After-p-1) → let z = before_at (goal.at.bounds-before-second c).After-after-x c.after-x.result.u in to_z w64 (of_z w64 z) ≡ z
p_is c = to_z-of_z w64 _ (record { sfits = c.p-1.given })

q_is : (c : After-q-1) → let z = before_at (goal.at.row_product-requires c).After-after-x c.after-x.result.v in to_z w64 (of_z w64 z) ≡ z
q_is c = to_z-of_z w64 _ (record { sfits = c.q-1.given })

fit : (c : After-row_product) → SFits w64 c.row_product.result
fit c = search rules

pub value_at-u-requires : goal.value_at-u-requires
value_at-u-requires c = ((known (goal.at.value_at-u-requires c).After-after-x).0, omega arith)

pub value_at-v-requires : goal.value_at-v-requires
value_at-v-requires c = ((known (goal.at.value_at-v-requires c).After-after-x).1, omega arith)

pub bounds-before-first : goal.bounds-before-first
bounds-before-first c = let h = (known (goal.at.bounds-before-first c).After-after-x).0 in omega (arith, c.requires.1.count)

pub bounds-before-second : goal.bounds-before-second
bounds-before-second c = let h = (known (goal.at.bounds-before-second c).After-after-x).1 in omega (arith, c.requires.1.count)

pub row_product-requires : goal.row_product-requires
row_product-requires c =
    subst₂ (λ p q. Narrow p q c.after-x.result) (sym (p_is (goal.at.row_product-requires c).After-p-1)) (sym (q_is c)) (known (goal.at.row_product-requires c).After-after-x).2

pub returns : goal.returns
returns c =
    to_z-of_z w64 _ (fit c)
    ∙ c.row_product.ensures
    ∙ next_read _ _ _ c.after-x.result _ _ _ _ c.after-x.ensures c.value_at-u.ensures c.value_at-v.ensures (p_is (goal.at.returns c).After-p-1) (q_is (goal.at.returns c).After-q-1)
