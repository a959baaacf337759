-- `row_product` meets its contract: no step is larger than 2^62. Assumes nothing.
use mathlib.Core.Path.{◌≡◌}
use Prim.Native.Nat.{◌^◌, ◌≤◌}
use native.Mathlib.Omega.{arith}
use borrow.Author.Rules.{rules}
use lib.IntN.{pos, nat_abs}
use lib.Signed.{quot_z}
use mir.Syntax.{w64}
use mir.Val.{SFits}
use mir.ValLaws.{to_z-of_z}
use Rattle.meaning.specs.Products.{joined, negated_if}
use Rattle.products.specs.RowProductWorked.{worked}
use Rattle.products.proofs.RowProductLaws.{abs_joined, abs_negated}
use Rattle.products.proofs.row_product.row_product.Goals as goal
use Rattle.products.proofs.row_product.row_product.Goals.{After-divided, After-join-n, After-negate-signed}

fit_n : (c : After-join-n) → SFits w64 c.join-n.result
fit_n c = search rules

fit_t : (c : After-negate-signed) → SFits w64 c.negate-signed.result
fit_t c = search rules

fit_q : (c : After-divided) → SFits w64 c.divided.result
fit_q c = search rules

-- what each call gave, of the parameters themselves
n_is : (c : After-join-n) → let s = c.args in c.join-n.result ≡ joined s.p s.q s.x.l1 s.x.l2 s.x.s
n_is c = rw (to_z-of_z w64 _ c.ranges.p, to_z-of_z w64 _ c.ranges.q) at c.join-n.ensures

t_is : (c : After-negate-signed) → c.negate-signed.result ≡ negated_if c.is_negative-negative.result c.join-n.result
t_is c = rw (to_z-of_z w64 _ (fit_n (goal.at.divided-requires c).After-join-n)) at c.negate-signed.ensures

q_is : (c : After-divided) → c.divided.result ≡ quot_z c.negate-signed.result (pos (2 ^ c.args.x.r))
q_is c = rw (to_z-of_z w64 _ (fit_t (goal.at.returns c).After-negate-signed)) at c.divided.ensures

-- and how large it is
n_low : (c : After-join-n) → nat_abs c.join-n.result ≤ 2 ^ 62
n_low c =
    let s = c.args in
    let h = c.requires in
    rw (n_is c) (omega (arith, abs_joined s.p s.q s.x.l1 s.x.l2 s.x.s, h.first, h.second))

t_low : (c : After-negate-signed) → nat_abs c.negate-signed.result ≤ 2 ^ 62
t_low c = rw (t_is c, abs_negated c.is_negative-negative.result c.join-n.result) (n_low (goal.at.divided-requires c).After-join-n)

pub negate-signed-requires : goal.negate-signed-requires
negate-signed-requires c = rw (to_z-of_z w64 _ (fit_n (goal.at.negate-signed-requires c).After-join-n)) (n_low (goal.at.negate-signed-requires c).After-join-n)

pub divided-requires : goal.divided-requires
divided-requires c =
    let h = c.requires.back in
    rw (to_z-of_z w64 _ (fit_t c)) (omega arith, t_low c)

pub returns : goal.returns
unfolding worked
returns c =
    rw (to_z-of_z w64 _ (fit_q c), q_is c, t_is (goal.at.returns c).After-negate-signed, c.is_negative-negative.ensures, n_is (goal.at.returns c).After-join-n)
