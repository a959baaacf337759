-- What the code's steps mean. Assumes nothing.
use Rattle.std.specs.Prelude.{cond, ℕ, ◌/◌, ◌^◌, ℤ, nat_abs, Option, Some, None}
use Rattle.meaning.specs.declared.Made.{Made}
use Rattle.meaning.specs.Basics.{zeros}
use Rattle.meaning.specs.Operation.{is_outcome}

-- n's r and value, if there are such under the limit
unfoldable pub outcome_of : ℕ → ℤ → Option Made
outcome_of L n =
    let m : ℕ = nat_abs n in
    let r : ℕ = zeros m in
    let c : ℕ = m / 2 ^ r in
    cond (is_outcome L m r c) (Some (record { n = n; r = r; value = c })) None
